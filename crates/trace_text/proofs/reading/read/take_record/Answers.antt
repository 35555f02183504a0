-- The record leads the trace as it leads the reader.
use Rattle.csv.specs.Records.{fields_of}
use Rattle.trace_text.proofs.read.Apart.{taken-apart, then-apart}
use Rattle.trace_text.specs.reading.Reading.{meaning}
use Rattle.trace_text.proofs.reading.read.take_record.Goals as goal

pub returns-then-within_room-clause-taken : goal.returns-then-within_room-clause-taken
returns-then-within_room-clause-taken c = λ whole at.
    then-apart (meaning whole (fields_of c.args.row.now)) c.read_record-taken.new.reader _ c.args.first.now _ c.read_record-taken.result
    (taken-apart whole c.args.reader.now c.read_record-taken.new.reader c.args.first.now (fields_of c.args.row.now) c.read_record-taken.result at c.read_record-taken.ensures) c.set_apart.ensures

pub returns-else-within_room-clause-taken : goal.returns-else-within_room-clause-taken
returns-else-within_room-clause-taken c = λ whole at.
    taken-apart whole c.args.reader.now c.read_record-taken.new.reader c.args.first.now (fields_of c.args.row.now) c.read_record-taken.result at c.read_record-taken.ensures
