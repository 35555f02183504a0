-- The next record was read.
use Rattle.trace_columns.proofs.RecordSteps.{reads-next}
use Rattle.trace_columns.proofs.records.next_record.Goals as goal

pub returns : goal.returns
returns c = λ left is.
    reads-next _ c.args.rdr.now _ _ _ left is (c.in-Ok.ensures.reads is.trim is.ready) (c.in-Ok.ensures.ready is.trim)
