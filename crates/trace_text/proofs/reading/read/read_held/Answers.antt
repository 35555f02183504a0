-- What is read keeps what every trace does, and is the trace that the text is, as far as it is
-- held.
use Rattle.std.proofs.Common.{◌∙◌, ap, sym}
use Rattle.trace_columns.specs.Records.{records_of}
use Rattle.trace_text.specs.reading.Reading.{records_meaning}
use Rattle.trace_text.proofs.read.Apart.{held-kept, held-reads}
use Rattle.trace_text.proofs.reading.read.read_held.Goals as goal

pub trace_of-requires : goal.trace_of-requires
trace_of-requires c = λ t h setup.
    let whole = c.in-Ok.ensures.0 in
    held-kept c.args.within_room whole _ (records_of c.args.text.now) t c.in-Ok.ensures.2 (ap (λ s. records_meaning 0 s (records_of c.args.text.now)) (sym c.in_ok-reader.ensures.ok) ∙ c.in-Ok.ensures.1) h setup

pub returns-in-Ok-clause-held : goal.returns-in-Ok-clause-held
returns-in-Ok-clause-held c =
    let whole = c.in-Ok.ensures.0 in
    held-reads c.args.text.now c.args.within_room whole c.hold_records.new.reader c.in-Ok.last c.trace_of.result c.in-Ok.ensures.2 (ap (λ s. records_meaning 0 s (records_of c.args.text.now)) (sym c.in_ok-reader.ensures.ok) ∙ c.in-Ok.ensures.1) c.in-Ok.ensures.3 c.trace_of.ensures.reading
