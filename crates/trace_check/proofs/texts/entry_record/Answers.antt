-- The record at a place of the text.
use Rattle.std.specs.Prelude.{◌≡◌, IfOk, Some, slice_get}
use Rattle.std.proofs.Common.{◌∙◌, ap, subst}
use Rattle.motion_history.specs.Looks.{told}
use Rattle.trace_columns.specs.Records.{records_of}
use Rattle.trace_text.specs.Records.{padded}
use Rattle.trace_text.specs.Trace.{entry_records}
use Rattle.trace_check.proofs.Numbered.{get-map}
use Rattle.trace_check.proofs.texts.entry_record.Goals as goal

pub returns : goal.returns
returns c =
    let records = entry_records c.args.version c.args.config.now (told c.args.entry.now) in
    subst (λ o. IfOk c.record_at.result (λ r. o ≡ Some r))
    (ap (λ t. slice_get (records_of t) c.args.place) (c.as_slice.ensures.value ∙ c.in_ok-text.ensures) ∙
    ap (λ rs. slice_get rs c.args.place) (c.records_are_read_back.ensures.entries c.args.version c.args.config.now (told c.args.entry.now)) ∙
    get-map padded records c.args.place)
    c.record_at.ensures
