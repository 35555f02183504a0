-- The fields by their places.
use Rattle.std.specs.Prelude.{◌≡◌, [], ◌∷◌, IfOk, slice_set}
use Rattle.std.proofs.Common.{◌∙◌, subst}
use Rattle.csv.specs.Records.{fields_of}
use Rattle.trace_check.proofs.Fields.{last-set}
use Rattle.trace_check.proofs.record.Record.with_last.Goals as goal

pub returns : goal.returns
returns c =
    let e : slice_set (fields_of c.self.inside.row) 11 c.args.last.now ≡ slice_set c.args.self.now 11 c.args.last.now = cc c.self.view_is in
    subst (λ t. IfOk c.new.result (λ r. r ≡ t))
    ((λ i. c.field.ensures i ∷ c.field-2.ensures i ∷ c.field-3.ensures i ∷ c.field-4.ensures i ∷ c.field-5.ensures i ∷ c.field-6.ensures i ∷ c.field-7.ensures i ∷ c.field-8.ensures i ∷ c.field-9.ensures i ∷ c.field-10.ensures i ∷ c.field-11.ensures i ∷ c.args.last.now ∷ []) ∙ last-set _ c.args.last.now c.self.invariant ∙ e)
    c.new.ensures
