-- The fields by their places.
use Rattle.std.specs.Prelude.{[], ◌∷◌}
use Rattle.std.proofs.Common.{◌∙◌}
use Rattle.trace_text.proofs.read.Eleven.{twelve-fields}
use Rattle.trace_text.proofs.reading.read.fields_in.Goals as goal

pub returns : goal.returns
returns c =
    (λ i. c.field.ensures i ∷ c.field-2.ensures i ∷ c.field-3.ensures i ∷ c.field-4.ensures i ∷ c.field-5.ensures i ∷ c.field-6.ensures i ∷ c.field-7.ensures i ∷ c.field-8.ensures i ∷ c.field-9.ensures i ∷ c.field-10.ensures i ∷ c.field-11.ensures i ∷ c.field-12.ensures i ∷ []) ∙ twelve-fields _ c.requires
