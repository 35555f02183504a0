-- The parts one after the other.
use Rattle.std.proofs.Common.{◌∙◌, rules, w64, FitsSigned, to_z-of_z}
use Rattle.trace_text.specs.Records.{follow_text}
use Rattle.trace_text.proofs.written.Joined.{three-parts}
use Rattle.trace_text.proofs.writing.parts.gear_text.Goals as goal

pub returns : goal.returns
unfolding follow_text
returns c =
    let n : FitsSigned w64 c.args.inputs.now.numerator = search rules in
    let d : FitsSigned w64 c.args.inputs.now.denominator = search rules in
    three-parts _ _ _ _ _ _ (simp to_z-of_z at c.in_ok-push_number-2.ensures) (simp to_z-of_z at c.in_ok-push_number.ensures)
    (c.in_ok-text.ensures.items ∙ c.name_text.ensures ∙ c.axis_name-master.ensures)
