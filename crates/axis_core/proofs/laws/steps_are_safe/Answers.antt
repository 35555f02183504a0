-- A step that is safe is taken as it is wanted, and a taken step is safe.
use Rattle.std.proofs.Common.{subst, ◌+ℤ◌}
use Rattle.std.proofs.lemmas.Bool.Decides.{Decides-int_eq}
use Rattle.kin_core.specs.Admissible.{IsSafe}
use Rattle.axis_core.specs.Steps.{taken_step_in}
use Rattle.axis_core.proofs.laws.steps_are_safe.Goals as goal

pub returns : goal.returns
returns c = record {
  taken = λ a step limits kept. c.taken_steps_keep.ensures.taken a.limits a.previous a.setpoint step limits kept;
  safe = λ a step limits kept. (
    λ same.
        let is = (Decides-int_eq (taken_step_in a step) step).0 same in
        subst (λ z. IsSafe a.limits a.previous a.setpoint (a.setpoint +ℤ z)) is
        (c.taken_steps_keep.ensures.taken a.limits a.previous a.setpoint step limits kept).safe,
    λ safe. (Decides-int_eq (taken_step_in a step) step).1 (c.taken_steps_keep.ensures.exact a.limits a.previous a.setpoint step limits kept safe),
  );
}
