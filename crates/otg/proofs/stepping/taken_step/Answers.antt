-- The taken step is the safe one nearest to the wanted one, by the limits and setpoints of the
-- generator.
use Rattle.std.proofs.Common.{◌≡◌, ℤ, w64, FitsSigned, to_z-of_z}
use Rattle.jerk_core.specs.declared.limits.JerkLimits.{JerkLimits}
use Rattle.jerk_core.specs.declared.motions.Setpoints.{Setpoints}
use Rattle.jerk_core.specs.Admissible.{IsTakenByJerk}
use Rattle.otg.specs.Open.{limits_of, setpoints_of}
use Rattle.otg.proofs.Opens.{jerk_limits_of}
use Rattle.otg.proofs.stepping.taken_step.Goals as goal

pub nearest_safe_counted-requires-clause-limits : goal.nearest_safe_counted-requires-clause-limits
nearest_safe_counted-requires-clause-limits g c = rw c.limits.ensures (jerk_limits_of c.args.otg.now c.requires.opened.limits)

pub nearest_safe_counted-requires-clause-kept : goal.nearest_safe_counted-requires-clause-kept
nearest_safe_counted-requires-clause-kept g c = rw (c.limits.ensures, c.setpoints.ensures) c.requires.opened.kept

-- the same of equal limits and setpoints
taken_of : (limits own : JerkLimits) (at here : Setpoints) (wanted goal step result : ℤ) → limits ≡ own → at ≡ here → wanted ≡ goal → result ≡ step →
    IsTakenByJerk limits at.first at.before at.current wanted step →
    IsTakenByJerk own here.first here.before here.current goal result
taken_of limits own at here wanted goal step result same there want is taken = rw is (rw (same, there, want) at taken)

pub returns-clause-taken : goal.returns-clause-taken
returns-clause-taken g c =
    let fits : FitsSigned w64 c.nearest_safe_counted.result = record { sfits = c.nearest_safe_counted.type_inv } in
    let wanted_fits : FitsSigned w64 c.wanted_step-wanted.result = record { sfits = c.wanted_step-wanted.type_inv } in
    record {
      wanted = c.wanted_step-wanted.result;
      wants = c.wanted_step-wanted.ensures.wanted;
      taken = taken_of c.limits.result (limits_of c.args.otg.now) c.setpoints.result (setpoints_of c.args.otg.now) _ c.wanted_step-wanted.result c.nearest_safe_counted.result _
          c.limits.ensures c.setpoints.ensures (to_z-of_z wanted_fits) (to_z-of_z fits) c.nearest_safe_counted.ensures.taken;
    }
