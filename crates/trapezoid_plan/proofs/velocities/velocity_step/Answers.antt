-- Each branch is a case of the velocity step.
use Rattle.std.proofs.Common.{◌≡◌, pos, neg_ℤ, ◌-ℤ◌, arith, ◌∙◌, to_z, of_z, w64, FitsSigned, to_z-of_z}
use Rattle.std.proofs.lemmas.Int.{ints}
use Rattle.kin_core.specs.Toward.{toward_zero}
use Rattle.trapezoid_plan.proofs.VelocitySteps.{velocity-ahead, velocity-behind, velocity-other_way}
use Rattle.trapezoid_plan.proofs.velocities.velocity_step.Goals as goal
use Rattle.trapezoid_plan.proofs.velocities.velocity_step.Goals.{else-toward-ge0-via-then-toward-ge0+else-old-ge0, else-toward-ge0-via-else-toward-ge0, else-toward-le0-via-then-toward-le0+else-old-le0, else-toward-le0-via-else-toward-le0}

pub returns-then-old-ge0-clause-value : goal.returns-then-old-ge0-clause-value
returns-then-old-ge0-clause-value c =
    let fits : to_z w64 c.speed_after.result ≡ pos c.speed_after.result = omega (arith, ints) in
    fits ∙ velocity-ahead c.steps_fall_toward_zero.ensures _ _ _ _ _ _ (omega (arith, ints))
    (omega (arith, ints)) c.requires.rates.least_deceleration
    (omega (arith, ints, c.unsigned_abs.ensures.value))
    (omega (arith, ints, c.unsigned_abs-then-old-ge0.ensures.value)) c.speed_after.ensures.faster c.speed_after.ensures.slower

pub returns-then-old-le0-clause-value : goal.returns-then-old-le0-clause-value
returns-then-old-le0-clause-value c =
    let fits : to_z w64 (of_z w64 (pos 0 -ℤ to_z w64 c.speed_after-then-old-le0.result)) ≡ neg_ℤ
    (pos c.speed_after-then-old-le0.result) =
    omega (arith, ints) in
    fits ∙ velocity-behind c.steps_fall_toward_zero.ensures _ _ _ _ _ _ (omega (arith, ints))
    (omega (arith, ints)) c.requires.rates.least_deceleration
    (omega (arith, ints, c.unsigned_abs-then-old-le0.ensures.value))
    (omega (arith, ints, c.unsigned_abs-then-old-le0-2.ensures.value)) c.speed_after-then-old-le0.ensures.faster c.speed_after-then-old-le0.ensures.slower

pub returns-else-toward-le0-clause-value : goal.returns-else-toward-le0-clause-value
returns-else-toward-le0-clause-value c =
    let old : FitsSigned w64 c.args.old = c.ranges.old in
    let d : FitsSigned w64 c.args.rates.now.d = omega (arith, ints) in
    let value : c.halt_step.result ≡ toward_zero c.args.old c.args.rates.now.d =
    simp to_z-of_z at c.halt_step.ensures.value in
    let fits : to_z w64 (of_z w64 c.halt_step.result) ≡ c.halt_step.result = omega (arith, ints) in
    velocity-other_way _ _ _ _
    (elim c.else-toward-ge0.branch [
      | else-toward-ge0-via-then-toward-ge0+else-old-ge0 w ↦ λ p q. omega (arith, ints)
      | else-toward-ge0-via-else-toward-ge0 w ↦ λ p q. omega (arith, ints)
    ])
    (elim c.else-toward-le0.branch [
      | else-toward-le0-via-then-toward-le0+else-old-le0 w ↦ λ p q. omega (arith, ints)
      | else-toward-le0-via-else-toward-le0 w ↦ λ p q. omega (arith, ints)
    ])
    (fits ∙ value)
