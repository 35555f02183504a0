-- One axis more is looked at.
use Rattle.std.proofs.Common.{◌≡◌, true, arith, subst, inl, inr}
use Rattle.std.proofs.lemmas.Bool.{cases_lt}
use Rattle.motion_kernel.specs.Machine.{axis_at}
use Rattle.motion_laws.specs.Standing.{IsSteered}
use Rattle.segment_check.proofs.steered.are_steered.Goals as goal

pub loop-axis-preserved : goal.loop-axis-preserved
loop-axis-preserved c =
    let test = c.if-not-is_steered_at.false in
    let passed : c.is_steered_at.result ≡ true = cc in
    λ n l. elim (cases_lt n c.loop-axis.axis) [
      | inl below ↦ c.loop-axis.invariant n below
      | inr at ↦
          let same : c.loop-axis.axis ≡ n = omega arith in
          subst (λ k. IsSteered (axis_at c.args.start.now k)) same (c.is_steered_at.ensures.0 passed)
    ]
