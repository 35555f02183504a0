-- One axis more is looked at.
use Rattle.std.proofs.Common.{◌≡◌, true, arith, subst, inl, inr}
use Rattle.std.proofs.lemmas.Bool.{cases_lt}
use Rattle.motion_kernel.specs.kept.Machine.{IsAxisKept}
use Rattle.kernel_invariants.proofs.machine.are_axes_kept.Goals as goal

pub loop-axis-preserved : goal.loop-axis-preserved
loop-axis-preserved c =
    let test = c.if-not-is_axis_at.false in
    let passed : c.is_axis_at.result ≡ true = cc in
    λ n l. elim (cases_lt n c.loop-axis.axis) [
      | inl below ↦ c.loop-axis.invariant n below
      | inr at ↦
          let same : c.loop-axis.axis ≡ n = omega arith in
          subst (IsAxisKept c.args.config.now c.args.start.now) same (c.is_axis_at.ensures.0 passed)
    ]
