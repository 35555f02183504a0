-- One axis more is looked at.
use Rattle.std.proofs.Common.{◌≡◌, true, arith, subst, inl, inr}
use Rattle.std.proofs.lemmas.Bool.{cases_lt}
use Rattle.motion_kernel.specs.owners.Blocks.{OwnersHaveBlocksOn}
use Rattle.motion_kernel.specs.owners.Objects.{an_axis}
use Rattle.kernel_invariants.proofs.owners.all_axis_owners_have_blocks.Goals as goal

pub loop-axis-preserved : goal.loop-axis-preserved
loop-axis-preserved c =
    let test = c.if-not-axis_owners_have_blocks.false in
    let passed : c.axis_owners_have_blocks.result ≡ true = cc in
    λ n l. elim (cases_lt n c.loop-axis.axis) [
      | inl below ↦ c.loop-axis.invariant n below
      | inr at ↦
          let same : c.loop-axis.axis ≡ n = omega arith in
          subst (λ k. OwnersHaveBlocksOn c.args.config.now c.args.start.now (an_axis k)) same (c.axis_owners_have_blocks.ensures.0 passed)
    ]
