-- One axis more is looked at.
use Rattle.std.proofs.Common.{◌≡◌, true, arith, subst, inl, inr}
use Rattle.std.proofs.lemmas.Bool.{cases_lt}
use Rattle.motion_kernel.specs.owners.Blocks.{command_state_at}
use Rattle.motion_kernel.specs.owners.Kinds.{AreOfTheirBlocks}
use Rattle.motion_kernel.specs.owners.Objects.{an_axis}
use Rattle.kernel_invariants.proofs.owners.kinds.are_of_all_axes.Goals as goal

pub loop-axis-preserved : goal.loop-axis-preserved
loop-axis-preserved c =
    let test = c.if-not-are_of_an_axis.false in
    let passed : c.are_of_an_axis.result ≡ true = cc in
    λ n l. elim (cases_lt n c.loop-axis.axis) [
      | inl below ↦ c.loop-axis.invariant n below
      | inr at ↦
          let same : c.loop-axis.axis ≡ n = omega arith in
          subst (λ k. AreOfTheirBlocks c.args.config.now (command_state_at c.args.start.now (an_axis k))) same (c.are_of_an_axis.ensures.0 passed)
    ]
