-- One group more is looked at.
use Rattle.std.proofs.Common.{◌≡◌, true, arith, subst, inl, inr}
use Rattle.std.proofs.lemmas.Bool.{cases_lt}
use Rattle.motion_kernel.specs.owners.Blocks.{command_state_at}
use Rattle.motion_kernel.specs.owners.Kinds.{AreOfTheirBlocks}
use Rattle.motion_kernel.specs.owners.Objects.{a_group}
use Rattle.kernel_invariants.proofs.owners.kinds.are_of_all_groups.Goals as goal

pub loop-group-preserved : goal.loop-group-preserved
loop-group-preserved c =
    let test = c.if-not-are_of_a_group.false in
    let passed : c.are_of_a_group.result ≡ true = cc in
    λ n l. elim (cases_lt n c.loop-group.group) [
      | inl below ↦ c.loop-group.invariant n below
      | inr at ↦
          let same : c.loop-group.group ≡ n = omega arith in
          subst (λ k. AreOfTheirBlocks c.args.config.now (command_state_at c.args.start.now (a_group k))) same (c.are_of_a_group.ensures.0 passed)
    ]
