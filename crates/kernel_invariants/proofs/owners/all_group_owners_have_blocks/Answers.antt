-- One group more is looked at.
use Rattle.std.proofs.Common.{◌≡◌, true, arith, subst, inl, inr}
use Rattle.std.proofs.lemmas.Bool.{cases_lt}
use Rattle.motion_kernel.specs.owners.Blocks.{OwnersHaveBlocksOn}
use Rattle.motion_kernel.specs.owners.Objects.{a_group}
use Rattle.kernel_invariants.proofs.owners.all_group_owners_have_blocks.Goals as goal

pub loop-group-preserved : goal.loop-group-preserved
loop-group-preserved c =
    let test = c.if-not-group_owners_have_blocks.false in
    let passed : c.group_owners_have_blocks.result ≡ true = cc in
    λ n l. elim (cases_lt n c.loop-group.group) [
      | inl below ↦ c.loop-group.invariant n below
      | inr at ↦
          let same : c.loop-group.group ≡ n = omega arith in
          subst (λ k. OwnersHaveBlocksOn c.args.config.now c.args.start.now (a_group k)) same (c.group_owners_have_blocks.ensures.0 passed)
    ]
