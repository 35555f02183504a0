-- One group more is looked at.
use Rattle.std.proofs.Common.{◌≡◌, true, arith, subst, inl, inr}
use Rattle.std.proofs.lemmas.Bool.{cases_lt}
use Rattle.group_core.specs.Targets.{IsToward}
use Rattle.kernel_invariants.specs.States.{GroupIsInState}
use Rattle.motion_kernel.specs.Machine.{group_at}
use Rattle.kernel_invariants.proofs.states.are_groups_in_state.Goals as goal

pub loop-group-preserved : goal.loop-group-preserved
loop-group-preserved c =
    let test = c.if-not-is_group_in_state_at.false in
    let passed : c.is_group_in_state_at.result ≡ true = cc in
    λ n l. elim (cases_lt n c.loop-group.group) [
      | inl below ↦ c.loop-group.invariant n below
      | inr at ↦
          let same : c.loop-group.group ≡ n = omega arith in
          subst (λ k. (GroupIsInState (group_at c.args.start.now k).group × IsToward (group_at c.args.start.now k).group.active (group_at c.args.start.now k).path)) same (c.is_group_in_state_at.ensures.0 passed)
    ]
