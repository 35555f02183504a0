-- The groups so far are as their states say.
use Rattle.std.proofs.Common.{ℕ, ◌<◌}
use Rattle.group_core.specs.Targets.{IsToward}
use Rattle.kernel_invariants.specs.States.{GroupIsInState}
use Rattle.motion_kernel.specs.Machine.{group_at}
use Rattle.kernel_invariants.proofs.states.are_groups_in_state.Given as goal

abbrev pub invariant-loop-group : goal.invariant-loop-group
invariant-loop-group l = (n : ℕ) → n < l.group → (GroupIsInState (group_at l.start n).group × IsToward (group_at l.start n).group.active (group_at l.start n).path)
