-- The groups so far are kept.
use Rattle.std.proofs.Common.{ℕ, ◌<◌}
use Rattle.motion_kernel.specs.kept.Machine.{IsGroupKept}
use Rattle.kernel_invariants.proofs.machine.are_groups_kept.Given as goal

abbrev pub invariant-loop-group : goal.invariant-loop-group
invariant-loop-group l = (j : ℕ) → j < l.group → IsGroupKept l.config l.start j
