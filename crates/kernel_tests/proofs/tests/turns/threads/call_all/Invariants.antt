use Rattle.std.proofs.Common.{◌≡◌}
use Rattle.kernel_turn.specs.Turns.{IsSamePermit}
use Rattle.kernel_tests.proofs.tests.turns.threads.call_all.Given as goal

abbrev pub invariant-loop-place : goal.invariant-loop-place
invariant-loop-place g l =
    IsSamePermit l.fn.permit l.permit × (l.permit.table ≡ l.turns) × (l.permit.config ≡ l.config)
