use Rattle.std.proofs.Common.{◌≡◌}
use Rattle.kernel_tests.proofs.tests.standbys.taking.take_all.Given as goal

abbrev pub invariant-loop : goal.invariant-loop
invariant-loop l = l.standby.ring ≡ l.fn.standby.ring
