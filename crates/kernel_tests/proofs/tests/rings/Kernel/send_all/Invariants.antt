use Rattle.std.proofs.Common.{◌≡◌}
use Rattle.kernel_tests.proofs.tests.rings.Kernel.send_all.Given as goal

abbrev pub invariant-loop : goal.invariant-loop
invariant-loop g l = l.self.end.ring ≡ l.fn.self.end.ring
