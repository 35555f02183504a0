use Rattle.std.proofs.Common.{◌≡◌}
use Rattle.kernel_tests.proofs.tests.rings.Kernel.pass_all.Given as goal

abbrev pub invariant-loop-number : goal.invariant-loop-number
invariant-loop-number g l = l.self.end.ring ≡ l.fn.self.end.ring
