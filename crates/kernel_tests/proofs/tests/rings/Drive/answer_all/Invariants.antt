use Rattle.std.proofs.Common.{◌≡◌}
use Rattle.kernel_tests.proofs.tests.rings.Drive.answer_all.Given as goal

abbrev pub invariant-loop-2 : goal.invariant-loop-2
invariant-loop-2 g l = l.self.end.ring ≡ l.fn.self.end.ring

abbrev pub invariant-loop : goal.invariant-loop
invariant-loop g l = l.self.end.ring ≡ l.fn.self.end.ring
