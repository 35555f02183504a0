-- Nothing changes while no answer is there.
use Rattle.std.proofs.Common.{◌≡◌}
use Rattle.drive_jobs.proofs.link.take_from.Given as goal

abbrev pub invariant-loop : goal.invariant-loop
invariant-loop g l = l.kernel ≡ l.fn.kernel
