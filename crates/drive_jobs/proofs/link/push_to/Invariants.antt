-- Nothing changes while no slot is free.
use Rattle.std.proofs.Common.{◌≡◌}
use Rattle.drive_jobs.proofs.link.push_to.Given as goal

abbrev pub invariant-loop : goal.invariant-loop
invariant-loop g l = l.kernel ≡ l.fn.kernel
