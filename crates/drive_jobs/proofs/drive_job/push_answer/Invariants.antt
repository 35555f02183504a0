-- Nothing changes while no slot is free.
use Rattle.std.proofs.Common.{◌≡◌}
use Rattle.drive_jobs.proofs.drive_job.push_answer.Given as goal

abbrev pub invariant-loop : goal.invariant-loop
invariant-loop g l = (l.end.ring ≡ l.fn.end.ring) × (l.end.sent ≡ l.fn.end.sent) × (l.end.taken ≡ l.fn.end.taken)
