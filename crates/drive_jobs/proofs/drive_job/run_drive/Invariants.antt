-- What was taken so far is answered.
use Rattle.std.proofs.Common.{◌≡◌}
use Rattle.drive_jobs.specs.Answered.{IsAnswered}
use Rattle.drive_jobs.proofs.drive_job.run_drive.Given as goal

abbrev pub invariant-loop : goal.invariant-loop
invariant-loop g l = (l.end.ring ≡ l.fn.end.ring) × IsAnswered l.fn.drive l.drive l.end
