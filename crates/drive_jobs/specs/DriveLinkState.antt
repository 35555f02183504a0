-- What contracts see of a line: the drive's job, and what went through its ring. This project's
-- profile.
use Rattle.std.specs.Prelude.{List, Bool}
use Rattle.plc_types.specs.declared.drive.DriveIn.{DriveIn}
use Rattle.plc_types.specs.declared.drive.DriveOut.{DriveOut}
use Rattle.drive_jobs.specs.declared.drive_job.DriveJob.{DriveJob}

-- the job that was started, the outputs that its drive was given, the answers that were taken, and
-- whether the drive knows that no output comes any more
pub record DriveLinkState : Type 0 where
  pub job : DriveJob
  pub outs : List DriveOut
  pub ins : List DriveIn
  pub ended : Bool
