-- How far a drive's job has come. This project's profile.
use Rattle.std.specs.Prelude.{◌≡◌}
use Rattle.drive_sim.specs.Runs.{answers_of, drive_after}
use Rattle.drive_sim.specs.Sim.{DriveSim}
use Rattle.setpoint_ring.specs.Sides.{DriveSide, HasEnded, Ring}
use Rattle.drive_jobs.specs.declared.drive_job.DriveJobEnd.{DriveJobEnd}

-- a drive that opened so has answered what it took, each output once and in order, and is where
-- these lead it
pub record IsAnswered (opening drive : DriveSim) (end : DriveSide) : Type 0 where
  pub answers : end.sent ≡ answers_of opening end.taken
  pub drive_is : drive ≡ drive_after opening end.taken

-- the job of a drive that opened so has ended, with its end of this ring: it saw the end that the
-- kernel sent after the last output
pub record IsDone (opening : DriveSim) (ring : Ring) (e : DriveJobEnd) : Type 0 where
  pub ring_is : e.end.ring ≡ ring
  pub ended : HasEnded e.end
  pub answered : IsAnswered opening e.drive e.end
