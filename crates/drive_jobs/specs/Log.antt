-- What a drive's log gives. This project's profile.
use Rattle.std.specs.Prelude.{◌≡◌, suc, List, length}
use mathlib.Core.List.{IsPrefix}
use Rattle.plc_types.specs.declared.drive.DriveIn.{DriveIn}
use Rattle.plc_types.specs.declared.drive.DriveOut.{DriveOut}
use Rattle.drive_sim.specs.Runs.{answers_of, drive_after}
use Rattle.drive_sim.specs.Sim.{DriveSim}
use Rattle.drive_sim.specs.Steps.{answer_of}
use Rattle.setpoint_ring.specs.declared.logs.DriveLog.{DriveLog}

-- the log of a drive that opened so and was given these outputs, of which the kernel took these
-- answers: it took each output once and in order, and answered at opening and after each
pub record IsLogOf (opening : DriveSim) (outs : List DriveOut) (ins : List DriveIn)
    (log : DriveLog) : Type 0 where
  pub took : log.took ≡ outs
  pub taken : log.taken ≡ length outs
  pub sent : log.sent ≡ suc (length outs)
  pub last : log.last ≡ answer_of (drive_after opening outs)
  pub answers : IsPrefix ins (answers_of opening outs)
