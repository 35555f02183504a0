-- The lines to the drives, as outputs go into them and answers come. This project's profile.
use Rattle.std.specs.Prelude.{◌≡◌, ◌≤◌, ℕ, List, [], ◌∷◌, ◌++◌, map, length, true, false, Some, slice_get}
use Rattle.plc_types.specs.declared.axis.AxisDef.{AxisDef}
use Rattle.plc_types.specs.declared.drive.DriveIn.{DriveIn}
use Rattle.plc_types.specs.declared.drive.DriveOut.{DriveOut}
use Rattle.drive_jobs.specs.DriveLinkState.{DriveLinkState}
use Rattle.drive_jobs.specs.Log.{IsLogOf}
use Rattle.drive_jobs.specs.declared.drive_job.DriveJob.{DriveJob}
use Rattle.drive_sim.specs.Sim.{DriveSim}
use Rattle.machine_drives.specs.Drives.{drive_at_opening, outputs_in}
use Rattle.motion_history.specs.Entries.{Entry}
use Rattle.motion_history.specs.declared.drives.DriveDef.{DriveDef}
use Rattle.motion_plant.specs.Makers.{Logged}
use Rattle.setpoint_ring.specs.declared.logs.DriveLog.{DriveLog}

-- a line from which one answer more was taken
unfoldable pub with_answer : DriveLinkState → DriveIn → DriveLinkState
with_answer l x = record l { ins = l.ins ++ x ∷ [] }

-- a line into which one output more went
unfoldable pub with_output : DriveLinkState → DriveOut → DriveLinkState
with_output l x = record l { outs = l.outs ++ x ∷ [] }

-- a line into which no output goes any more
abbrev pub ended_line : DriveLinkState → DriveLinkState
ended_line l = record l { ended = true }

-- the job at the other end
abbrev pub job_of : DriveLinkState → DriveJob
job_of l = l.job

-- the drive at the other end, as it was when its job was started
abbrev pub drive_of : DriveLinkState → DriveSim
drive_of l = l.job.drive

-- the entries themselves
abbrev pub entries_of : List Logged → List Entry
entries_of cs = map (λ (c : Logged). c.entry) cs

-- a line to the drive of this axis, through which nothing went yet
pub record IsNewLink (axes : List AxisDef) (defs : List DriveDef) (n : ℕ) (l : DriveLinkState)
    : Type 0 where
  pub axis : AxisDef
  pub def : DriveDef
  pub axis_at : slice_get axes n ≡ Some axis
  pub def_at : slice_get defs n ≡ Some def
  pub drive : drive_of l ≡ drive_at_opening axis def
  pub outs : l.outs ≡ []
  pub ins : l.ins ≡ []
  pub ended : l.ended ≡ false

-- the line of this axis has the outputs of these cycles, and as many answers
pub record IsInStep (cs : List Logged) (i : ℕ) (l : DriveLinkState) : Type 0 where
  pub outs : l.outs ≡ outputs_in i (entries_of cs)
  pub ins : length l.ins ≡ length cs
  pub goes_on : l.ended ≡ false

-- it has the outputs of these cycles, and at least as many answers
pub record HasColumn (cs : List Logged) (i : ℕ) (l : DriveLinkState) : Type 0 where
  pub outs : l.outs ≡ outputs_in i (entries_of cs)
  pub ins : length cs ≤ length l.ins

-- the log of the line in this place
abbrev pub IsLogAt : List DriveLinkState → ℕ → DriveLog → Type 0
IsLogAt lines i g =
    (l : DriveLinkState) × (slice_get lines i ≡ Some l) × IsLogOf l.job.drive l.outs l.ins g
