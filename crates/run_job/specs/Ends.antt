-- How the job ends. This project's profile.
use Rattle.std.specs.Prelude.{◌≡◌, ◌⊎◌, ℕ, ◌+◌, Option, List, length, map, true}
use Rattle.job_ends.specs.Causes.{is_traced}
use Rattle.job_ends.specs.Courses.{Says}
use Rattle.job_ends.specs.Ends.{EndsBy, EndsEarly}
use Rattle.job_ends.specs.declared.status.Status.{Status}
use Rattle.machine_config.specs.declared.machine.Machine.{Machine}
use Rattle.machine_drives.specs.Drives.{drives_at_opening}
use Rattle.motion_history.specs.Entries.{Entry}
use Rattle.motion_history.specs.Setup.{Setup}
use Rattle.motion_history.specs.declared.refused.TraceVersion.{TraceVersion}
use Rattle.motion_history.specs.declared.drives.DriveDef.{DriveDef}
use Rattle.motion_plant.specs.Ran.{PlantRan}
use Rattle.outside.specs.Told.{FileMap}
use Rattle.plc_program.specs.Programs.{IsProgramOf}
use Rattle.plc_program.specs.Reading.{Outcome}
use Rattle.plc_program.specs.declared.program.Instruction.{Instruction}
use Rattle.setpoint_ring.specs.declared.logs.DriveLog.{DriveLog}
use Rattle.trace_check.specs.KeptHistories.{IsReadBack}
use Rattle.trace_text.specs.Trace.{trace_version}
use Rattle.trace_text.specs.declared.command.Command.TheVariants.{Run}
use Rattle.trace_text.specs.writing.Writes.{Output}
use Rattle.run_job.specs.Causes.{run_job}
use Rattle.run_job.specs.Headline.{HasEnded, RunHeadline}
use Rattle.run_job.specs.Plans.{end_row, no_thread_plan, run_plan}
use Rattle.job_ends.specs.Machines.{GivesMachine}
use Rattle.run_job.specs.Plants.{GivesProgram, NoPlant}

-- the trace of a history with these logs was written, with the status that says how it ended
pub record WritesTrace (version : TraceVersion) (setup : Setup) (h : List Entry)
    (logs : List DriveLog) (old new : Output) (s : Status) : Type 0 where
  pub status : Status
  pub ended : HasEnded status setup h
  pub ends : EndsBy old new (run_plan version status setup h (map end_row logs)) s
  -- where the status stands for a trace, its text is read as that of all this
  pub again : is_traced s ≡ true →
      IsReadBack (trace_version version setup) Run setup h (map end_row logs)

-- a plant ran, and the trace of its history was written
pub record WritesRun (version : TraceVersion) (Started : ℕ → Type 0) (setup : Setup)
    (program : List (List Instruction)) (drives : List DriveDef) (old new : Output) (s : Status) : Type 0 where
  pub started : Started (length setup.axes + length setup.tasks)
  pub history : List Entry
  pub logs : List DriveLog
  pub ran : PlantRan setup program (drives_at_opening setup.axes drives) history logs
  pub writes : WritesTrace version setup history logs old new s

-- how the job ends with a plant: it ran; or a thread was refused, and it was said so; or memory ran
-- out
abbrev pub EndsByPlant : TraceVersion → Type 0 → (ℕ → Type 0) → Setup → List (List Instruction) →
    List DriveDef → Output → Output → Status → Type 0
EndsByPlant version refused Started setup program drives old new s =
    WritesRun version Started setup program drives old new s ⊎
    ((refused × EndsBy old new no_thread_plan s) ⊎ EndsEarly old new s)

-- how it ends where the files give a machine and its program
pub record EndsByBoth (told : Option FileMap) (refused : Type 0) (Started : ℕ → Type 0)
    (config program : List ℕ) (old new : Output) (s : Status) : Type 0 where
  pub machine : Machine
  pub outcome : Outcome
  pub gives : GivesMachine told config machine
  pub tasks : GivesProgram told program machine outcome
  pub whole : IsProgramOf outcome.setup outcome.program
  pub each : length machine.drives ≡ length outcome.setup.axes
  pub ends : EndsByPlant machine.version refused Started outcome.setup outcome.program
      machine.drives old new s

-- how it ends: the files give no plant, or they give one
abbrev pub Course : Option FileMap → Type 0 → Type 0 → (ℕ → Type 0) → List ℕ → List ℕ →
    Output → Output → Status → Type 0
Course told rose refused Started config program old new s =
    NoPlant told rose config program old new s ⊎
    EndsByBoth told refused Started config program old new s

-- how the job ends by its files, and what that says of its status
pub record EndsByRun (told : Option FileMap) (rose refused : Type 0) (Started : ℕ → Type 0)
    (config program : List ℕ) (old new : Output) (s : Status) : Type 0 where
  pub course : Course told rose refused Started config program old new s
  pub says : Says told rose (run_job refused config program) old new s
  -- where it stands for a trace, the headline holds of what was written
  pub headline : is_traced s ≡ true →
      RunHeadline told config program old.told new.told Started s
