-- What the trace of a run stands for. This project's profile.
use Rattle.std.specs.Prelude.{◌≡◌, ◌≢◌, ℕ, suc, ◌+◌, ◌<◌, Option, List, length, map}
use Rattle.std.specs.Io.KnownBytes.{Appends}
use Rattle.job_ends.specs.declared.status.Status.{Status}
use Rattle.job_ends.specs.declared.status.Status.TheVariants as status
use Rattle.machine_config.specs.Configured.{Configures}
use Rattle.machine_config.specs.declared.machine.Machine.{Machine}
use Rattle.machine_drives.specs.Drives.{drive_end, drives_after, drives_at_opening}
use Rattle.motion_history.specs.Entries.{Entry, cycles_of}
use Rattle.motion_history.specs.Setup.{Setup}
use Rattle.motion_kernel.specs.Histories.{IsLegal}
use Rattle.motion_kernel.specs.Tasks.{live_tasks}
use Rattle.motion_laws.specs.Headline.{KeepsHeadline}
use Rattle.motion_plant.specs.Driven.{IsAlive, IsDriven}
use Rattle.motion_plant.specs.Makers.{entries_by}
use Rattle.motion_plant.specs.Places.{Each}
use Rattle.motion_plant.specs.TaskEnds.{TaskMeets}
use Rattle.outside.specs.Told.{FileMap, HasFile}
use Rattle.plc_program.specs.Programs.{IsProgramOf}
use Rattle.plc_program.specs.Spelled.{IsProgramText}
use Rattle.plc_program.specs.declared.program.Instruction.{Instruction}
use Rattle.trace_check.specs.KeptHistories.{IsReadBack}
use Rattle.trace_text.specs.Trace.{trace_version, trace_text}
use Rattle.trace_text.specs.declared.command.Command.TheVariants.{Run}
use Rattle.trace_text.specs.declared.drive_end.DriveEndRow.{DriveEndRow}

-- why a run ended with a status, by its last history: each task has its end; or one lives, and all
-- cycles were made; or one lives, a cycle is left, and there is no room for an entry
abbrev pub HasEnded : Status → Setup → List Entry → Type 0
HasEnded status.Ok s h = live_tasks s h ≡ 0
HasEnded status.CyclesOver s h = (live_tasks s h ≢ 0) × (cycles_of h ≡ s.cycles)
HasEnded status.HistoryFull s h =
    (live_tasks s h ≢ 0) × (cycles_of h ≢ s.cycles) × (length h ≡ s.entries)
HasEnded _ s h = ⊥

-- the trace that was written is that of a run: of the one history that the tasks, the cycles and
-- the drives of a machine and its program made, whatever way they interleaved
pub record RunHeadline (files : Option FileMap) (config program : List ℕ)
    (old new : Option (List ℕ)) (Started : ℕ → Type 0) (s : Status) : Type 0 where
  -- the text of the first file configures a machine
  pub config_text : List ℕ
  pub machine : Machine
  pub config_file : HasFile files config config_text
  pub configures : Configures config_text machine
  -- the text of the second is a program of it, which adds the tasks and their blocks
  pub program_text : List ℕ
  pub tasks : List (List Instruction)
  pub setup : Setup
  pub program_file : HasFile files program program_text
  pub spelled : IsProgramText machine.version machine.cycle_us machine.config program_text tasks
      setup
  -- it has lines for each task, and the machine a drive for each axis
  pub whole : IsProgramOf setup tasks
  pub each : length machine.drives ≡ length setup.axes
  -- as many jobs were started as there are drives and tasks
  pub started : Started (length setup.axes + length setup.tasks)
  -- this history was made: each of its replies and rows is the PLCopen machine's; its axes keep
  -- their limits, their moves arrive, and their drives are given their setpoints
  pub history : List Entry
  pub legal : IsLegal setup history
  pub motion : KeepsHeadline setup history
  -- each task made the calls of its program by its own replies, in order and each once; where it
  -- ended, all of them, and its end
  pub made : Each (λ t lines. TaskMeets setup lines t history) tasks
  -- each cycle comes where no task is quiet, and takes the answers that the drives give after the
  -- cycles before it
  pub driven : Each (λ n. IsDriven setup (drives_at_opening setup.axes machine.drives))
      (entries_by setup 0 history)
  -- after each cycle but the last a task lives
  pub in_time : Each (λ n c. suc n < length (entries_by setup 0 history) → IsAlive setup c)
      (entries_by setup 0 history)
  -- each drive's record gives an output in each cycle, and where these lead it
  pub drives : List DriveEndRow
  pub taken : drives ≡ map (drive_end (cycles_of history))
      (drives_after 0 (drives_at_opening setup.axes machine.drives) history)
  -- the status says how the history ends
  pub ended : HasEnded s setup history
  -- what was written is the text of all this, in its version
  pub written : Appends old new
      (trace_text (trace_version machine.version setup) Run setup history drives)
  -- and that text is read as the trace of all this
  pub again : IsReadBack (trace_version machine.version setup) Run setup history drives
