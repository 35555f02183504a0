-- What the trace of the job stands for. This project's profile.
use Rattle.std.specs.Prelude.{◌≡◌, ℕ, Option, Some, List, length, map, slice_get}
use Rattle.std.specs.Io.KnownBytes.{Appends}
use Rattle.bench_run.specs.InStep.{Takes}
use Rattle.job_ends.specs.declared.status.Status.{Status}
use Rattle.machine_config.specs.Configured.{Configures}
use Rattle.machine_config.specs.declared.machine.Machine.{Machine}
use Rattle.machine_drives.specs.Drives.{drive_end, drives_after, drives_at_opening}
use Rattle.motion_history.specs.Entries.{Entry, cycles_of}
use Rattle.motion_kernel.specs.Histories.{IsLegal}
use Rattle.motion_laws.specs.Headline.{KeepsHeadline}
use Rattle.outside.specs.Told.{FileMap, HasFile}
use Rattle.st_build.specs.Spelled.{IsStText}
use Rattle.st_tree.specs.declared.program.Task.{Task}
use Rattle.trace_check.specs.KeptHistories.{IsReadBack}
use Rattle.trace_text.specs.Trace.{run_version, trace_text}
use Rattle.trace_text.specs.declared.command.Command.TheVariants.{Run}
use Rattle.trace_text.specs.declared.drive_end.DriveEndRow.{DriveEndRow}
use Rattle.st_rounds.specs.Cell.{Cell}
use Rattle.st_job.specs.Plans.{status_of}
use Rattle.st_rounds.specs.Rounds.{run_of}
use Rattle.st_rounds.specs.TaskScans.{IsMadeBy, own_entries}

-- the trace that was written is that of a machine with tasks in Structured Text: of the one history
-- that their rounds make
pub record StHeadline (files : Option FileMap) (config program : List ℕ)
    (old new : Option (List ℕ)) (s : Status) : Type 0 where
  -- the text of the first file configures a machine
  pub config_text : List ℕ
  pub machine : Machine
  pub config_file : HasFile files config config_text
  pub configures : Configures config_text machine
  -- the text of the second is a program of it, which adds the tasks and their blocks, and which
  -- these trees spell
  pub program_text : List ℕ
  pub cell : Cell
  pub program_file : HasFile files program program_text
  pub spelled : IsStText machine.config program_text cell.trees cell.setup
  pub cycle : cell.cycle_us ≡ machine.cycle_us
  pub simulated : cell.drives ≡ machine.drives
  -- there is a tree for each task, and a drive for each axis
  pub whole : length cell.trees ≡ length cell.setup.tasks
  pub each : length cell.drives ≡ length cell.setup.axes
  -- the rounds of the tasks make this history, in which the drives answer in step
  pub history : List Entry
  pub made : history ≡ (run_of cell).history
  -- each task made the calls of its scans by its own replies, in order and each once, and its end
  -- after its last scan
  pub scans : (n : ℕ) (t : Task) → slice_get cell.trees n ≡ Some t →
      IsMadeBy cell n t (own_entries cell.setup n history)
  pub answers : Takes cell.setup (drives_at_opening cell.setup.axes cell.drives) history
  -- each of its replies and rows is the PLCopen machine's; its axes keep their limits, their moves
  -- arrive, and their drives are given their setpoints
  pub legal : IsLegal cell.setup history
  pub motion : KeepsHeadline cell.setup history
  -- each drive took an output in each cycle, and is where these lead it
  pub drives : List DriveEndRow
  pub taken : drives ≡ map (drive_end (cycles_of history))
      (drives_after 0 (drives_at_opening cell.setup.axes cell.drives) history)
  -- the status says why the rounds ended
  pub ended : s ≡ status_of (run_of cell).ending
  -- what was written is the text of all this, in its version
  pub written : Appends old new (trace_text (run_version cell.setup) Run cell.setup history drives)
  -- and that text is read as the trace of all this
  pub again : IsReadBack (run_version cell.setup) Run cell.setup history drives
