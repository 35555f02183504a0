-- What the trace of the job stands for.
-- for: st_files
use Rattle.std.specs.Prelude.{◌≡◌, refl, ℕ, false, true, Option, Some, List, map, slice_get}
use Rattle.std.proofs.Common.{ap}
use Rattle.bench_run.specs.InStep.{AreInStep}
use Rattle.job_ends.proofs.Both.{both-read, both-says, both-there}
use Rattle.job_ends.proofs.PlanLaws.{traces, traced-unfaulted}
use Rattle.job_ends.proofs.Statuses.{traced-wordless}
use Rattle.job_ends.specs.Causes.{is_traced}
use Rattle.job_ends.specs.declared.status.Status.{Status}
use Rattle.machine_config.specs.Configured.{Configures}
use Rattle.st_job.specs.Machines.{st_machine_of}
use Rattle.machine_config.specs.declared.machine.Machine.{Machine}
use Rattle.machine_drives.specs.Drives.{drive_end, drives_at_opening}
use Rattle.motion_history.specs.Entries.{cycles_of}
use Rattle.outside.specs.Told.{FileMap}
use Rattle.st_check.specs.Reading.{reading_of}
use Rattle.st_tree.specs.declared.program.Task.{Task}
use Rattle.trace_text.specs.writing.Writes.{Output}
use Rattle.st_job.proofs.CauseLaws.{program-read, shown}
use Rattle.st_rounds.specs.Cell.{Cell}
use Rattle.st_rounds.specs.Controllers.{cell_of}
use Rattle.st_job.specs.Ends.{Course, EndsByBoth, EndsBySt}
use Rattle.job_ends.specs.Machines.{most_bytes}
use Rattle.st_job.specs.Headline.{StHeadline}
use Rattle.st_job.specs.Plans.{plan_of}
use Rattle.st_rounds.specs.Ready.{AreReady}
use Rattle.st_rounds.specs.Rounds.{run_of}
use Rattle.st_rounds.specs.TaskScans.{IsMadeBy, own_entries}
use Rattle.bench_run.specs.Run.{drive_ends}

-- the laws of all runs: the drives are in step, and the tasks make their scans
pub record RunLaws : Type 0 where
  pub step : (c : Cell) → AreInStep c.setup (drives_at_opening c.setup.axes c.drives) (run_of c)
  pub scans : (c : Cell) → AreReady c.setup c.cycle_us c.trees → (n : ℕ) (t : Task) →
      slice_get c.trees n ≡ Some t →
      IsMadeBy c n t (own_entries c.setup n (run_of c).history)

both-headline : RunLaws → (told : Option FileMap) (config program : List ℕ)
    (old new : Output) (s : Status) → EndsByBoth told config program old new s →
    is_traced s ≡ true → StHeadline told config program old.told new.told s
both-headline laws told config program old new s b t =
    let cell = cell_of b.cell in
    let all = traces old new (plan_of cell) s b.ends t in
    let in-step = laws.step cell in
    let traced = b.traced t in
    record {
      config_text = b.gives.gives.text;
      machine = b.gives.machine;
      config_file = b.gives.gives.is_text.file;
      configures = b.gives.gives.means;
      program_text = b.gives.tasks.text;
      cell = cell;
      program_file = b.gives.tasks.is_text.file;
      spelled = b.gives.tasks.is.spelled;
      cycle = b.gives.tasks.is.cycle;
      simulated = b.gives.tasks.is.drives;
      whole = b.gives.tasks.is.ready.each;
      each = b.cell.each;
      history = (run_of cell).history;
      made = refl;
      scans = λ n t there. laws.scans cell b.gives.tasks.is.ready n t there;
      answers = in-step.takes;
      legal = traced.legal.legal;
      motion = traced.legal.motion;
      drives = drive_ends (run_of cell);
      taken = ap (map (drive_end (cycles_of (run_of cell).history))) in-step.drives;
      ended = all.0;
      written = all.1;
      again = traced.again;
    }

-- how the job ended, and what that says
pub ended : RunLaws → (told : Option FileMap) (rose : Type 0) (config program : List ℕ)
    (old new : Output) (s : Status) → Course told rose config program old new s →
    EndsBySt told rose config program old new s
ended laws told rose config program old new s course =
    let of_machine = λ (m : Machine). reading_of m.config in
    record {
      course = course;
      says = both-says told rose config program most_bytes most_bytes st_machine_of Configures
          of_machine
          (λ given wanted. ⊥) false (λ x. is_traced x ≡ true) _ old new s
          (λ b. (
            (b.gives.machine, b.gives.tasks.is.outcome),
            both-there told config program most_bytes
                most_bytes st_machine_of Configures of_machine (λ text o. Unit {0}) b.gives.machine
                b.gives.tasks.is.outcome b.gives.gives
                (program-read told program b.gives.machine b.cell b.gives.tasks),
            shown told config program (b.gives.machine, b.gives.tasks.is.outcome) old new s b,
          )) course;
      headline = λ t. both-headline laws told config program old new s
          (both-read told rose config program most_bytes most_bytes st_machine_of Configures
          of_machine _
          old new s (traced-unfaulted s t) (traced-wordless s t) course) t;
    }
