-- What the job shows of its status where its files give a machine and its program.
-- for: st_files
use Rattle.std.specs.Prelude.{◌≡◌, refl, ℕ, true, Option, Result, Ok, Err, List}
use Rattle.bench_run.specs.declared.bench.RunFault.{RunFault}
use Rattle.bench_run.specs.declared.bench.RunFault.TheVariants.{CyclesOver, HistoryFull}
use Rattle.job_ends.proofs.PlanLaws.{traced-unfaulted}
use Rattle.job_ends.proofs.Statuses.{apart, traced-no-text}
use Rattle.job_ends.specs.Causes.{is_traced}
use Rattle.job_ends.proofs.Endings.{EndsGiven}
use Rattle.job_ends.specs.Files.{GivesReading}
use Rattle.job_ends.specs.Readings.{is_of_text}
use Rattle.job_ends.specs.declared.status.Status.{Status}
use Rattle.machine_config.specs.declared.machine.Machine.{Machine}
use Rattle.outside.specs.Told.{FileMap}
use Rattle.st_check.specs.Reading.{Outcome, reading_of}
use Rattle.trace_text.specs.writing.Writes.{Output}
use Rattle.st_job.specs.Causes.{st_job}
use Rattle.st_rounds.specs.Controllers.{cell_of}
use Rattle.st_job.specs.Ends.{EndsByBoth}
use Rattle.job_ends.specs.Machines.{most_bytes}
use Rattle.st_job.specs.Given.{GivesProgram}
use Rattle.st_job.specs.Plans.{plan_of, status_of}
use Rattle.st_rounds.specs.Rounds.{run_of}
use Rattle.st_rounds.specs.declared.cell.Controller.{Controller}

-- what the second file is read as
pub program-read : (told : Option FileMap) (program : List ℕ) (m : Machine) (p : Controller)
    (g : GivesProgram told program m p) →
    GivesReading told program most_bytes (reading_of m.config) (λ text o. Unit {0}) g.is.outcome
program-read told program m p g =
    record { text = g.text; is_text = g.is_text; read = g.is.read; means = tt }

-- a run's status stands for a trace
traced-run : (w : Result (Unit {0}) RunFault) → is_traced (status_of w) ≡ true
traced-run (Ok u) = refl
traced-run (Err CyclesOver) = refl
traced-run (Err HistoryFull) = refl

pub shown : (told : Option FileMap) (config program : List ℕ) (x : Machine × Outcome)
    (old new : Output) (s : Status) → (b : EndsByBoth told config program old new s) →
    EndsGiven (st_job config program) x old new s
shown told config program x old new s b =
    let plan = plan_of (cell_of b.cell) in
    let t : is_traced plan.status ≡ true = traced-run (run_of (cell_of b.cell)).ending in
    record {
      plan = plan;
      ends = b.ends;
      own = t;
      unfaulted = traced-unfaulted plan.status t;
      caused = λ f d. absurd (apart is_of_text plan.status plan.status d
          (traced-no-text plan.status t) refl);
      alone = λ f other d c. absurd c;
    }
