-- What the trace of a bench stands for.
-- for: run_text
use Rattle.std.specs.Prelude.{◌≡◌, refl, ℕ, true, false, Option, Result, Ok, Err, List, map}
use Rattle.std.proofs.Common.{◌∙◌, sym, ap}
use Rattle.bench_run.specs.InStep.{IsInStep}
use Rattle.bench_run.specs.Run.{drive_ends, run_of}
use Rattle.bench_text.specs.BenchState.{BenchState}
use Rattle.bench_text.specs.Reading.{bench_of}
use Rattle.job_ends.proofs.PlanLaws.{traces}
use Rattle.job_ends.specs.Causes.{is_traced}
use Rattle.job_ends.specs.Ends.{EndsBy}
use Rattle.job_ends.specs.Plans.{plan_of_reading}
use Rattle.job_ends.specs.declared.status.Status.{Status}
use Rattle.machine_drives.specs.Drives.{drive_end}
use Rattle.motion_history.specs.Entries.{cycles_of}
use Rattle.motion_history.specs.declared.refused.TextRefused.{TextRefused}
use Rattle.outside.specs.Told.{FileMap, HasFile}
use Rattle.trace_text.specs.writing.Writes.{Output}
use Rattle.bench_job.specs.Headline.{Headline, RunsBy}
use Rattle.bench_job.specs.Plans.{bench_plan, plan_of_bench}

-- a bench that was run
read-headline : ((b : BenchState) → IsInStep b) → (name text : List ℕ)
    (old new : Output) (s : Status) (reading : Result BenchState TextRefused) →
    bench_of text ≡ reading → EndsBy old new (plan_of_reading plan_of_bench 1 name reading) s →
    RunsBy (λ b. bench_of text ≡ Ok b) s → (files : Option FileMap) → HasFile files name text →
    is_traced s ≡ true → Headline files name old.told new.told
read-headline step name text old new s (Err r) is e runs files file t =
    let whole = traces old new _ s e t in
    let bad : false ≡ true = sym (ap is_traced whole.0) ∙ t in absurd (cc)
read-headline step name text old new s (Ok b) is e runs files file t =
    let in-step = step b in
    let legal = runs b is t in
    record {
      text = text;
      bench = b;
      file = file;
      reading = is;
      history = (run_of b).history;
      events = refl;
      answers = in-step.answers;
      legal = legal.legal.legal;
      motion = legal.legal.motion;
      drives = drive_ends (run_of b);
      taken = ap (map (drive_end (cycles_of (run_of b).history))) in-step.drives;
      written = (traces old new _ s e t).1;
      again = legal.again;
    }

pub headline-of : ((b : BenchState) → IsInStep b) → (name text : List ℕ)
    (old new : Output) (s : Status) → EndsBy old new (bench_plan name text) s →
    RunsBy (λ b. bench_of text ≡ Ok b) s → (files : Option FileMap) → HasFile files name text →
    is_traced s ≡ true → Headline files name old.told new.told
headline-of step name text old new s e runs files file t =
    read-headline step name text old new s (bench_of text) refl e runs files file t
