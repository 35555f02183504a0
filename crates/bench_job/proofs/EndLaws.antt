-- How the job ends, from what its parts did.
-- for: run_text
use Rattle.std.specs.Prelude.{◌≡◌, refl, ℕ, true, false, Result, Ok, Err, List, map, All}
use Rattle.std.proofs.Common.{◌∙◌, sym, subst}
use Rattle.bench_run.specs.Going.{run_at}
use Rattle.bench_run.specs.InStep.{IsInStep}
use Rattle.bench_run.specs.LegalRun.{IsLegalRun}
use Rattle.bench_run.specs.Run.{Run, drive_ends, run_of}
use Rattle.bench_run.specs.declared.bench.RunFault.{RunFault}
use Rattle.bench_text.specs.BenchState.{BenchState, IsBench}
use Rattle.bench_text.specs.Reading.{ReadsBy, bench_of}
use Rattle.drive_sim.specs.Sim.{DriveSim}
use Rattle.job_ends.specs.Causes.{is_traced}
use Rattle.job_ends.specs.Ends.{EndsBy}
use Rattle.job_ends.specs.declared.status.Status.{Status}
use Rattle.machine_drives.specs.Drives.{drive_end}
use Rattle.motion_history.specs.Entries.{cycles_of}
use Rattle.motion_history.specs.Setup.{Setup}
use Rattle.motion_history.specs.declared.refused.TextFault.{TextFault}
use Rattle.motion_history.specs.declared.refused.TextFault.TheVariants.{Refused}
use Rattle.motion_history.specs.declared.refused.TextRefused.{TextRefused}
use Rattle.motion_kernel.specs.KernelState.{KernelState}
use Rattle.trace_text.specs.Trace.{CanHold}
use Rattle.trace_text.proofs.Versions.{version-holds}
use Rattle.trace_text.specs.writing.Writes.{Output}
use Rattle.bench_job.specs.Again.{IsTracedRun, ReadsAgain, version_of}
use Rattle.bench_job.specs.Ends.{EndsByBench}
use Rattle.bench_job.specs.Headline.{RunsBy}
use Rattle.bench_job.specs.Plans.{bench_plan}
use Rattle.bench_job.proofs.CauseLaws.{ends-for}
use Rattle.bench_job.proofs.HeadlineLaws.{headline-of}

-- why a text is refused
pub refused-why : (reading : Result BenchState TextRefused) (f : TextFault) (r : TextRefused) →
    f ≡ Refused r → ReadsBy reading (Err f) → reading ≡ Err r
refused-why reading f r e why =
    let P : TextFault → Type 0 = λ x. ReadsBy reading (Err x) in subst P e why

-- a run is traced by its kernel and its drives
pub traced-run : (b : BenchState) (k : KernelState) (drives : List DriveSim)
    (ending : Result (Unit {0}) RunFault) → run_at k drives ending ≡ run_of b → IsLegalRun b →
    ReadsAgain b k.history (map (drive_end (cycles_of k.history)) drives) → IsTracedRun b
traced-run b k drives ending e legal again = record {
  legal = legal;
  again = subst (λ (r : Run). ReadsAgain b r.history (drive_ends r)) e again;
}

-- it is the one bench
pub runs-bench : (bench : BenchState) (s : Status) → IsTracedRun bench →
    RunsBy (λ b. b ≡ bench) s
runs-bench bench s traced = λ b h t. subst IsTracedRun (sym h) traced

-- the trace of a bench can hold its machine
pub can-hold : (b : BenchState) → IsBench b → CanHold (version_of b) b.config
can-hold b is = version-holds b.version b.config is.braking

-- what is read is the one bench
pub runs-read : (reading : Result BenchState TextRefused) (bench : BenchState) (s : Status) →
    reading ≡ Ok bench → RunsBy (λ b. b ≡ bench) s → RunsBy (λ b. reading ≡ Ok b) s
runs-read reading bench s r runs =
    λ b h t. let same : b ≡ bench = let e : Ok b ≡ Ok bench = sym h ∙ r in cc in runs b same t

-- a text that is refused has no run
pub runs-none : (reading : Result BenchState TextRefused) (r : TextRefused) (s : Status) →
    reading ≡ Err r → RunsBy (λ b. reading ≡ Ok b) s
runs-none reading r s e = λ b h t. let bad : Ok b ≡ Err r = sym h ∙ e in absurd (cc)

-- where the status stands for no trace nothing is said of the run
pub runs-other : (IsRead : BenchState → Type 0) (s : Status) → is_traced s ≡ false → RunsBy IsRead s
runs-other IsRead s e = λ b h t. absurd (let bad : true ≡ false = sym t ∙ e in cc)

-- so the job ended
pub ended : ((b : BenchState) → IsInStep b) → (name text : List ℕ) (old new : Output)
    (s : Status) → EndsBy old new (bench_plan name text) s → RunsBy (λ b. bench_of text ≡ Ok b) s →
    EndsByBench name text old new s
ended step name text old new s e runs = record {
  by = ends-for name text old new s e;
  runs = runs;
  headline = headline-of step name text old new s e runs;
}
