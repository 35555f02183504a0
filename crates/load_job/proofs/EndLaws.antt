-- How the job ends, from what its parts did.
-- for: run_load
use Rattle.std.specs.Prelude.{◌≡◌, refl, ℕ, Result, Ok, List, length}
use Rattle.std.proofs.Common.{◌∙◌, sym, ap, subst}
use Rattle.bench_run.specs.Enough.{HasRoom}
use Rattle.bench_run.specs.Going.{run_at}
use Rattle.bench_run.specs.InStep.{IsInStep}
use Rattle.bench_run.specs.LegalRun.{IsLegalRun}
use Rattle.bench_run.specs.Run.{Run, events_in, run_of}
use Rattle.bench_run.specs.declared.bench.RunFault.{RunFault}
use Rattle.bench_text.specs.BenchState.{BenchState}
use Rattle.drive_sim.specs.Sim.{DriveSim}
use Rattle.job_ends.proofs.PlanLaws.{early, whole}
use Rattle.job_ends.specs.Causes.{EndsFor, is_fault}
use Rattle.job_ends.specs.Ends.{EndsBy, EndsEarly}
use Rattle.job_ends.specs.declared.status.Status.{Status}
use Rattle.job_ends.specs.declared.status.Status.TheVariants as status
use Rattle.load_job.specs.Counts.{LoadsFill}
use Rattle.load_job.specs.Load.{generated_bench}
use Rattle.load_job.specs.Machine.{machine}
use Rattle.motion_history.specs.Entries.{Entry}
use Rattle.motion_kernel.specs.KernelState.{KernelState}
use Rattle.trace_text.specs.writing.Writes.{Output}
use Rattle.load_job.proofs.EventLaws.{all-events, has-room}
use Rattle.load_job.specs.Ends.{EndsByLoad, LoadCause, LoadLine, load_plan}
use Rattle.load_job.specs.Lines.{load_line}

-- what is known of all runs and loads
pub record IsKnown : Type 0 where
  pub fill : LoadsFill
  pub step : (b : BenchState) → IsInStep b
  pub ending : (b : BenchState) → HasRoom b → (run_of b).ending ≡ Ok tt
  pub entries : (b : BenchState) → (run_of b).ending ≡ Ok tt →
      length (run_of b).history ≡ length (events_in b)

alone : (other : Status) → LoadCause other → status.Ok ≡ other
alone status.Ok h = refl
alone other h = absurd h

caused : (seed : ℕ) (old new : Output) (s : Status) → EndsBy old new (load_plan seed) s →
    EndsFor old new (load_plan seed) LoadCause s
caused seed old new s e =
    record { ends = e; told = refl; caused = λ f. tt; alone = λ f. alone }

line-of : IsKnown → (seed : ℕ) (old new : Output) (s : Status) → EndsBy old new (load_plan seed) s →
    IsLegalRun (generated_bench seed) → s ≡ status.Ok → LoadLine seed old.told new.told
unfolding generated_bench machine
line-of known seed old new s e legal h =
    let b = generated_bench seed in
    let ending = known.ending b (has-room known.fill seed) in
    record {
      history = (run_of b).history;
      events = refl;
      answers = (known.step b).answers;
      ending = ending;
      entries = known.entries b ending ∙ all-events known.fill seed;
      legal = legal.legal;
      motion = legal.motion;
      written = (whole old new (load_plan seed) s e (ap is_fault h)).1;
    }

ended : IsKnown → (seed : ℕ) (old new : Output) (s : Status) → EndsBy old new (load_plan seed) s →
    (s ≡ status.Ok → IsLegalRun (generated_bench seed)) → EndsByLoad seed old new s
ended known seed old new s e legal = record {
  by = caused seed old new s e;
  legal = legal;
  line = λ h. line-of known seed old new s e (legal h) h;
}

-- there was no memory for a load or its run
pub ended-early : IsKnown → (seed : ℕ) (old new : Output) (s : Status) → EndsEarly old new s →
    EndsByLoad seed old new s
ended-early known seed old new s e =
    ended known seed old new s (early old new (load_plan seed) s e)
    (λ h. absurd (let bad : status.OutOfMemory ≡ status.Ok = sym e.status ∙ h in cc))

-- a load was run, and its line said
pub ended-run : IsKnown → (seed : ℕ) (b : BenchState) (k : KernelState) (drives : List DriveSim)
    (ending : Result (Unit {0}) RunFault) (es : List Entry) (old new : Output) (s : Status) →
    b ≡ generated_bench seed → run_at k drives ending ≡ run_of b → es ≡ k.history →
    IsLegalRun b → EndsBy old new (record { status = status.Ok; text = load_line seed es }) s →
    EndsByLoad seed old new s
ended-run known seed b k drives ending es old new s is made whole legal ends =
    let r : run_at k drives ending ≡ run_of (generated_bench seed) = made ∙ ap run_of is in
    let same : es ≡ (run_of (generated_bench seed)).history =
    whole ∙ ap (λ (x : Run). x.history) r in
    ended known seed old new s
    (subst (λ x. EndsBy old new (record { status = status.Ok; text = load_line seed x }) s) same
    ends)
    (λ h. subst IsLegalRun is legal)
