-- The trace of a run that was written.
-- for: st_files
use Rattle.std.specs.Prelude.{◌≡◌, ◌<◌, All, true, false, Result, List, length, map}
use Rattle.std.proofs.Common.{◌∙◌, sym, ap, subst, arith}
use Rattle.std.proofs.lemmas.List.{length-map}
use Rattle.plc_types.specs.Counts.{IsCount}
use Rattle.bench_run.specs.Going.{run_at}
use Rattle.bench_run.specs.Run.{Run, drive_ends}
use Rattle.bench_run.specs.declared.bench.RunFault.{RunFault}
use Rattle.drive_sim.specs.Sim.{DriveSim}
use Rattle.job_ends.specs.Causes.{is_traced}
use Rattle.job_ends.specs.Ends.{EndsBy, status_by}
use Rattle.job_ends.specs.declared.status.Status.{Status}
use Rattle.machine_drives.proofs.EndsHeld.{ends-held}
use Rattle.machine_drives.specs.Drives.{drive_end}
use Rattle.motion_history.specs.Entries.{cycles_of}
use Rattle.motion_history.specs.Setup.{Setup}
use Rattle.motion_kernel.specs.KernelState.{KernelState}
use Rattle.trace_check.specs.KeptHistories.{IsKeptHistory, IsReadBack, KeptHistoriesAreReadBack}
use Rattle.trace_text.specs.Trace.{run_version, trace_text}
use Rattle.trace_text.specs.writing.Writes.{Output, Writes}
use Rattle.trace_text.specs.declared.command.Command.TheVariants as command
use Rattle.trace_text.specs.declared.writing.write.TraceFault.{TraceFault}
use Rattle.trace_text.proofs.Versions.{run-holds}
use Rattle.st_rounds.specs.Cell.{Cell}
use Rattle.st_rounds.specs.LegalRun.{IsLegalRun}
use Rattle.st_job.specs.Again.{IsTracedRun}
use Rattle.st_job.specs.Plans.{plan_of, status_of}
use Rattle.st_rounds.specs.Rounds.{run_of}

-- the trace is that of the machine's run, and the status is the run's
pub wrote : (old new : Output) (c : Cell) (k : KernelState) (drives : List DriveSim)
    (ending : Result (Unit {0}) RunFault) (written : Result (Unit {0}) TraceFault) →
    run_at k drives ending ≡ run_of c →
    Writes old new
    (trace_text (run_version c.setup) command.Run c.setup k.history (map (drive_end (cycles_of k.history)) drives))
    written → EndsBy old new (plan_of c) (status_by (status_of ending) written)
wrote old new c k drives ending written e w = record {
  written = written;
  writes = subst (λ t. Writes old new t written)
      (ap (λ (r : Run). trace_text (run_version c.setup) command.Run c.setup r.history (drive_ends r)) e) w;
  status = ap (λ (r : Run). status_by (status_of r.ending) written) e;
}

-- a run is traced by its kernel and its drives
pub traced-run : (c : Cell) (k : KernelState) (drives : List DriveSim)
    (ending : Result (Unit {0}) RunFault) → run_at k drives ending ≡ run_of c → IsLegalRun c →
    IsReadBack (run_version c.setup) command.Run c.setup k.history (map (drive_end (cycles_of k.history)) drives) →
    IsTracedRun c
traced-run c k drives ending e legal back = record {
  legal = legal;
  again = subst (λ (r : Run). IsReadBack (run_version c.setup) command.Run c.setup r.history (drive_ends r)) e back;
}

-- where there is no trace nothing is said of the run
pub untraced : (c : Cell) (s : Status) → is_traced s ≡ false → is_traced s ≡ true → IsTracedRun c
untraced c s e t = absurd (let bad : true ≡ false = sym t ∙ e in cc)

-- what a kernel keeps is read back
pub read-again : KeptHistoriesAreReadBack → (s : Setup) (k : KernelState) (drives : List DriveSim) →
    k.config ≡ s → length drives ≡ length s.axes → IsKeptHistory k.config k.history →
    All (λ (d : DriveSim). IsCount d.actual) drives →
    IsReadBack (run_version s) command.Run s k.history (map (drive_end (cycles_of k.history)) drives)
read-again read s k drives config many kept_by bits =
    let kept = subst (λ (x : Setup). IsKeptHistory x k.history) config kept_by in
    let few : cycles_of k.history < 4294967296 = omega (arith, kept.setup.within.sizes.cycles, kept.legal.cycles) in
    read (run_version s) command.Run s k.history (map (drive_end (cycles_of k.history)) drives) kept (run-holds s)
    (length-map drives (drive_end (cycles_of k.history)) ∙ many)
    (ends-held (cycles_of k.history) drives few bits)
