-- What a kernel keeps of a bench is read back from its trace.
-- for: run_text
use Rattle.std.proofs.Common.{◌≡◌, ◌<◌, List, length, map, ◌∙◌, subst, arith}
use Rattle.std.specs.Prelude.{All}
use Rattle.std.proofs.lemmas.List.{length-map}
use Rattle.plc_types.specs.Counts.{IsCount}
use Rattle.bench_text.specs.BenchState.{BenchState, IsBench}
use Rattle.drive_sim.specs.Sim.{DriveSim}
use Rattle.machine_drives.proofs.EndsHeld.{ends-held}
use Rattle.machine_drives.specs.Drives.{drive_end}
use Rattle.motion_history.specs.Entries.{cycles_of}
use Rattle.motion_history.specs.Setup.{Setup}
use Rattle.motion_kernel.specs.KernelState.{KernelState}
use Rattle.trace_check.specs.KeptHistories.{IsKeptHistory, KeptHistoriesAreReadBack}
use Rattle.trace_text.specs.declared.command.Command.TheVariants.{Bench}
use Rattle.bench_job.specs.Again.{ReadsAgain, version_of}
use Rattle.bench_job.proofs.EndLaws.{can-hold}

pub read-again : KeptHistoriesAreReadBack → (b : BenchState) (k : KernelState)
    (drives : List DriveSim) → IsBench b → k.config ≡ b.config →
    length drives ≡ length b.config.axes → IsKeptHistory k.config k.history →
    All (λ (d : DriveSim). IsCount d.actual) drives →
    ReadsAgain b k.history (map (drive_end (cycles_of k.history)) drives)
read-again read b k drives bench config many told bits =
    let kept = subst (λ (s : Setup). IsKeptHistory s k.history) config told in
    let few : cycles_of k.history < 4294967296 = omega (arith, kept.setup.within.sizes.cycles, kept.legal.cycles) in
    read (version_of b) Bench b.config k.history (map (drive_end (cycles_of k.history)) drives) kept
    (can-hold b bench) (length-map drives (drive_end (cycles_of k.history)) ∙ many)
    (ends-held (cycles_of k.history) drives few bits)
