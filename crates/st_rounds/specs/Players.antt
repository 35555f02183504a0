-- The tasks of a run in the code, and what came of their turns.
use Rattle.std.specs.Prelude.{◌≡◌, ℕ, suc, Result, Ok, Err, List, [], ◌∷◌, map}
use Rattle.bench_run.specs.Going.{run_at}
use Rattle.bench_run.specs.declared.bench.RunFault.{RunFault}
use Rattle.drive_sim.specs.Sim.{DriveSim}
use Rattle.motion_kernel.specs.KernelState.{KernelState}
use Rattle.st_exec.specs.Compiled.{Compiled}
use Rattle.st_rounds.specs.Cell.{TaskStand}
use Rattle.st_rounds.specs.Playing.{IsBetween, stand_at}
use Rattle.st_rounds.specs.Rounds.{Round, Turn}
use Rattle.st_rounds.specs.declared.player.Player.{Player}

-- where a task stands
abbrev pub stand_of : Player → TaskStand
stand_of p = stand_at p.task p.lives

-- tasks, the first that of this number, are between two scans
abbrev pub ArePlaying : Compiled → ℕ → List Player → Type 0
ArePlaying code n [] = Unit {0}
ArePlaying code n (p ∷ ps) = IsBetween code n p.task × ArePlaying code (suc n) ps

-- a task had its turn; or the run ended in it
abbrev pub HasTurned : Turn → KernelState → List DriveSim → Result (Unit {0}) RunFault → Player →
    Type 0
HasTurned x k drives (Ok u) p = (run_at k drives (Ok tt) ≡ x.run) × (stand_of p ≡ x.stand)
HasTurned x k drives (Err fault) p = run_at k drives (Err fault) ≡ x.run

-- tasks had their turns; or the run ended in one
abbrev pub HasMade : Round → KernelState → List DriveSim → Result (Unit {0}) RunFault →
    List Player → Type 0
HasMade x k drives (Ok u) ps = (run_at k drives (Ok tt) ≡ x.run) × (map stand_of ps ≡ x.stands)
HasMade x k drives (Err fault) ps = run_at k drives (Err fault) ≡ x.run
