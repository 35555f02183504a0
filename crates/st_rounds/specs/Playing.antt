-- How the code that runs tasks stands to what a run is.
use Rattle.std.specs.Prelude.{◌≡◌, ℕ, Bool, None, Result, Ok, Err, List, []}
use Rattle.bench_run.specs.Going.{run_at}
use Rattle.bench_run.specs.declared.bench.RunFault.{RunFault}
use Rattle.drive_sim.specs.Sim.{DriveSim}
use Rattle.motion_kernel.specs.KernelState.{KernelState}
use Rattle.st_exec.specs.Compiled.{Compiled}
use Rattle.st_exec.specs.Following.{Follows}
use Rattle.st_exec.specs.declared.task.StTask.{StTask}
use Rattle.st_rounds.specs.Cell.{TaskStand}
use Rattle.st_rounds.specs.Rounds.{Turn}

-- a task of this number is between two scans
pub record IsBetween (code : Compiled) (n : ℕ) (t : StTask) : Type 0 where
  pub number : t.task ≡ n
  pub follows : Follows code t
  pub asked : t.asked ≡ None
  pub got : t.got.items ≡ []

-- where a task stands between two scans
abbrev pub stand_at : StTask → Bool → TaskStand
stand_at t lives = record { vars = t.vars.items; last = t.last.items; lives = lives }

-- a scan was made, and the task lives on or not; or the run ended in it
abbrev pub HasScanned : Turn → KernelState → List DriveSim → Result Bool RunFault → StTask → Type 0
HasScanned x k drives (Ok lives) t =
    (run_at k drives (Ok tt) ≡ x.run) × (stand_at t lives ≡ x.stand)
HasScanned x k drives (Err fault) t = run_at k drives (Err fault) ≡ x.run
