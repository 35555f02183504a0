-- The run that a kernel and its drives are at, and what it keeps while it goes on.
use Rattle.std.specs.Prelude.{◌≡◌, ◌≤◌, false, Result, Ok, Err, List, length}
use Rattle.drive_sim.specs.Sim.{DriveSim}
use Rattle.motion_kernel.specs.KernelState.{KernelState}
use Rattle.bench_run.specs.Run.{Run}
use Rattle.bench_run.specs.declared.bench.RunFault.{RunFault}

-- the run at which a kernel and its drives are, which ended so
abbrev pub run_at : KernelState → List DriveSim → Result (Unit {0}) RunFault → Run
run_at k drives ending = record { history = k.history; drives = drives; ending = ending }

-- each axis has a drive, and there are at most 16; and the kernel was not stopped. This project's
-- profile
pub record IsGoing (k : KernelState) (drives : List DriveSim) : Type 0 where
  pub each : length drives ≡ length k.config.axes
  pub few : length k.config.axes ≤ 16
  pub runs : k.stopped ≡ false

-- how an event ended the run, if it did
abbrev pub ending_of : {A : Type 0} → Result A RunFault → Result (Unit {0}) RunFault
ending_of (Ok x) = Ok tt
ending_of (Err fault) = Err fault
