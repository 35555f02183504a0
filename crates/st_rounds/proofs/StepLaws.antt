-- The drives of a run are in step with its history.
-- for: rounds_are_in_step
use Rattle.std.specs.Prelude.{◌+◌, List, map}
use Rattle.bench_run.specs.InStep.{AreInStep}
use Rattle.bench_run.specs.Run.{Event, Run, a_call, a_cycle, an_end, first_run, made}
use Rattle.drive_sim.specs.Sim.{DriveSim}
use Rattle.machine_drives.specs.Drives.{drives_at_opening}
use Rattle.motion_history.specs.Setup.{Setup}
use Rattle.st_rounds.proofs.Kept.{KeptByScans, rounds-keeps}
use Rattle.st_rounds.specs.Cell.{Cell, task_at_opening}
use Rattle.st_rounds.specs.Rounds.{run_of}

pub run-in-step : ((s : Setup) (ds : List DriveSim) → AreInStep s ds (first_run ds)) →
    ((s : Setup) (ds : List DriveSim) (e : Event) (r : Run) → AreInStep s ds r →
    AreInStep s ds (made s e r)) → (c : Cell) →
    AreInStep c.setup (drives_at_opening c.setup.axes c.drives) (run_of c)
unfolding run_of
run-in-step first event c =
    let ds = drives_at_opening c.setup.axes c.drives in
    let kept : KeptByScans c.setup (AreInStep c.setup ds) = record {
      call = λ k i r h. event c.setup ds (a_call k i) r h;
      end = λ n r h. event c.setup ds (an_end n) r h;
    } in
    rounds-keeps (c.setup.cycles + 1) c (AreInStep c.setup ds) kept
    (λ r h. event c.setup ds a_cycle r h) (map task_at_opening c.trees) (first_run ds)
    (first c.setup ds)
