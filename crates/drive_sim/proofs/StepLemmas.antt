-- The fields of a simulated drive after a step.
-- for: step
use Rattle.std.specs.Prelude.{ℕ, ◌≡◌, ◌+◌, ◌-◌, ◌^◌, min, ℤ, pos, Bool, ◌&&◌, List, [], ◌∷◌, ◌++◌, if◌then◌else◌}
use Rattle.std.specs.Ordering.{int_eq}
use Rattle.std.proofs.Common.{refl}
use Rattle.circular_buffer.specs.Buffer.{keep_last}
use Rattle.cia402_machine.specs.Steps.{drive_step_of}
use Rattle.plc_types.specs.declared.drive.DriveOut.{DriveOut}
use Rattle.plc_types.specs.declared.drive.DriveState.{DriveState}
use Rattle.drive_sim.specs.Faults.{has_step}
use Rattle.drive_sim.specs.Sim.{DriveSim}
use Rattle.drive_sim.specs.Steps.{is_enabled, actual_after, kept_after, followed, drive_stepped}

-- what a step computes one after the other is what its definition says
pub stepped : (sim : DriveSim) (out : DriveOut) (lag steps : ℕ) (fault : Bool) (state : DriveState) (keeps : Bool) (kept : List ℤ) (actual : ℤ) →
    lag ≡ sim.lag → steps ≡ min (sim.steps + 1) (2 ^ 64 - 1) → fault ≡ has_step steps sim.faults →
    state ≡ drive_step_of sim.state sim.last out.controlword fault →
    keeps ≡ (is_enabled sim.state && is_enabled state && int_eq out.mode (pos 8)) →
    kept ≡ (if keeps then keep_last sim.lag (sim.kept ++ out.target ∷ []) else []) →
    actual ≡ (if keeps then followed sim.lag sim.kept out.target sim.actual else sim.actual) →
    ◌≡◌ {A = DriveSim} (record {
      lag = lag;
      faults = sim.faults;
      steps = steps;
      state = state;
      last = out.controlword;
      mode_display = out.mode;
      actual = actual;
      kept = kept;
    }) (drive_stepped sim out)
unfolding drive_stepped kept_after actual_after
stepped sim out lag steps fault state keeps kept actual e_lag e_steps e_fault e_state e_keeps e_kept e_actual =
    rw (e_actual, e_kept, e_keeps, e_state, e_fault, e_steps, e_lag) refl
