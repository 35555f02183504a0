-- The steps of a simulated drive.
use Rattle.std.specs.Prelude.{ℕ, ◌+◌, ◌-◌, ◌^◌, nat_lt, min, ℤ, pos, Bool, true, false, ◌&&◌, List, [], ◌∷◌, ◌++◌, length, slice_index_or, if◌then◌else◌}
use Rattle.std.specs.Ordering.{int_eq}
use Rattle.circular_buffer.specs.Buffer.{keep_last}
use Rattle.cia402_machine.specs.Statusword.{status_of_state}
use Rattle.cia402_machine.specs.Steps.{drive_step_of}
use Rattle.plc_types.specs.declared.drive.DriveIn.{DriveIn}
use Rattle.plc_types.specs.declared.drive.DriveOut.{DriveOut}
use Rattle.plc_types.specs.declared.drive.DriveState.{DriveState}
use Rattle.plc_types.specs.declared.drive.DriveState.TheVariants.{OperationEnabled, SwitchOnDisabled}
use Rattle.drive_sim.specs.Faults.{has_step}
use Rattle.drive_sim.specs.Sim.{DriveSim}

-- a drive that opens with this lag, these fault steps and this count, ready or not. This project's
-- profile
abbrev pub opened : ℕ → List ℕ → ℤ → Bool → DriveSim
opened lag faults count true = record {
  lag = lag;
  faults = faults;
  steps = 0;
  state = OperationEnabled;
  last = 0x000f;
  mode_display = pos 8;
  actual = count;
  kept = [];
}
opened lag faults count false = record {
  lag = lag;
  faults = faults;
  steps = 0;
  state = SwitchOnDisabled;
  last = 0x0000;
  mode_display = pos 0;
  actual = count;
  kept = [];
}

-- what a drive answers. IEC 61800-7-201, objects 6041h, 6061h and 6064h
abbrev pub answer_of : DriveSim → DriveIn
answer_of sim =
    record {
      statusword = status_of_state sim.state;
      mode_display = sim.mode_display;
      actual = sim.actual;
    }

-- a drive is in Operation enabled. IEC 61800-7-201, the finite state automaton
abbrev pub is_enabled : DriveState → Bool
is_enabled OperationEnabled = true
is_enabled state = false

-- the number of the next step, from 1; the count stands still at the end of 64 bits, far after
-- every fault step. This project's profile
abbrev pub next_step : DriveSim → ℕ
next_step sim = min (sim.steps + 1) (2 ^ 64 - 1)

-- the state after a step with an output. IEC 61800-7-201, the finite state automaton
abbrev pub state_after : DriveSim → DriveOut → DriveState
state_after sim out =
    drive_step_of sim.state sim.last out.controlword (has_step (next_step sim) sim.faults)

-- a step keeps its target: the drive is in Operation enabled before and after it, and the mode is
-- cyclic synchronous position. This project's profile
abbrev pub keeps_target : DriveSim → DriveOut → Bool
keeps_target sim out =
    is_enabled sim.state && is_enabled (state_after sim out)
    && int_eq out.mode (pos 8)

-- the kept targets after a step: with the one just kept, or none. This project's profile
unfoldable pub kept_after : DriveSim → DriveOut → List ℤ
kept_after sim out =
    if keeps_target sim out then keep_last sim.lag (sim.kept ++ out.target ∷ []) else []

-- the actual count by the kept targets and one more: the oldest of all where as many were kept as
-- the lag, or the earlier count where there were fewer. This project's profile
abbrev pub followed : ℕ → List ℤ → ℤ → ℤ → ℤ
followed lag kept target actual =
    if nat_lt (length kept) lag then actual else slice_index_or (kept ++ target ∷ []) 0 actual

-- the actual count after a step: one that keeps its target follows the oldest. This project's
-- profile
unfoldable pub actual_after : DriveSim → DriveOut → ℤ
actual_after sim out =
    if keeps_target sim out then followed sim.lag sim.kept out.target sim.actual else sim.actual

-- a drive after a step with an output. This project's profile
unfoldable pub drive_stepped : DriveSim → DriveOut → DriveSim
drive_stepped sim out = record {
  lag = sim.lag;
  faults = sim.faults;
  steps = next_step sim;
  state = state_after sim out;
  last = out.controlword;
  mode_display = out.mode;
  actual = actual_after sim out;
  kept = kept_after sim out;
}
