-- What a cycle from C makes of a machine, and what it gives the drives. This project's profile.
use Rattle.std.specs.Prelude.{◌≡◌, ◌↔◌, ◌<◌, ◌+◌, ℕ, List, length, map}
use Rattle.plc_types.specs.declared.axis.AxisRow.{AxisRow}
use Rattle.plc_types.specs.declared.drive.DriveIn.{DriveIn}
use Rattle.plc_types.specs.declared.drive.DriveOut.{DriveOut}
use Rattle.lasting_kernel.specs.Lasting.{LastingState, with_entry}
use Rattle.motion_history.specs.Entries.{cycle, cycles_of}
use Rattle.motion_kernel.specs.Segments.{SegmentedState, machine_now}
use Rattle.motion_kernel.specs.cycles.Cycles.{Cycled, cycled}
use Rattle.motion_c.specs.Room.{HasRoom}

-- there is an answer and an output for each axis
pub record AreEach (k : SegmentedState) (ins outs : ℕ) : Type 0 where
  pub answers : ins ≡ length k.config.axes
  pub outputs : outs ≡ length k.config.axes

-- the segment has a cycle left
abbrev pub HasCycle : SegmentedState → Type 0
HasCycle k = cycles_of k.history < k.config.cycles

-- which code a cycle answers: 0 where it is made, 6 where there isn't an answer and an output for
-- each axis, then 9 where the segment has no cycle left, and else 8 where it is full
pub record TellsCycle (k : SegmentedState) (ins outs : ℕ) (code : ℕ) : Type 0 where
  pub ok : (code ≡ 0) ↔ (AreEach k ins outs × (HasCycle k × HasRoom k))
  pub lengths : (code ≡ 6) ↔ (AreEach k ins outs → ⊥)
  pub over : (code ≡ 9) ↔ (AreEach k ins outs × (HasCycle k → ⊥))
  pub full : (code ≡ 8) ↔ (AreEach k ins outs × (HasCycle k × (HasRoom k → ⊥)))

-- what the machine makes of a cycle in which the drives answer so
abbrev pub cycled_by : SegmentedState → List DriveIn → Cycled
cycled_by k answers = cycled k.config (machine_now k) answers

-- the kernel after that cycle
abbrev pub after_cycle : LastingState → List DriveIn → LastingState
after_cycle k answers =
    with_entry k (cycle (cycles_of k.kernel.history + 1) (cycled_by k.kernel answers).axes
    (cycled_by k.kernel answers).groups)

-- what that cycle gives the drives
abbrev pub outputs_after : SegmentedState → List DriveIn → List DriveOut
outputs_after k answers =
    map (λ (r : AxisRow). r.output) (cycled_by k answers).axes
