-- How the row of an axis moves under a Halt or a Stop (PLCopen Motion Control Part 1, MC_Halt and
-- MC_Stop).
use Rattle.std.specs.Prelude.{◌≡◌, ◌≢◌, ℕ, ◌-◌, ◌≤◌, ℤ, ◌-ℤ◌, ◌≤ℤ◌, unsigned_abs, Some, List, ◌∷◌, ◌++◌, slice_get}
use Rattle.axis_core.specs.Arrivals.{course_of, slowing}
use Rattle.plc_types.specs.declared.axis.AxisRow.{AxisRow}
use Rattle.command_pool.specs.declared.ending.Finish.TheVariants as finish
use Rattle.command_pool.specs.declared.wanted.Wanted.{Wanted}
use Rattle.plc_types.specs.declared.group.GroupRow.{GroupRow}
use Rattle.motion_history.specs.Entries.{Entry, cycle}
use Rattle.motion_history.specs.Setup.{Setup}
use Rattle.motion_kernel.specs.Histories.{machine_after}
use Rattle.motion_kernel.specs.Machine.{axis_at}
use Rattle.motion_laws.specs.arrivals.AxisFates.{axis_fate}

-- after two setpoints the next one slows down by a deceleration: its step is less by at least that,
-- as far as rest, and does not turn back
pub record Slows (d before now next : ℤ) : Type 0 where
  pub less : unsigned_abs (next -ℤ now) ≤ unsigned_abs (now -ℤ before) - unsigned_abs d
  pub up : before ≤ℤ now → now ≤ℤ next
  pub down : now ≤ℤ before → next ≤ℤ now

-- so each row of an axis under an active Halt or Stop, in a cycle that does not end it by an error
abbrev pub HaltsSlow : Setup → List Entry → Type 0
HaltsSlow s es = (made more : List Entry) (c n : ℕ) (rows : List AxisRow) (grows : List GroupRow)
    (r : AxisRow) (w : Wanted) (d : ℤ) → es ≡ made ++ cycle c rows grows ∷ more →
    slice_get rows n ≡ Some r → (axis_at (machine_after s made) n).active ≡ Some w →
    course_of w ≡ Some (slowing d) →
    ((error : ℕ) → (axis_fate s (machine_after s made) (cycle c rows grows) n).ends
    ≢ Some (finish.Error error)) →
    let a = axis_at (machine_after s made) n in
    Slows d a.previous a.setpoint r.setpoint
