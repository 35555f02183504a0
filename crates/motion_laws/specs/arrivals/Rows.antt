-- Which rows show that the moves of axes arrive in time, and that Halts and Stops come to rest
-- (PLCopen Motion Control Part 1, Done).
use Rattle.std.specs.Prelude.{◌≡◌, ℕ, ◌+◌, ◌<◌, ◌≤◌, ℤ, Option, Some, None, List, ◌∷◌, ◌++◌, length, slice_get}
use Rattle.axis_core.specs.Arrivals.{Course, Turn, blended, bound_of, course_of, ended, slowing, toward}
use Rattle.plc_types.specs.declared.axis.AxisRow.{AxisRow}
use Rattle.command_pool.specs.declared.ending.Finish.TheVariants as finish
use Rattle.command_pool.specs.declared.wanted.Wanted.{Wanted}
use Rattle.plc_types.specs.declared.group.GroupRow.{GroupRow}
use Rattle.motion_history.specs.Entries.{Entry, cycle, cycles_of}
use Rattle.motion_history.specs.Setup.{Setup}
use Rattle.motion_kernel.specs.Histories.{after, machine_after, replay}
use Rattle.motion_kernel.specs.Machine.{Machine, axis_at}
use Rattle.motion_laws.specs.arrivals.AxisFates.{axis_fate}
use Rattle.motion_laws.specs.arrivals.Moves.{Turned, turned_in}

-- two setpoints, the one before and the current one, are at the end of a course: the same, and at
-- its target if it has one
abbrev pub AreAtEnd : Course → ℤ → ℤ → Type 0
AreAtEnd (toward target rates) before now = (now ≡ target) × (before ≡ target)
AreAtEnd (slowing d) before now = now ≡ before

-- within this many cycles a row of an axis stands at the end of a course, as the setpoint before it
-- shows
pub record RowStands (s : Setup) (m : Machine) (n : ℕ) (course : Course) (most : ℕ)
    (es : List Entry) : Type 0 where
  pub before : List Entry
  pub number : ℕ
  pub rows : List AxisRow
  pub grows : List GroupRow
  pub behind : List Entry
  pub split : es ≡ before ++ cycle number rows grows ∷ behind
  pub in_time : cycles_of before + 1 ≤ most
  pub row : AxisRow
  pub of_axis : slice_get rows n ≡ Some row
  pub there :
      AreAtEnd course
      (axis_at (after s (replay s m before) (cycle number rows grows)) n).previous row.setpoint

-- where a command is Done there is such a row; what is aborted, faulted or blended has none
abbrev pub StandsBy : Setup → Machine → ℕ → Course → ℕ → List Entry → Turn → Type 0
StandsBy s m n course most es (ended finish.Done) = RowStands s m n course most es
StandsBy s m n course most es (ended finish.Aborted) = Unit {0}
StandsBy s m n course most es (ended (finish.Error error)) = Unit {0}
StandsBy s m n course most es blended = Unit {0}

-- it is turned, and so
abbrev pub StandsWithin : Setup → Machine → ℕ → Course → ℕ → List Entry → Option Turned → Type 0
StandsWithin s m n course most es None = ⊥
StandsWithin s m n course most es (Some t) = StandsBy s m n course most es t.turn

-- so it is with each move, Halt and Stop that begins, within its bound, where there are this many
-- cycles
abbrev pub RowsStand : Setup → List Entry → Type 0
RowsStand s es = (made more : List Entry) (e : Entry) (n : ℕ) (w : Wanted) (course : Course) →
    es ≡ made ++ e ∷ more → n < length s.axes →
    let m = after s (machine_after s made) e in
    let most = bound_of course (axis_at m n) in
    (axis_fate s (machine_after s made) e n).begins ≡ Some w → course_of w ≡ Some course →
    most ≤ cycles_of more → StandsWithin s m n course most more (turned_in s n m more)
