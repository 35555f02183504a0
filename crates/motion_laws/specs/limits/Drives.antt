-- What drives are given and report: the targets of rows, where driven spells begin, and which rows
-- are driven. This project's profile.
use Rattle.std.specs.Prelude.{◌≡◌, ℕ, ◌+◌, Bool, ◌&&◌, false, ℤ, pos, ◌+ℤ◌, ◌-ℤ◌, ◌*ℤ◌, ◌≤ℤ◌, ◌<ℤ◌, unsigned_abs, Some, List, [], ◌∷◌, ◌++◌, slice_get}
use Rattle.axis_core.specs.Drives.{is_driven}
use Rattle.plc_types.specs.Counts.{count_of, place_of}
use Rattle.plc_types.specs.declared.axis.AxisDef.{AxisDef}
use Rattle.plc_types.specs.declared.axis.AxisRow.{AxisRow}
use Rattle.plc_types.specs.declared.group.GroupRow.{GroupRow}
use Rattle.motion_history.specs.Columns.{rows_in}
use Rattle.motion_history.specs.Entries.{Entry, cycle}
use Rattle.motion_history.specs.Setup.{Setup}
use Rattle.motion_kernel.specs.Histories.{machine_after}
use Rattle.motion_kernel.specs.Machine.{axis_at}

-- the way from the offset to a row's target, in increments of this size
abbrev pub target_way : ℤ → AxisRow → ℤ
target_way inc r = r.output.target *ℤ inc

-- the way from the offset to a row's setpoint
abbrev pub setpoint_way : AxisRow → ℤ
setpoint_way r = r.setpoint -ℤ r.offset

-- a row's target is the count of its setpoint: rounded down, by less than an increment. IEC
-- 61800-7-201, object 607Ah
pub record FollowsSetpoint (inc : ℤ) (r : AxisRow) : Type 0 where
  pub count : r.output.target ≡ count_of r.setpoint r.offset inc
  pub below : target_way inc r ≤ℤ setpoint_way r
  pub near : setpoint_way r <ℤ (target_way inc r +ℤ inc)

-- the steps of targets and of setpoints from one row to the next
abbrev pub target_step : ℤ → AxisRow → AxisRow → ℤ
target_step inc a b = target_way inc b -ℤ target_way inc a

abbrev pub setpoint_step : AxisRow → AxisRow → ℤ
setpoint_step a b = setpoint_way b -ℤ setpoint_way a

-- the changes of these steps
abbrev pub target_change : ℤ → AxisRow → AxisRow → AxisRow → ℤ
target_change inc a b c = target_step inc b c -ℤ target_step inc a b

abbrev pub setpoint_change : AxisRow → AxisRow → AxisRow → ℤ
setpoint_change a b c = setpoint_step b c -ℤ setpoint_step a b

-- in all rows of an axis the target follows the setpoint; the steps of both differ by less than an
-- increment, and the changes of their steps by less than two
pub record TargetsFollow (inc : ℤ) (rows : List AxisRow) : Type 0 where
  pub each : (k : ℕ) (r : AxisRow) → slice_get rows k ≡ Some r → FollowsSetpoint inc r
  pub steps : (k : ℕ) (a b : AxisRow) → slice_get rows k ≡ Some a →
      slice_get rows (k + 1) ≡ Some b →
      pos (unsigned_abs (target_step inc a b -ℤ setpoint_step a b)) <ℤ inc
  pub changes : (k : ℕ) (a b c : AxisRow) → slice_get rows k ≡ Some a →
      slice_get rows (k + 1) ≡ Some b → slice_get rows (k + 2) ≡ Some c →
      pos (unsigned_abs (target_change inc a b c -ℤ setpoint_change a b c)) <ℤ (inc +ℤ inc)

-- so it is with each axis
unfoldable pub TargetsFollowSetpoints : Setup → List Entry → Type 0
TargetsFollowSetpoints s es = (n : ℕ) (d : AxisDef) → slice_get s.axes n ≡ Some d →
    TargetsFollow d.inc (rows_in n es)

-- an axis stands at the place that its drive reported in the same cycle. IEC 61800-7-201, object
-- 6064h
abbrev pub IsAtDrive : AxisDef → AxisRow → Type 0
IsAtDrive d r = r.setpoint ≡ place_of d.limits.lo r.input.actual r.offset d.inc

-- an axis that was driven before these rows, or was not, stands at its drive in each row that is
-- not driven, and in the first row of a driven spell
abbrev pub StandAtDrive : AxisDef → Bool → List AxisRow → Type 0
StandAtDrive d was [] = Unit {0}
StandAtDrive d was (r ∷ rs) =
    ((was && r.driven) ≡ false → IsAtDrive d r) × StandAtDrive d r.driven rs

-- so it is with each axis, of which a ready one opens driven
unfoldable pub SpellsBeginAtDrives : Setup → List Entry → Type 0
SpellsBeginAtDrives s es = (n : ℕ) (d : AxisDef) → slice_get s.axes n ≡ Some d →
    StandAtDrive d d.ready (rows_in n es)

-- a row is driven exactly where power is on after the entries before its cycle, the drive's answer
-- is operational, and the axis was driven before or its drive stands within the limits
unfoldable pub RowsAreDriven : Setup → List Entry → Type 0
RowsAreDriven s es =
    (made more : List Entry) (c n : ℕ) (rows : List AxisRow) (grows : List GroupRow)
    (r : AxisRow) → es ≡ made ++ cycle c rows grows ∷ more → slice_get rows n ≡ Some r →
    r.driven ≡ is_driven (axis_at (machine_after s made) n) r.input
