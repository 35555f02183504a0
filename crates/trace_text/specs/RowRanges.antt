-- The ranges of what a history of a configuration holds, as its columns have them. This project's
-- profile.
use Rattle.std.specs.Prelude.{◌≡◌, ◌-◌, ◌^◌, ◌<◌, ◌≤◌, ℤ, pos, neg_ℤ, ◌≤ℤ◌, Option, Some, None}
use Rattle.std.proofs.Common.{FitsSigned, w64}
use Rattle.plc_types.specs.declared.axis.AxisDef.{AxisDef}
use Rattle.plc_types.specs.declared.axis.AxisRow.{AxisRow}
use Rattle.plc_types.specs.declared.group.GroupRow.{GroupRow}
use Rattle.motion_history.specs.declared.refused.TraceVersion.{TraceVersion}
use Rattle.motion_history.specs.declared.refused.TraceVersion.TheVariants.{One}
use Rattle.trace_text.specs.Records.{reported_place}
use Rattle.trace_text.specs.declared.drive_end.DriveEndRow.{DriveEndRow}

-- a row of an axis has words of 16 bits, positions of 32, a mode of 8, an ErrorID of 16 and a
-- setpoint of 64, and its drive is given mode 8
pub record IsRow (r : AxisRow) : Type 0 where
  pub statusword : r.input.statusword < 65536
  pub actual_least : neg_ℤ (pos (2 ^ 31)) ≤ℤ r.input.actual
  pub actual_most : r.input.actual ≤ℤ pos (2 ^ 31 - 1)
  pub mode_least : neg_ℤ (pos 128) ≤ℤ r.input.mode_display
  pub mode_most : r.input.mode_display ≤ℤ pos 127
  pub error : r.error ≤ 65535
  pub setpoint : FitsSigned w64 r.setpoint
  pub controlword : r.output.controlword < 65536
  pub mode : r.output.mode ≡ pos 8
  pub target_least : neg_ℤ (pos (2 ^ 31)) ≤ℤ r.output.target
  pub target_most : r.output.target ≤ℤ pos (2 ^ 31 - 1)

-- a row of a group has an ErrorID of 16 bits
pub record IsGroupRow (r : GroupRow) : Type 0 where
  pub error : r.error ≤ 65535

-- a drive took a number of setpoints of 32 bits, and its position has 32
pub record IsDriveEnd (d : DriveEndRow) : Type 0 where
  pub taken : d.taken ≤ 2 ^ 32 - 1
  pub least : neg_ℤ (pos (2 ^ 31)) ≤ℤ d.actual
  pub most : d.actual ≤ℤ pos (2 ^ 31 - 1)

-- a row as it is found: without its offset
abbrev pub found_row : AxisRow → AxisRow
found_row r = record r { offset = pos 0 }

-- the place that is found with a row; none in version 1
abbrev pub found_place : TraceVersion → AxisDef → AxisRow → Option ℤ
found_place One d r = None
found_place v d r = Some (reported_place d r)

-- the place that a drive reported has 64 bits
abbrev pub IsReported : AxisDef → AxisRow → Type 0
IsReported d r = FitsSigned w64 (reported_place d r)
