-- What the headlines of the program say of a legal history: of its limits, of arrival and of its
-- drives. This project's profile.
use Rattle.std.specs.Prelude.{◌≡◌, ℕ, Some, List, slice_get}
use Rattle.plc_types.specs.Counts.{count_of}
use Rattle.plc_types.specs.declared.axis.AxisDef.{AxisDef}
use Rattle.plc_types.specs.declared.axis.AxisRow.{AxisRow}
use Rattle.motion_history.specs.Columns.{rows_in}
use Rattle.motion_history.specs.Entries.{Entry}
use Rattle.motion_history.specs.Setup.{Setup, IsSetup}
use Rattle.motion_kernel.specs.kept.Machine.{AreWhole}
use Rattle.motion_laws.specs.arrivals.Moves.{MovesTurnInTime}
use Rattle.motion_laws.specs.limits.Drives.{RowsAreDriven}
use Rattle.motion_laws.specs.limits.Rows.{KeepTheirLimits}

-- the configuration is sound, and its groups have as many axes as they name; each row keeps its
-- axis's limits of position, velocity, acceleration and braking while it is driven, and is driven
-- exactly where power is on, the drive is operational and the axis was driven before or its drive
-- stands within the limits; the target that a drive is given is the count of its row's setpoint;
-- and each move, Halt and Stop of an axis that begins is within its bound Done, a move at its
-- target, or was aborted, blended or faulted before. All other laws of a legal history follow
pub record KeepsHeadline (s : Setup) (es : List Entry) : Type 0 where
  pub setup : IsSetup s
  pub whole : AreWhole s
  pub limits : KeepTheirLimits s es
  pub driven : RowsAreDriven s es
  pub targets : (n k : ℕ) (d : AxisDef) (r : AxisRow) → slice_get s.axes n ≡ Some d →
      slice_get (rows_in n es) k ≡ Some r → r.output.target ≡ count_of r.setpoint r.offset d.inc
  pub arrival : MovesTurnInTime s es
