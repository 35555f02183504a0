-- What is written of a value is read as this value. This project's profile.
use Rattle.std.specs.Prelude.{◌≡◌, ℕ, ◌^◌, ◌<◌, ◌≤◌, ℤ, Bool, Some, decimal, ◌≤ℤ◌}
use Rattle.std.specs.Fmt.{signed_decimal}
use Rattle.std.proofs.Common.{FitsSigned, w64}
use Rattle.plc_types.specs.declared.axis_state.AxisState.{AxisState}
use Rattle.plc_types.specs.declared.drive.DriveState.{DriveState}
use Rattle.plc_types.specs.declared.outputs.Outputs.{Outputs}
use Rattle.plc_types.specs.declared.group.GroupState.{GroupState}
use Rattle.trace_columns.specs.Columns.{axis_state_of, drive_state_of, flag_of, group_state_of, hex_of, number_of, outputs_of, unsigned_of, wide_number_of}
use Rattle.trace_columns.specs.Fields.{axis_state_text, drive_state_text, flag_text, group_state_text, hex_text, outputs_text}

-- each column reads what is written of its values: numbers of 64 bits and less, numbers that are
-- not negative, words, truth values, outputs with their ErrorID, and states
pub record AreReadBack : Type 0 where
  pub wide : (z : ℤ) → FitsSigned w64 z → wide_number_of (signed_decimal z) ≡ Some z
  pub numbers : (least most z : ℤ) → FitsSigned w64 z → least ≤ℤ z → z ≤ℤ most →
      number_of least most (signed_decimal z) ≡ Some z
  pub unsigned : (least most n : ℕ) → n < 2 ^ 63 → least ≤ n → n ≤ most →
      unsigned_of least most (decimal n) ≡ Some n
  pub words : (w : ℕ) → w < 65536 → hex_of (hex_text w) ≡ Some w
  pub flags : (b : Bool) → flag_of (flag_text b) ≡ Some b
  pub outputs : (o : Outputs) → outputs_of (outputs_text o) o.error_id ≡ Some o
  pub axes : (s : AxisState) → axis_state_of (axis_state_text s) ≡ Some s
  pub groups : (s : GroupState) → group_state_of (group_state_text s) ≡ Some s
  pub drives : (s : DriveState) → drive_state_of (drive_state_text s) ≡ Some s
