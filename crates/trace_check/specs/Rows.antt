-- When the row of an axis is as it is found. This project's profile.
use Rattle.std.specs.Prelude.{◌≡◌, ℕ, ℤ, Option, Some, List, slice_get}
use Rattle.plc_types.specs.declared.axis.AxisDef.{AxisDef}
use Rattle.plc_types.specs.declared.axis.AxisRow.{AxisRow}
use Rattle.motion_history.specs.declared.refused.TraceVersion.{TraceVersion}
use Rattle.trace_text.specs.RowRanges.{found_place, found_row}

-- a row of an axis is found so: without its offset, and from version 2 on with this place
pub record IsFoundAs (v : TraceVersion) (d : AxisDef) (r found : AxisRow)
    (reported : Option ℤ) : Type 0 where
  pub row : found_row r ≡ found
  pub place : found_place v d r ≡ reported

-- the row of the axis of a number is, among those of a cycle
abbrev pub IsFoundAt : TraceVersion → List AxisDef → List AxisRow → List AxisRow →
    (ℕ → Option ℤ) → ℕ → Type 0
IsFoundAt v axes expected found place_of n =
    (d : AxisDef) (r row : AxisRow) → slice_get axes n ≡ Some d → slice_get expected n ≡ Some r →
    slice_get found n ≡ Some row → IsFoundAs v d r row (place_of n)
