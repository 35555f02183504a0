-- The records of a trace as they are found in it. This project's profile.
use Rattle.std.specs.Prelude.{ℕ, ℤ, List, ◌∷◌, [], ◌++◌, slice_get, slice_set}
use Rattle.std.specs.Fmt.{signed_decimal}
use Rattle.std.specs.List.{flat_map}
use Rattle.std.specs.Option.{option_map}
use Rattle.plc_types.specs.declared.axis.AxisRow.{AxisRow}
use Rattle.motion_history.specs.Setup.{Setup}
use Rattle.motion_history.specs.declared.refused.TraceVersion.{TraceVersion}
use Rattle.motion_history.specs.declared.refused.TraceVersion.TheVariants.{One}
use Rattle.trace_text.specs.Records.{call_fields, cycle_fields, end_fields, grow_fields, row_fields, text_or_none}
use Rattle.trace_text.specs.Trace.{drive_records, numbered}
use Rattle.trace_text.specs.TraceState.{TraceState}
use Rattle.trace_text.specs.declared.found.FoundEntry.{FoundEntry}
use Rattle.trace_text.specs.declared.found.FoundEntry.TheVariants as found

-- the text of the place that was found in the row of the axis of a number, if there is one
abbrev pub place_text : List ℤ → ℕ → List ℕ
place_text places n = text_or_none (option_map signed_decimal (slice_get places n))

-- a row as it is found: its last field is the place that was found with it
abbrev pub found_row_fields : Setup → List ℤ → ℕ → AxisRow → List (List ℕ)
found_row_fields s places n r = slice_set (row_fields One s n r) 11 (place_text places n)

-- the records of an entry as they are found
unfoldable pub found_entry_records : TraceVersion → Setup → FoundEntry → List (List (List ℕ))
found_entry_records v s (found.Call k inputs reply) = call_fields v s k inputs reply ∷ []
found_entry_records v s (found.Cycle c) =
    cycle_fields c.number ∷ (numbered (found_row_fields s c.places) 0 c.axes ++
    numbered (grow_fields s) 0 c.groups)
found_entry_records v s (found.End task) = end_fields s task ∷ []

-- the records of a trace after its machine part, as they are found
unfoldable pub found_records : TraceState → List (List (List ℕ))
found_records t =
    flat_map (found_entry_records t.version t.config) t.found ++ drive_records t.config t.drives
