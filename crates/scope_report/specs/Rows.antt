-- The rows of an axis in a trace. This project's profile.
use Rattle.std.specs.Prelude.{ℕ, List, [], slice_get}
use Rattle.std.specs.List.{flat_map}
use Rattle.std.specs.Option.{option_to_list}
use Rattle.plc_types.specs.declared.axis.AxisRow.{AxisRow}
use Rattle.motion_history.specs.Entries.{Entry, call, cycle, end_of}

-- the row of an axis in a cycle, by the number of the axis
abbrev pub row_at : ℕ → List AxisRow → List AxisRow
row_at axis rows = option_to_list (slice_get rows axis)

-- the rows of an axis in an entry: a cycle has one
abbrev pub rows_in : ℕ → Entry → List AxisRow
rows_in axis (call block inputs reply) = []
rows_in axis (cycle n rows groups) = row_at axis rows
rows_in axis (end_of task) = []

-- the rows of an axis in all entries
abbrev pub rows_of : ℕ → List Entry → List AxisRow
rows_of axis es = flat_map (rows_in axis) es
