-- The rows of one axis in a history. This project's profile.
use Rattle.std.specs.Prelude.{ℕ, false, pos, List, [], ◌∷◌, slice_index_or}
use Rattle.plc_types.specs.declared.axis.AxisRow.{AxisRow}
use Rattle.plc_types.specs.declared.axis_state.AxisState.TheVariants.{Disabled}
use Rattle.motion_history.specs.Entries.{Entry, call, cycle, end_of}

-- a row that is nowhere stands for one that is not there
abbrev pub no_row : AxisRow
no_row = record {
  input = record { statusword = 0; mode_display = pos 0; actual = pos 0 };
  state = Disabled;
  error = 0;
  driven = false;
  setpoint = pos 0;
  offset = pos 0;
  output = record { controlword = 0; mode = pos 0; target = pos 0 };
}

-- the rows of the axis of this number, one a cycle
abbrev pub rows_in : ℕ → List Entry → List AxisRow
rows_in n [] = []
rows_in n (call k inputs reply ∷ es) = rows_in n es
rows_in n (cycle c axes groups ∷ es) = slice_index_or axes n no_row ∷ rows_in n es
rows_in n (end_of task ∷ es) = rows_in n es
