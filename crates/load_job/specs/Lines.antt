-- What the line of a generated load gives. This project's profile.
use Rattle.std.specs.Prelude.{ℕ, ℤ, pos, ◌+ℤ◌, Bool, false, ◌&&◌, nat_le, codes, decimal, Option, Some, None, List, [], ◌∷◌, count_by, length}
use Rattle.std.specs.Fmt.{signed_decimal}
use Rattle.std.specs.List.{concat}
use Rattle.std.specs.Option.{unwrap_or}
use Rattle.plc_types.specs.declared.axis.AxisRow.{AxisRow}
use Rattle.motion_history.specs.Entries.{Entry, call, cycle, end_of}

-- whether an entry is a call with Execute true that is refused: by an error from 1 to 19
abbrev pub is_refused : Entry → Bool
is_refused (call k inputs reply) =
    inputs.execute && nat_le 1 reply.error_id && nat_le reply.error_id 19
is_refused (cycle n axes groups) = false
is_refused (end_of task) = false

-- whether an entry is a call whose reply shows Done
abbrev pub shows_done : Entry → Bool
shows_done (call k inputs reply) = reply.done
shows_done (cycle n axes groups) = false
shows_done (end_of task) = false

-- the rows of the axes in an entry, if it is a cycle
abbrev pub rows_of : Entry → Option (List AxisRow)
rows_of (call k inputs reply) = None
rows_of (cycle n axes groups) = Some axes
rows_of (end_of task) = None

-- the rows of the last cycle of some entries, or these where there is none
abbrev pub rows_behind : List AxisRow → List Entry → List AxisRow
rows_behind rows [] = rows
rows_behind rows (e ∷ es) = rows_behind (unwrap_or (rows_of e) rows) es

-- the rows of the axes in the last cycle
unfoldable pub last_rows : List Entry → List AxisRow
last_rows es = rows_behind [] es

-- the sum of the setpoints in some rows
unfoldable pub setpoint_sum : List AxisRow → ℤ
setpoint_sum [] = pos 0
setpoint_sum (r ∷ rs) = r.setpoint +ℤ setpoint_sum rs

-- `gen SEED entries E refused R done D sum S`: the entries of a load's history, its refused calls,
-- the replies that show Done, and the sum of the last setpoints
unfoldable pub load_line : ℕ → List Entry → List ℕ
load_line seed es = concat
    (codes "gen " ∷ decimal seed ∷ codes " entries " ∷ decimal (length es) ∷
    codes " refused " ∷ decimal (count_by is_refused es) ∷
    codes " done " ∷ decimal (count_by shows_done es) ∷
    codes " sum " ∷ signed_decimal (setpoint_sum (last_rows es)) ∷ codes "\n" ∷ [])
