-- A row that is added to the cycle under way.
-- for: read_trace, read_within_room
use Rattle.std.specs.Prelude.{◌≡◌, ℕ, ℤ, Option, Result, Ok, List, [], ◌∷◌, ◌++◌, length}
use Rattle.std.specs.Option.{option_to_list}
use Rattle.std.proofs.Common.{subst}
use Rattle.plc_types.specs.declared.axis.AxisRow.{AxisRow}
use Rattle.plc_types.specs.declared.group.GroupRow.{GroupRow}
use Rattle.line_text.specs.Reading.{Takes}
use Rattle.line_text.specs.declared.reader.LineFault.{LineFault}
use Rattle.trace_text.specs.Found.{CycleFound}
use Rattle.trace_text.specs.reading.Reading.{cycle_after, grows_meaning, rows_meaning}
use Rattle.trace_text.specs.reading.Rows.{grow_meaning, row_meaning}
use Rattle.trace_text.specs.reading.SoFar.{SoFar}

-- a row of an axis
pub rows-lead : (s : SoFar) (fields : List (List ℕ)) (r : AxisRow) (place : Option ℤ) (c : CycleFound) (new : SoFar) (answer : Result (Unit {0}) LineFault) →
    row_meaning s.version s.setup (length s.cycle.axes) fields ≡ Ok (r, place) →
    c ≡ record s.cycle { axes = s.cycle.axes ++ r ∷ []; places = s.cycle.places ++ option_to_list place } →
    Takes (Ok (cycle_after s c)) new answer → Takes (rows_meaning s fields) new answer
unfolding rows_meaning
rows-lead s fields r place c new answer e is t =
    let P : CycleFound → Type 0 = λ x. Takes (Ok (cycle_after s x)) new answer in
    rw e (subst P is t)

-- a row of a group
pub grows-lead : (s : SoFar) (fields : List (List ℕ)) (r : GroupRow) (c : CycleFound) (new : SoFar) (answer : Result (Unit {0}) LineFault) →
    grow_meaning s.setup (length s.cycle.groups) fields ≡ Ok r →
    c ≡ record s.cycle { groups = s.cycle.groups ++ r ∷ [] } →
    Takes (Ok (cycle_after s c)) new answer → Takes (grows_meaning s fields) new answer
unfolding grows_meaning
grows-lead s fields r c new answer e is t =
    let P : CycleFound → Type 0 = λ x. Takes (Ok (cycle_after s x)) new answer in
    rw e (subst P is t)
