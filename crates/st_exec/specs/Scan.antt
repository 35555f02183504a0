-- A scan of a task: the calls that its tree makes, by the replies that they get. IEC 61131-3
-- section 3.3.2 (statements), in this project's profile.
use Rattle.std.specs.Prelude.{ℕ, ℤ, pos, ◌*ℤ◌, int_le, unsigned_abs, Bool, ◌&&◌, if◌then◌else◌, List, [], ◌∷◌, ◌++◌, map, slice_set}
use Rattle.std.specs.Int.{int_wrap, w32}
use Rattle.std.specs.Ordering.{int_eq}
use Rattle.plc_types.specs.Inputs.{inputs_off}
use Rattle.plc_types.specs.declared.inputs.Inputs.{Inputs}
use Rattle.plc_types.specs.declared.outputs.Outputs.{Outputs}
use Rattle.fixed_units.specs.PerCycle.{per_cycle_of, per_cycle_squared_of}
use Rattle.st_tree.specs.declared.call.Given.{Given}
use Rattle.st_tree.specs.declared.call.Given.TheVariants.{Number, Mode, Master}
use Rattle.st_tree.specs.declared.call.Key.{Key}
use Rattle.st_tree.specs.declared.call.Key.TheVariants.{Position, Velocity, Acceleration, Deceleration, Jerk, Numerator, Denominator, Table}
use Rattle.st_tree.specs.declared.expression.Expr.{Expr}
use Rattle.st_tree.specs.declared.statement.Stmt.{Stmt}
use Rattle.st_tree.specs.declared.statement.Stmt.TheOpen.{Stmt-F, Branch-F}
use Rattle.st_tree.specs.declared.statement.Stmt.TheFolds.{fold-Stmt}
use Rattle.st_exec.specs.Values.{is_true, value_of}

-- ---- the inputs of a call

-- thousandths of a user unit in internal units, each a billionth
abbrev pub thousandths : ℤ → ℤ
thousandths z = z *ℤ pos 1000000

-- a number outside 0 to 65535 names no table
unfoldable pub table_of : ℤ → ℕ
table_of z = if int_le (pos 0) z && int_le z (pos 65535) then unsigned_abs z else 0

-- inputs with a position
abbrev pub with_position : ℕ → ℤ → Inputs → Inputs
with_position place z i = record i { positions = slice_set i.positions place z }

-- inputs with a DINT for a key, where a cycle has this many microseconds
abbrev pub with_dint : ℕ → Key → ℤ → Inputs → Inputs
with_dint us (Position place) z i = with_position place (thousandths z) i
with_dint us Velocity z i = record i { velocity = per_cycle_of (thousandths z) us }
with_dint us Acceleration z i = record i { acceleration = per_cycle_squared_of (thousandths z) us }
with_dint us Deceleration z i = record i { deceleration = per_cycle_squared_of (thousandths z) us }
with_dint us Jerk z i = record i { jerk = thousandths z }
with_dint us Numerator z i = record i { numerator = z }
with_dint us Denominator z i = record i { denominator = z }
with_dint us Table z i = record i { table = table_of z }

-- inputs with a number for a key, which counts as a DINT: it wraps at 32 bits
abbrev pub with_number : ℕ → Key → ℤ → Inputs → Inputs
with_number us key z i = with_dint us key (int_wrap w32 z) i

-- inputs with what a key gives
abbrev pub with_given : ℕ → List ℤ → List Outputs → Given → Inputs → Inputs
with_given us vars last (Number key e) i = with_number us key (value_of e vars last) i
with_given us vars last (Mode mode) i = record i { mode = mode }
with_given us vars last (Master axis) i = record i { master = axis }

-- inputs with what each key gives; a key that is left out leaves the input as it is
abbrev pub with_all : ℕ → List ℤ → List Outputs → List Given → Inputs → Inputs
with_all us vars last [] i = i
with_all us vars last (g ∷ gs) i = with_all us vars last gs (with_given us vars last g i)

-- inputs of which Execute alone is given
abbrev pub with_execute : Bool → Inputs
with_execute execute = record inputs_off { execute = execute }

abbrev pub begun : ℤ → Inputs
begun z = with_execute (is_true z)

-- ---- a scan

-- a call that is made
pub record Asked : Type 0 where
  pub instance : ℕ
  pub inputs : Inputs

-- how far a scan is: the calls made, the variables, the last reply of each block, and the replies
-- that are left
pub record Stand : Type 0 where
  pub calls : List Asked
  pub vars : List ℤ
  pub last : List Outputs
  pub left : List Outputs

-- what becomes of a scan: it is over, or waits for the reply to the last of its calls. An operand
-- is missing in no scan of a tree
pub data Course : Type 0 where
  Over : Stand → Course
  Waits : List Asked → Course
  Missing : Course

-- no operand is missing
abbrev pub HasAll : Course → Type 0
HasAll (Over s) = Unit {0}
HasAll (Waits calls) = Unit {0}
HasAll Missing = ⊥

-- goes on where a scan isn't waiting
abbrev pub then_do : Course → (Stand → Course) → Course
then_do (Over s) go = go s
then_do (Waits calls) go = Waits calls
then_do Missing go = Missing

-- a call gets the first of the replies that are left, or the scan waits for it
abbrev pub asked : Asked → Stand → List Outputs → (Stand → Course) → Course
asked call s [] go = Waits (s.calls ++ call ∷ [])
asked call s (reply ∷ left) go = go (record {
  calls = s.calls ++ call ∷ [];
  vars = s.vars;
  last = slice_set s.last call.instance reply;
  left = left;
})

-- statements one after another
abbrev pub in_order : List (Stand → Course) → Stand → Course
in_order [] s = Over s
in_order (first ∷ more) s = then_do (first s) (in_order more)

-- the first branch with the value, or the statements after ELSE
abbrev pub chosen : List (ℤ × (Stand → Course)) → (Stand → Course) → ℤ → Stand → Course
chosen [] otherwise v s = otherwise s
chosen (branch ∷ branches) otherwise v s =
    if int_eq v branch.0 then branch.1 s else chosen branches otherwise v s

-- the call of a block where a scan stands
abbrev pub call_of : ℕ → ℕ → Expr → List Given → Stand → Asked
call_of us k e given s = record {
  instance = k;
  inputs = with_all us s.vars s.last given (begun (value_of e s.vars s.last));
}

-- one statement, with the scan of each inside it in its place
abbrev pub scan_step : ℕ → Stmt-F (Stand → Course) (ℤ × (Stand → Course)) → Stand → Course
scan_step us (Stmt-F.Set x e) s =
    Over (record s { vars = slice_set s.vars x (value_of e s.vars s.last) })
scan_step us (Stmt-F.Call k e given) s = asked (call_of us k e given.items s) s s.left Over
scan_step us (Stmt-F.If e held otherwise) s =
    if is_true (value_of e s.vars s.last) then in_order held.items s else in_order otherwise.items s
scan_step us (Stmt-F.Case e branches otherwise) s =
    chosen branches.items (in_order otherwise.items) (value_of e s.vars s.last) s

abbrev pub branch_step : Branch-F (Stand → Course) (ℤ × (Stand → Course)) → ℤ × (Stand → Course)
branch_step b = (b.value, in_order b.body.items)

-- the scan of a statement, where a cycle has this many microseconds
abbrev pub scan : ℕ → Stmt → Stand → Course
scan us = fold-Stmt (Stand → Course) (ℤ × (Stand → Course)) (scan_step us) branch_step

-- a scan before its first statement
abbrev pub at_first : List ℤ → List Outputs → List Outputs → Stand
at_first vars last replies = record { calls = []; vars = vars; last = last; left = replies }

-- the scan of a task's statements, by its variables and last replies at the start and the replies
-- got in it
unfoldable pub scan_of : ℕ → List Stmt → List ℤ → List Outputs → List Outputs → Course
scan_of us body vars last replies = in_order (map (scan us) body) (at_first vars last replies)
