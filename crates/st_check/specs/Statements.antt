-- What the parts of statements do. This project's profile.
use Rattle.std.specs.Prelude.{ℕ, suc, Bool, true, false, not, ◌||◌, nat_le, nat_lt, max, if◌then◌else◌, is_some, Option, Some, None, List}
use Rattle.std.specs.Option.{option_map_or}
use Rattle.plc_types.specs.Inputs.{is_same}
use Rattle.plc_types.specs.KindNames.{mode_named}
use Rattle.plc_types.specs.declared.inputs.Input.{Input}
use Rattle.plc_types.specs.declared.inputs.Input.TheVariants as input
use Rattle.machine_words.specs.Names.{axis_at}
use Rattle.st_check.specs.Checked.{Checked, broken, broken_unless, lost_unless, with_part}
use Rattle.st_check.specs.Declarations.{fits, signed}
use Rattle.st_check.specs.Expressions.{closes, opens, taken}
use Rattle.st_check.specs.Keys.{key_of_slot, rank_of, slot_of}
use Rattle.st_check.specs.Names.{sort_of}
use Rattle.st_check.specs.Typed.{rest_of}
use Rattle.st_check.specs.declared.known.Callee.{Callee}
use Rattle.st_check.specs.declared.known.Slot.{Slot}
use Rattle.st_check.specs.declared.known.Sort.{Sort}
use Rattle.st_check.specs.declared.known.Sort.TheVariants as sort
use Rattle.st_check.specs.declared.known.ValueType.TheVariants as type
use Rattle.st_tree.specs.declared.part.Part.TheVariants as part

-- a statement begins; there are at most 10,000
unfoldable pub begins : ℕ → Option Sort → Checked → Checked
begins line target c =
    record (broken_unless (nat_lt c.statements 10000) line 6 c) {
      statements = if nat_lt c.statements 10000 then suc c.statements else c.statements;
      statement = record {
        line = line;
        is_lost = false;
        is_mistyped = false;
        target = target;
      };
    }

-- one begins with a name, which is one of the task
unfoldable pub statement : ℕ → List ℕ → Checked → Checked
statement line name c =
    lost_unless (is_some (sort_of c name)) line (begins line (sort_of c name) c)

-- one begins with IF or CASE
unfoldable pub branches : ℕ → Checked → Checked
branches line c = opens line (begins line None c)

-- S4 is reported where a type of the statement is wrong and no name is, in the statement's first
-- line
unfoldable pub typed : Checked → Checked
typed c =
    broken_unless (not c.statement.is_mistyped || c.statement.is_lost) c.statement.line 4 c

-- whether a name is a variable's
abbrev pub is_variable : Option Sort → Bool
is_variable (Some (sort.Variable k t)) = true
is_variable (Some (sort.Block b)) = false
is_variable None = false

-- `:=` after a name: it is a variable's
unfoldable pub sets : Checked → Checked
sets c = lost_unless (is_variable c.statement.target) c.statement.line c

-- the value of a variable ends: it is of its type
abbrev pub set_to : Option Sort → Checked → Checked
set_to (Some (sort.Variable k t)) c = with_part (part.Set k) (typed (taken t c))
set_to (Some (sort.Block b)) c = typed (taken type.Dint (lost_unless false c.statement.line c))
set_to None c = typed (taken type.Dint (lost_unless false c.statement.line c))

unfoldable pub set_end : Checked → Checked
set_end c = set_to c.statement.target c

-- the block of a name
abbrev pub callee_of : Option Sort → Option Callee
callee_of (Some (sort.Block b)) = Some b
callee_of (Some (sort.Variable k t)) = None
callee_of None = None

-- `(` after a name: it is a block's
unfoldable pub calls : Checked → Checked
calls c =
    record (lost_unless (is_some (callee_of c.statement.target)) c.statement.line c) {
      call = record {
        callee = callee_of c.statement.target;
        line = c.statement.line;
        next = 0;
        slot = None;
      };
    }

-- the number of a block
abbrev pub number_of : Option Callee → ℕ
number_of None = 0
number_of (Some b) = b.number

-- the expression for `execute` ends: it is a BOOL, and the block is there
unfoldable pub executed : Checked → Checked
executed c =
    with_part (part.Execute (number_of c.call.callee))
    (taken type.Bool (lost_unless (is_some c.call.callee) c.statement.line c))

-- a key that the block takes stands in its order after those before
abbrev pub with_slot : ℕ → Slot → Checked → Checked
with_slot line s c =
    record (broken_unless (nat_le c.call.next (rank_of s)) line 5 c) {
      call = record c.call {
        line = line;
        next = max c.call.next (suc (rank_of s));
        slot = Some s;
      };
    }

-- a key that it doesn't take
abbrev pub without_slot : ℕ → Checked → Checked
without_slot line c =
    record (broken_unless false line 5 c) { call = record c.call { line = line; slot = None } }

-- a key of a call; where the block isn't there it isn't looked at
unfoldable pub key : ℕ → List ℕ → Checked → Checked
key line word c =
    option_map_or
    (λ b. option_map_or (λ s. with_slot line s c) (slot_of b word) (without_slot line c))
    c.call.callee (record c { call = record c.call { line = line; slot = None } })

-- the last key is none that the block takes
abbrev pub not_taken : Checked → Checked
not_taken c = broken c.call.line 5 c

-- whether a key is that of an input
abbrev pub gives : Input → Option Slot → Bool
gives i None = false
gives i (Some s) = is_same s.input i

-- the word of a mode, where the block takes one
unfoldable pub mode : ℕ → List ℕ → Checked → Checked
mode line word c =
    if gives input.Mode c.call.slot
    then option_map_or (λ m. with_part (part.Mode m) c) (mode_named word) (lost_unless false line c)
    else not_taken c

-- the name of a master, where the block takes one: it is an axis
unfoldable pub master : ℕ → List ℕ → Checked → Checked
master line word c =
    if gives input.Master c.call.slot
    then option_map_or (λ a. with_part (part.Master a) c) (axis_at c.setup word)
    (lost_unless false line c)
    else not_taken c

-- the expression of a key ends: it is a DINT, where the block takes the key
abbrev pub given_to : Option Slot → Checked → Checked
given_to (Some s) c =
    option_map_or (λ k. with_part (part.Given k) (taken type.Dint c)) (key_of_slot s)
    (not_taken (taken type.Dint c))
given_to None c = not_taken (record c { types = rest_of c.types })

unfoldable pub given : Checked → Checked
given c = given_to c.call.slot c

-- a call ends
unfoldable pub call_end : Checked → Checked
call_end c = with_part part.CallEnd (typed c)

-- the condition of an IF ends: it is a BOOL
unfoldable pub then_ : Checked → Checked
then_ c = with_part part.If (typed (taken type.Bool c))

-- the selector of a CASE ends: it is a DINT
unfoldable pub of_ : Checked → Checked
of_ c = with_part part.Case (typed (taken type.Dint c))

-- a branch begins with a number
unfoldable pub branch : ℕ → Bool → ℕ → Checked → Checked
branch line negative size c =
    with_part (part.Branch (signed negative size)) (broken_unless (fits size) line 5 c)

-- an IF or a CASE closes
unfoldable pub end_of : Bool → Checked → Checked
end_of is_case c = with_part (if is_case then part.EndCase else part.EndIf) (closes c)

-- and has no ELSE
unfoldable pub no_else : Bool → Checked → Checked
no_else is_case c = end_of is_case (with_part part.Else c)
