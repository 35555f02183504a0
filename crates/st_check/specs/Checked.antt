-- What is known of a text as far as it was read, and the rules that it broke. This project's
-- profile.
use Rattle.std.specs.Prelude.{ℕ, Bool, ◌&&◌, ◌||◌, ◌==◌, nat_lt, if◌then◌else◌, Option, Some, None, List, [], ◌∷◌, ◌++◌, true}
use Rattle.line_text.specs.declared.reader.LineRefused.{LineRefused}
use Rattle.motion_history.specs.Setup.{Setup}
use Rattle.st_check.specs.declared.known.Call.{Call}
use Rattle.st_check.specs.declared.known.Declaration.{Declaration}
use Rattle.st_check.specs.declared.known.Known.{Known}
use Rattle.st_check.specs.declared.known.Statement.{Statement}
use Rattle.st_check.specs.declared.known.ValueType.{ValueType}
use Rattle.st_check.specs.declared.known.Used.{Used}
use Rattle.st_tree.specs.declared.part.Part.{Part}

-- how many tokens there were; the machine with the tasks and blocks so far; the names of all tasks
-- and blocks of the text; the names of the task that is under way, and how many of its variables
-- and of the blocks before its declarations there are; the types of the operands that wait, the last first; how
-- many statements there were, and how many `IF`, `CASE` and parentheses are open; what is under
-- way; the first rule that is broken; and what is read, the names of tasks and variables apart from
-- the parts
pub record Checked : Type 0 where
  pub tokens : ℕ
  pub setup : Setup
  pub used : List (List ℕ)
  pub known : List Known
  pub variables : ℕ
  pub blocks_before : ℕ
  pub types : List ValueType
  pub statements : ℕ
  pub nested : ℕ
  pub declaration : Declaration
  pub statement : Statement
  pub call : Call
  pub name : Used
  pub fault : Option LineRefused
  pub names : List (List ℕ)
  pub parts : List Part

-- whether a place is before another: an earlier line, or there an earlier rule
abbrev pub is_before : ℕ → ℕ → LineRefused → Bool
is_before line rule f = nat_lt line f.line || ((line == f.line) && nat_lt rule f.rule)

-- the first of a fault that was found and one at this place
unfoldable pub least : Option LineRefused → ℕ → ℕ → LineRefused
least None line rule = record { line = line; rule = rule }
least (Some f) line rule =
    if is_before line rule f then record { line = line; rule = rule } else f

-- the rule is broken in this line
abbrev pub broken : ℕ → ℕ → Checked → Checked
broken line rule c = record c { fault = Some (least c.fault line rule) }

-- the rule is broken unless this holds
unfoldable pub broken_unless : Bool → ℕ → ℕ → Checked → Checked
broken_unless holds line rule c = if holds then c else broken line rule c

-- a name is used already, isn't there or doesn't fit: S3, unless this holds. The types of the
-- statement aren't looked at then
unfoldable pub lost_unless : Bool → ℕ → Checked → Checked
lost_unless holds line c =
    if holds then c
    else record (broken line 3 c) { statement = record c.statement { is_lost = true } }

-- a type is wrong unless this holds
unfoldable pub mistyped_unless : Bool → Checked → Checked
mistyped_unless holds c =
    if holds then c else record c { statement = record c.statement { is_mistyped = true } }

-- a part is read
abbrev pub with_part : Part → Checked → Checked
with_part part c = record c { parts = c.parts ++ part ∷ [] }
