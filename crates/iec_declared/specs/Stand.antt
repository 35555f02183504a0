-- What is known of a text as far as its declarations were read, and the rules that they broke. This
-- project's profile.
use Rattle.std.specs.Prelude.{ℕ, Bool, true, false, not, ◌&&◌, ◌||◌, ◌==◌, nat_lt, pos, if◌then◌else◌, Option, Some, None, List, []}
use Rattle.iec_declared.specs.declared.known.Clause.{Clause}
use Rattle.iec_declared.specs.declared.known.Counts.{Counts}
use Rattle.iec_declared.specs.declared.known.Declaration.{Declaration}
use Rattle.iec_declared.specs.declared.known.Enumeration.{Enumeration}
use Rattle.iec_declared.specs.declared.known.Expected.{Expected}
use Rattle.iec_declared.specs.declared.known.Expected.TheVariants.{Known}
use Rattle.iec_declared.specs.declared.known.MotionBlock.{MotionBlock}
use Rattle.iec_declared.specs.declared.known.Shape.TheVariants as shape
use Rattle.iec_declared.specs.declared.known.Used.{Used}
use Rattle.iec_tree.specs.declared.elementary.Elementary.TheVariants as type
use Rattle.iec_tree.specs.declared.section.Section.{Section}
use Rattle.iec_tree.specs.declared.section.Section.TheVariants as section
use Rattle.iec_names.specs.Scopes.{Names}
use Rattle.iec_operands.specs.Operands.{Waiting, nothing}
use Rattle.line_text.specs.declared.reader.LineRefused.{LineRefused}

-- the names so far; the operands that wait; what is under way; the name and the word that were read
-- last, and the line of the last constant; what the next name is; whether a program is read; the
-- names that are declared together; how many there are, and the motion blocks; the first line that
-- breaks a rule, and whether reading stopped there
pub record Declared : Type 0 where
  pub names : Names
  pub operands : Waiting
  pub clause : Clause
  pub declaration : Declaration
  pub enumeration : Enumeration
  pub name : Option Used
  pub word : Option Used
  pub constant_line : ℕ
  pub expected : Expected
  pub in_program : Bool
  pub together : List Used
  pub counts : Counts
  pub blocks : List MotionBlock
  pub fault : Option LineRefused
  pub stopped : Bool

-- a line and a rule come before a fault: an earlier line, or there an earlier rule
abbrev pub is_before : ℕ → ℕ → LineRefused → Bool
is_before line rule f = nat_lt line f.line || ((line == f.line) && nat_lt rule f.rule)

-- the first of a fault that was found and one at this place
unfoldable pub least : Option LineRefused → ℕ → ℕ → LineRefused
least None line rule = record { line = line; rule = rule }
least (Some f) line rule =
    if is_before line rule f then record { line = line; rule = rule } else f

-- the rule is broken in this line
abbrev pub broken : ℕ → ℕ → Declared → Declared
broken line rule d = record d { fault = Some (least d.fault line rule) }

-- the rule is broken unless this holds
unfoldable pub broken_unless : Bool → ℕ → ℕ → Declared → Declared
broken_unless holds line rule d = if holds then d else broken line rule d

-- reading stops by a rule that is broken in this line, unless this holds
unfoldable pub stopped_unless : Bool → ℕ → ℕ → Declared → Declared
stopped_unless holds line rule d =
    if holds then d else record (broken line rule d) { stopped = true }

-- a name is wrong in this line, unless this holds: then the types of what it stands in don't count
unfoldable pub lost_unless : Bool → ℕ → Declared → Declared
lost_unless holds line d =
    if holds then d else record (broken line 3 d) { clause = record d.clause { lost = true } }

-- a declaration or a statement begins
unfoldable pub begun : ℕ → Declared → Declared
begun line d = record d {
  clause = record { line = line; begun = true; lost = false };
  operands = record d.operands { mistyped = false };
}

-- it ends: a wrong type is reported in its first line, unless a name was wrong
unfoldable pub ended : Declared → Declared
ended d =
    broken_unless (not d.operands.mistyped || d.clause.lost) d.clause.line 4
    (record d { clause = record d.clause { begun = false } })

-- a name that was read, and one that a point precedes
abbrev pub with_used : Used → Declared → Declared
with_used u d = record d { name = Some u }

abbrev pub with_word : Used → Declared → Declared
with_word u d = record d { word = Some u }

-- a declaration that hasn't begun, in a section
abbrev pub no_declaration : Section → Declaration
no_declaration s = record {
  section = s;
  shape = shape.Variable type.Dint;
  array = None;
  has_object = false;
  object = None;
  has_initial = false;
  has_list = false;
  values = 0;
}

-- a declaration begins
abbrev pub opened : ℕ → Declared → Declared
opened line d = record d {
  clause = record { line = line; begun = true; lost = false };
  operands = record d.operands { mistyped = false };
  together = [];
  declaration = no_declaration d.declaration.section;
}

-- nothing is declared yet but these names, of the machine
unfoldable pub opening : Names → Declared
opening names = record {
  names = names;
  operands = nothing;
  clause = record { line = 0; begun = false; lost = false };
  declaration = no_declaration section.Globals;
  enumeration = record { word = None; number = None; next = pos 0 };
  name = None;
  word = None;
  constant_line = 0;
  expected = Known;
  in_program = false;
  together = [];
  counts = record { enumerations = 0; programs = 0; cells = 0 };
  blocks = [];
  fault = None;
  stopped = false;
}
