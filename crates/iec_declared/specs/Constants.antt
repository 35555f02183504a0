-- What the parts of constants do. IEC 61131-3 section 6.3, in this project's profile.
use Rattle.std.specs.Prelude.{ℕ, ◌+◌, ◌-◌, ◌^◌, min, ◌==◌, ℤ, pos, ◌-ℤ◌, unsigned_abs, Bool, true, false, not, ◌&&◌, if◌then◌else◌, Option, Some, None}
use Rattle.std.specs.Option.{option_map_or}
use Rattle.iec_declared.specs.Stand.{Declared, broken_unless, lost_unless}
use Rattle.iec_declared.specs.declared.known.Declaration.{Declaration}
use Rattle.iec_declared.specs.declared.known.Range.{Range}
use Rattle.iec_declared.specs.declared.known.Used.{Used}
use Rattle.iec_names.specs.Scopes.{found, found_globally}
use Rattle.iec_names.specs.declared.sort.Sort.{Sort}
use Rattle.iec_names.specs.declared.sort.Sort.TheVariants as sort
use Rattle.iec_operands.specs.Expressions.{negated, with_operand}
use Rattle.iec_operands.specs.Literals.{literal_of}
use Rattle.iec_operands.specs.declared.number.Literal.{Literal}
use Rattle.iec_operands.specs.declared.operand.Operand.{Operand}
use Rattle.iec_operands.specs.declared.operand.Operand.TheVariants.{Value}
use Rattle.iec_tokens.specs.declared.token.Number.{Number}
use Rattle.iec_tree.specs.declared.elementary.Elementary.TheVariants as type

-- what stands for a constant that isn't there
abbrev pub no_constant : Operand
no_constant = Value type.Dint (pos 0)

-- how many elements an array has
unfoldable pub size_of : Range → ℕ
size_of r = unsigned_abs (r.last -ℤ r.first) + 1

-- a value of a list is the first for which the array has no element
abbrev pub is_beyond : Declaration → Bool
is_beyond d = d.has_list && option_map_or (λ r. d.values == size_of r) d.array false

-- a value stands in this line
unfoldable pub value_counted : ℕ → Declared → Declared
value_counted line d =
    broken_unless (not (is_beyond d.declaration)) line 5 (record d {
      declaration = record d.declaration { values = min (d.declaration.values + 1) (2 ^ 64 - 1) };
      constant_line = line;
    })

-- a constant in this line
unfoldable pub with_constant : Operand → ℕ → Declared → Declared
with_constant o line d =
    value_counted line (record d { operands = with_operand o d.operands })

-- a number, which is in its range
abbrev pub with_literal : Literal → ℕ → Declared → Declared
with_literal l line d = with_constant l.operand line (broken_unless l.fits line 5 d)

unfoldable pub number : Bool → Number → ℕ → Declared → Declared
number negative n line d = with_literal (literal_of negative n) line d

-- 1 and 0
abbrev pub number_of : Bool → ℤ
number_of true = pos 1
number_of false = pos 0

unfoldable pub truth : Bool → ℕ → Declared → Declared
truth b line d = with_constant (Value type.Bool (number_of b)) line d

-- the constant that a name names
abbrev pub constant_of : Option Sort → Option Operand
constant_of (Some (sort.Constant t z)) = Some (Value t z)
constant_of (Some (sort.Word k z)) = Some (Value type.Int z)
constant_of _ = None

-- a constant that is there, or a name that is wrong in a line
abbrev pub found_in : Option Operand → ℕ → ℕ → Declared → Declared
found_in (Some o) wrong line d = with_constant o line d
found_in None wrong line d = with_constant no_constant line (lost_unless false wrong d)

-- the name is that of a constant
abbrev pub named : Option Used → Declared → Declared
named None d = d
named (Some u) d = found_in (constant_of (found d.names u.name)) u.line u.line d

unfoldable pub constant : Declared → Declared
constant d = named d.name d

-- the number of an enumeration that a name names
abbrev pub enumeration_of : Option Sort → Option ℕ
enumeration_of (Some (sort.Enumeration k)) = Some k
enumeration_of _ = None

-- the word of the enumeration with a number that a name names
abbrev pub word_in : ℕ → Option Sort → Option Operand
word_in k (Some (sort.Word of z)) = if of == k then Some (Value type.Int z) else None
word_in k _ = None

-- name and word are a word of an enumeration
abbrev pub word_of : Option ℕ → Used → Used → Declared → Declared
word_of None n w d = found_in None n.line n.line d
word_of (Some k) n w d =
    found_in (word_in k (found_globally d.names w.name)) w.line n.line d

abbrev pub worded : Option Used → Option Used → Declared → Declared
worded (Some n) (Some w) d = word_of (enumeration_of (found d.names n.name)) n w d
worded n w d = d

unfoldable pub constant_word : Declared → Declared
constant_word d = worded d.name d.word d

-- the minus of the last operand
unfoldable pub negative : Declared → Declared
negative d = record d { operands = negated d.operands }
