-- What the parts of types do. IEC 61131-3 section 6.4, in this project's profile.
use Rattle.std.specs.Prelude.{ℕ, ℤ, ◌-ℤ◌, pos, int_le, Bool, true, false, not, ◌&&◌, ◌||◌, if◌then◌else◌, is_some, Option, Some, None, List}
use Rattle.iec_declared.specs.Constants.{enumeration_of}
use Rattle.iec_declared.specs.Stand.{Declared, broken_unless, lost_unless, stopped_unless}
use Rattle.iec_declared.specs.declared.known.Range.{Range}
use Rattle.iec_declared.specs.declared.known.Shape.{Shape}
use Rattle.iec_declared.specs.declared.known.Shape.TheVariants as shape
use Rattle.iec_interface.specs.Objects.{object_of}
use Rattle.iec_interface.specs.declared.object.Object.{Object}
use Rattle.iec_interface.specs.declared.object.Object.TheVariants as object
use Rattle.iec_names.specs.Scopes.{found, found_globally}
use Rattle.iec_names.specs.declared.sort.Sort.{Sort}
use Rattle.iec_names.specs.declared.sort.Sort.TheVariants as sort
use Rattle.iec_operands.specs.Expressions.{mistyped_unless, taken}
use Rattle.iec_operands.specs.Operands.{last_of, type_of, value_of}
use Rattle.iec_operands.specs.declared.operand.Operand.{Operand}
use Rattle.iec_tree.specs.declared.elementary.Elementary.TheVariants as type
use Rattle.iec_values.specs.Types.{widens}

-- ARRAY: its bounds follow
unfoldable pub array : Declared → Declared
array d = record d {
  declaration = record d.declaration { array = Some (record { first = pos 0; last = pos 0 }) };
}

-- an operand is an INT or a DINT
abbrev pub is_whole : Operand → Bool
is_whole o = widens (type_of o) type.Dint

-- bounds do not fall, and have at most 1,000 elements
unfoldable pub is_range : ℤ → ℤ → Bool
is_range first last = int_le first last && int_le (last -ℤ first) (pos 999)

-- both operands are whole numbers
abbrev pub are_whole : Operand → Operand → Bool
are_whole first last = is_whole first && is_whole last

-- they may be bounds, if they are whole numbers
abbrev pub may_bound : Operand → Operand → Bool
may_bound first last =
    is_range (value_of first) (value_of last) || not (are_whole first last)

-- the index goes from one operand to another; where it can't, there is one element
abbrev pub range_of : Operand → Operand → Range
range_of first last = record {
  first = value_of first;
  last =
      if is_range (value_of first) (value_of last) then value_of last else value_of first;
}

-- the bounds of the index: both are whole numbers, and then they are a range
abbrev pub bounded : Operand → Operand → Declared → Declared
bounded first last d =
    broken_unless (may_bound first last) d.constant_line 5 (record d {
      operands = mistyped_unless (are_whole first last) d.operands;
      declaration = record d.declaration { array = Some (range_of first last) };
    })

-- the bounds in front, where an array is declared
abbrev pub bounds_of : Option Range → Declared → Declared
bounds_of None d = d
bounds_of (Some r) d =
    bounded (last_of (taken d.operands).held) (last_of d.operands.held)
    (record d { operands = taken (taken d.operands) })

-- what is declared, or what the elements are
unfoldable pub shaped : Shape → Declared → Declared
shaped s d =
    bounds_of d.declaration.array (record d { declaration = record d.declaration { shape = s } })

-- a type of the text, which is an enumeration: else the word is none that may stand here
abbrev pub named_by : Option ℕ → ℕ → Declared → Declared
named_by None line d = stopped_unless false line 2 d
named_by (Some k) line d = shaped (shape.Variable type.Int) d

unfoldable pub named : List ℕ → ℕ → Declared → Declared
named name line d = named_by (enumeration_of (found d.names name)) line d

-- the number of what a motion block acts on, where a name names that
abbrev pub number_of : Object → Option Sort → Option ℕ
number_of object.Axis (Some (sort.Axis k)) = Some k
number_of object.Group (Some (sort.Group k)) = Some k
number_of o s = None

-- what the block that is declared acts on
abbrev pub object_by : Shape → Option Sort → Option ℕ
object_by (shape.Motion m) s = number_of (object_of m) s
object_by (shape.Variable t) s = None
object_by (shape.Standard b) s = None

-- the axis or group of a motion block: it is there, and fits its kind
abbrev pub acting_on : Option ℕ → ℕ → Declared → Declared
acting_on o line d =
    lost_unless (is_some o) line
    (record d { declaration = record d.declaration { has_object = true; object = o } })

unfoldable pub acts_on : List ℕ → ℕ → Declared → Declared
acts_on name line d =
    acting_on (object_by d.declaration.shape (found_globally d.names name)) line d
