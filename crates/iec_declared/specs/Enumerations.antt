-- What the parts of enumerations do. IEC 61131-3 section 6.4.4.2, in this project's profile.
use Rattle.std.specs.Prelude.{ℕ, ◌+◌, ◌-◌, ◌^◌, min, ℤ, pos, ◌+ℤ◌, int_le, int_lt, Bool, true, if◌then◌else◌, Option, Some, None}
use Rattle.iec_declared.specs.Stand.{Declared, begun, broken_unless, ended, lost_unless}
use Rattle.iec_declared.specs.declared.known.Enumeration.{Enumeration}
use Rattle.iec_declared.specs.declared.known.Expected.TheVariants as expected
use Rattle.iec_declared.specs.declared.known.Used.{Used}
use Rattle.iec_names.specs.Scopes.{is_free_globally, with_global}
use Rattle.iec_names.specs.declared.sort.Sort.TheVariants as sort
use Rattle.iec_operands.specs.Expressions.{given}
use Rattle.iec_operands.specs.Operands.{last_of, type_of, value_of}
use Rattle.iec_operands.specs.declared.operand.Operand.{Operand}
use Rattle.iec_values.specs.Types.{widens}
use Rattle.iec_tree.specs.declared.elementary.Elementary.TheVariants as type
use Rattle.iec_values.specs.Changes.{change_value}
use Rattle.iec_values.specs.declared.changes.Change.TheVariants.{ToInt}

-- TYPE: its name follows
unfoldable pub enumeration : ℕ → Declared → Declared
enumeration line d = record (begun line d) { expected = expected.Enumeration }

-- an enumeration of this name, which is a new one
unfoldable pub enumeration_named : Used → Declared → Declared
enumeration_named u d = lost_unless (is_free_globally d.names u.name) u.line (record d {
  names = with_global u.name (sort.Enumeration d.counts.enumerations) d.names;
  counts = record d.counts { enumerations = min (d.counts.enumerations + 1) (2 ^ 32 - 1) };
  enumeration = record { word = None; number = None; next = pos 0 };
  expected = expected.Word;
})

-- the number that stands with a word, else the next; a word without one may be beyond an INT
abbrev pub number_by : Option ℤ → ℤ → ℤ
number_by (Some z) next = z
number_by None next = if int_le next (pos 32767) then next else pos 0

-- there is a number for it
abbrev pub has_number : Option ℤ → ℤ → Bool
has_number (Some z) next = true
has_number None next = int_le next (pos 32767)

-- the number after one, of which 32768 is the last
unfoldable pub following : ℤ → ℤ
following z = if int_lt z (pos 32767) then z +ℤ pos 1 else pos 32768

-- a word of the enumeration, and its number
abbrev pub with_word : Used → Enumeration → Declared → Declared
with_word u e d = broken_unless (has_number e.number e.next) u.line 5 (record d {
  names = with_global u.name
      (sort.Word (d.counts.enumerations - 1) (number_by e.number e.next)) d.names;
  enumeration =
      record { word = None; number = None; next = following (number_by e.number e.next) };
})

-- the word that is under way ends, where there is one
abbrev pub settled_by : Option Used → Declared → Declared
settled_by None d = d
settled_by (Some u) d = with_word u d.enumeration d

unfoldable pub settled : Declared → Declared
settled d = settled_by d.enumeration.word d

-- a word, which is a new one
abbrev pub begins_word : Used → Declared → Declared
begins_word u d = lost_unless (is_free_globally d.names u.name) u.line (record d {
  enumeration = record d.enumeration { word = Some u; number = None };
})

unfoldable pub enumeration_word : Used → Declared → Declared
enumeration_word u d = begins_word u (settled d)

-- the number of a word is an INT
abbrev pub number_in : Operand → ℤ
number_in o = if widens (type_of o) type.Int then change_value ToInt (value_of o) else pos 0

unfoldable pub numbered : Declared → Declared
numbered d = record d {
  operands = given type.Int d.operands;
  enumeration = record d.enumeration { number = Some (number_in (last_of d.operands.held)) };
  expected = expected.Word;
}

-- END_TYPE
unfoldable pub enumeration_end : Declared → Declared
enumeration_end d = ended (record (settled d) { expected = expected.Known })
