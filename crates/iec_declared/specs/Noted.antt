-- What each part of the tree does that declares something or is a constant. This project's profile.
use Rattle.std.specs.Prelude.{ℕ, if◌then◌else◌, List, [], ◌∷◌}
use Rattle.iec_declared.specs.Constants as constants
use Rattle.iec_declared.specs.Declarations as declarations
use Rattle.iec_declared.specs.Stand.{Declared, with_used, with_word}
use Rattle.iec_declared.specs.Enumerations as enumerations
use Rattle.iec_declared.specs.Types as types
use Rattle.iec_declared.specs.declared.known.Expected.{Expected}
use Rattle.iec_declared.specs.declared.known.Expected.TheVariants as expected
use Rattle.iec_declared.specs.declared.known.Shape.TheVariants as shape
use Rattle.iec_declared.specs.declared.known.Used.{Used}
use Rattle.iec_tree.specs.declared.node.Part.{Part}
use Rattle.iec_tree.specs.declared.node.Part.TheVariants as part

-- a name by what is expected
abbrev pub named : Expected → Used → Declared → Declared
named expected.Enumeration u d = enumerations.enumeration_named u d
named expected.Word u d = record (with_used u d) { expected = expected.Known }
named expected.Program u d = declarations.program_named u d
named expected.Known u d = with_used u d

-- a word by what is expected
abbrev pub worded : Expected → Used → Declared → Declared
worded expected.Word u d = enumerations.enumeration_word u d
worded _ u d = with_word u d

-- a name in a line
abbrev pub at : List ℕ → ℕ → Used
at name line = record { name = name; line = line }

-- what a part in this line does
abbrev pub noted_so : Part → ℕ → Declared → Declared
noted_so (part.Name n) line d = named d.expected (at n line) d
noted_so (part.Word n) line d = worded d.expected (at n line) d
noted_so (part.Number negative n) line d = constants.number negative n line d
noted_so (part.Truth b) line d = constants.truth b line d
noted_so part.Constant line d = constants.constant d
noted_so part.ConstantWord line d = constants.constant_word d
noted_so part.Negative line d = constants.negative d
noted_so part.Enumeration line d = enumerations.enumeration line d
noted_so part.Numbered line d = enumerations.numbered d
noted_so part.EnumerationEnd line d = enumerations.enumeration_end d
noted_so (part.Section s) line d = declarations.in_section s d
noted_so part.Program line d = declarations.program d
noted_so (part.Declares n) line d = declarations.declares (at n line) d
noted_so part.Array line d = types.array d
noted_so (part.Elementary t) line d = types.shaped (shape.Variable t) d
noted_so (part.Standard b) line d = types.shaped (shape.Standard b) d
noted_so (part.Motion m) line d = types.shaped (shape.Motion m) d
noted_so (part.Named n) line d = types.named n line d
noted_so (part.Object n) line d = types.acts_on n line d
noted_so part.Initial line d = declarations.initial d
noted_so part.List line d = declarations.list d
noted_so part.ListEnd line d = declarations.list_end d
noted_so part.DeclarationEnd line d = declarations.declaration_end d
noted_so _ line d = d

-- what it does where reading hasn't stopped
unfoldable pub noted : Part → ℕ → Declared → Declared
noted p line d = if d.stopped then d else noted_so p line d
