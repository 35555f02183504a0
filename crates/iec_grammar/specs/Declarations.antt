-- The rows of declarations in the table of the grammar. Above each part stands the line of the
-- grammar; `{x}` is x as often as it comes, `[x]` is x or nothing. IEC 61131-3, in this project's
-- profile.
use Rattle.std.specs.Prelude.{ℕ, Option, Some, None, List, [], ◌∷◌}
use Rattle.iec_grammar.specs.Constants.{constant}
use Rattle.iec_grammar.specs.Lines.{Line, takes, passes, refuses}
use Rattle.iec_grammar.specs.declared.item.Item.TheVariants as item
use Rattle.iec_tokens.specs.declared.token.Sign.TheVariants as sign
use Rattle.iec_tokens.specs.declared.token.Token.{Token}
use Rattle.iec_tokens.specs.declared.token.Token.TheVariants.{Name, Word, Sign}
use Rattle.iec_tokens.specs.declared.token.Word.TheVariants as word
use Rattle.iec_tree.specs.Elementary.{elementary_named}
use Rattle.iec_tree.specs.Motion.{motion_named}
use Rattle.iec_tree.specs.Standard.{standard_named}
use Rattle.iec_tree.specs.declared.elementary.Elementary.{Elementary}
use Rattle.iec_tree.specs.declared.motion.Motion.{Motion}
use Rattle.iec_tree.specs.declared.node.Part.TheVariants as part
use Rattle.iec_tree.specs.declared.section.Section.{Section}
use Rattle.iec_tree.specs.declared.section.Section.TheVariants as section
use Rattle.iec_tree.specs.declared.standard.Standard.{Standard}

-- ---- decl = name {, name} : type [:= init] ;

abbrev pub declarations : Section → Token → Line
declarations s (Name n) = takes (Some (part.Declares n))
    (item.Names ∷ item.Type s ∷ item.Initial ∷ item.DeclarationEnd ∷ item.Declarations s ∷ [])
declarations s (Word word.EndVar) = takes (Some part.SectionEnd) []
declarations s _ = refuses

abbrev pub qualified : Section → Token → Line
qualified s (Word word.Constant) = takes (Some (part.Section section.Constants))
    (item.Declarations section.Constants ∷ [])
qualified s t = declarations s t

abbrev pub declared : Token → Line
declared (Name n) = takes (Some (part.Declares n)) []
declared _ = refuses

abbrev pub names : Token → Line
names (Sign sign.Comma) = takes None (item.Declared ∷ item.Names ∷ [])
names (Sign sign.Colon) = takes None []
names _ = refuses

abbrev pub declaration_end : Token → Line
declaration_end (Sign sign.Semicolon) = takes (Some part.DeclarationEnd) []
declaration_end _ = refuses

-- ---- type = simple | ARRAY "[" int .. int "]" OF simple | BLOCK ["(" object ")"] | STANDARD
-- simple = BOOL | INT | DINT | REAL | LREAL | TIME | name

-- a standard block is no constant
abbrev pub standard_in : Section → Standard → Line
standard_in section.Constants b = refuses
standard_in s b = takes (Some (part.Standard b)) []

-- a motion block is no constant, and not global
abbrev pub motion_in : Section → Motion → Line
motion_in section.Constants b = refuses
motion_in section.Globals b = refuses
motion_in s b = takes (Some (part.Motion b)) (item.Object ∷ [])

-- the type that is named so: of several that are, the first
unfoldable pub named : Option Elementary → Option Standard → Option Motion → Section → List ℕ → Line
named (Some e) standard motion s n = takes (Some (part.Elementary e)) []
named None (Some b) motion s n = standard_in s b
named None None (Some b) s n = motion_in s b
named None None None s n = takes (Some (part.Named n)) []

abbrev pub type_named : Section → List ℕ → Line
type_named s n = named (elementary_named n) (standard_named n) (motion_named n) s n

abbrev pub type_of : Section → Token → Line
type_of s (Name n) = type_named s n
type_of s (Word word.Array) = takes (Some part.Array)
    (item.OpenIndex ∷ item.Int ∷ item.UpTo ∷ item.Int ∷ item.CloseIndex ∷ item.ArrayOf ∷
    item.ElementType ∷ [])
type_of s _ = refuses

-- no block is an element
abbrev pub element_type : Token → Line
element_type (Name n) = type_named section.Constants n
element_type _ = refuses

abbrev pub object : Token → Line
object (Sign sign.Open) = takes None (item.ObjectName ∷ item.Close ∷ [])
object _ = passes None

abbrev pub object_name : Token → Line
object_name (Name n) = takes (Some (part.Object n)) []
object_name _ = refuses

-- ---- init = const | "[" const {, const} "]"

abbrev pub initial : Token → Line
initial (Sign sign.Gets) = takes (Some part.Initial) (item.InitialValue ∷ [])
initial _ = passes None

abbrev pub initial_value : Token → Line
initial_value (Sign sign.OpenIndex) = takes (Some part.List) (item.Constant ∷ item.Values ∷ [])
initial_value t = constant [] t

abbrev pub values : Token → Line
values (Sign sign.Comma) = takes None (item.Constant ∷ item.Values ∷ [])
values (Sign sign.CloseIndex) = takes (Some part.ListEnd) []
values _ = refuses
