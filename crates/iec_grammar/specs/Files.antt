-- The rows of files in the table of the grammar. Above each part stands the line of the grammar;
-- `{x}` is x as often as it comes, `[x]` is x or nothing. IEC 61131-3, in this project's profile.
use Rattle.std.specs.Prelude.{false, Some, None, [], ◌∷◌}
use Rattle.iec_grammar.specs.Lines.{Line, takes, passes, refuses}
use Rattle.iec_grammar.specs.declared.item.Item.TheVariants as item
use Rattle.iec_tokens.specs.declared.token.Sign.TheVariants as sign
use Rattle.iec_tokens.specs.declared.token.Token.{Token}
use Rattle.iec_tokens.specs.declared.token.Token.TheVariants.{Name, Word, Sign}
use Rattle.iec_tokens.specs.declared.token.Word.TheVariants as word
use Rattle.iec_tree.specs.declared.node.Part.TheVariants as part
use Rattle.iec_tree.specs.declared.section.Section.TheVariants as section

-- ---- file = {enum | VAR_GLOBAL [CONSTANT] {decl} END_VAR} program {program}
-- program = PROGRAM name {section} {stmt} END_PROGRAM

abbrev pub file : Token → Line
file (Word word.Type) = takes (Some part.Enumeration)
    (item.Name ∷ item.Colon ∷ item.Open ∷ item.EnumerationWord ∷ item.EnumerationWords ∷
    item.Semicolon ∷ item.EndType ∷ item.File ∷ [])
file (Word word.VarGlobal) = takes (Some (part.Section section.Globals))
    (item.Qualified section.Globals ∷ item.File ∷ [])
file (Word word.Program) = takes (Some part.Program)
    (item.Name ∷ item.Sections ∷ item.Statements false ∷ item.EndProgram ∷ item.Programs ∷ [])
file _ = refuses

abbrev pub programs : Token → Line
programs (Word word.Program) = takes (Some part.Program)
    (item.Name ∷ item.Sections ∷ item.Statements false ∷ item.EndProgram ∷ item.Programs ∷ [])
programs _ = passes None

abbrev pub end_program : Token → Line
end_program (Word word.EndProgram) = takes (Some part.ProgramEnd) []
end_program _ = refuses

-- ---- section = VAR [CONSTANT] {decl} END_VAR | VAR_INPUT {decl} END_VAR

abbrev pub sections : Token → Line
sections (Word word.Var) = takes (Some (part.Section section.Locals))
    (item.Qualified section.Locals ∷ item.Sections ∷ [])
sections (Word word.VarInput) = takes (Some (part.Section section.Inputs))
    (item.Declarations section.Inputs ∷ item.Sections ∷ [])
sections _ = passes (Some part.Statements)

-- ---- enum = TYPE name : ( name [:= int] {, name [:= int]} ) ; END_TYPE

abbrev pub enumeration_word : Token → Line
enumeration_word (Name n) = takes (Some (part.Word n)) (item.EnumerationNumber ∷ [])
enumeration_word _ = refuses

abbrev pub enumeration_number : Token → Line
enumeration_number (Sign sign.Gets) = takes None (item.Int ∷ item.Numbered ∷ [])
enumeration_number _ = passes None

abbrev pub enumeration_words : Token → Line
enumeration_words (Sign sign.Comma) = takes None (item.EnumerationWord ∷ item.EnumerationWords ∷ [])
enumeration_words (Sign sign.Close) = takes None []
enumeration_words _ = refuses

abbrev pub end_type : Token → Line
end_type (Word word.EndType) = takes (Some part.EnumerationEnd) []
end_type _ = refuses
