-- The reserved words. IEC 61131-3, in this project's profile.
use Rattle.std.specs.Prelude.{ℕ, codes, Option, List}
use Rattle.std.specs.List.{find}
use Rattle.std.specs.Str.{bytes_eq}
use Rattle.st_tokens.specs.declared.token.Word.{Word}
use Rattle.st_tokens.specs.declared.token.Word.TheVariants as word
use Rattle.st_tokens.specs.declared.word.TheConstants.{WORDS}

-- how each is written
unfoldable pub word_text : Word → List ℕ
word_text word.Program = codes "PROGRAM"
word_text word.Var = codes "VAR"
word_text word.EndVar = codes "END_VAR"
word_text word.EndProgram = codes "END_PROGRAM"
word_text word.Bool = codes "BOOL"
word_text word.Dint = codes "DINT"
word_text word.True = codes "TRUE"
word_text word.False = codes "FALSE"
word_text word.If = codes "IF"
word_text word.Then = codes "THEN"
word_text word.Else = codes "ELSE"
word_text word.EndIf = codes "END_IF"
word_text word.Case = codes "CASE"
word_text word.Of = codes "OF"
word_text word.EndCase = codes "END_CASE"
word_text word.Or = codes "OR"
word_text word.And = codes "AND"
word_text word.Not = codes "NOT"

-- the one that is written so
unfoldable pub word_named : List ℕ → Option Word
word_named text = find (λ w. bytes_eq (word_text w) text) WORDS
