-- The reserved words. IEC 61131-3, as far as this project reads it.
use Rattle.std.specs.Prelude.{ℕ, codes, Option, List}
use Rattle.std.specs.List.{find}
use Rattle.std.specs.Str.{str_eq_ignore_ascii_case}
use Rattle.iec_tokens.specs.declared.token.Word.{Word}
use Rattle.iec_tokens.specs.declared.token.Word.TheVariants as word
use Rattle.iec_tokens.specs.declared.word.TheConstants.{WORDS}

-- how each is written in capitals
unfoldable pub word_text : Word → List ℕ
word_text word.Type = codes "TYPE"
word_text word.EndType = codes "END_TYPE"
word_text word.VarGlobal = codes "VAR_GLOBAL"
word_text word.Constant = codes "CONSTANT"
word_text word.EndVar = codes "END_VAR"
word_text word.Program = codes "PROGRAM"
word_text word.EndProgram = codes "END_PROGRAM"
word_text word.Var = codes "VAR"
word_text word.VarInput = codes "VAR_INPUT"
word_text word.Array = codes "ARRAY"
word_text word.Of = codes "OF"
word_text word.True = codes "TRUE"
word_text word.False = codes "FALSE"
word_text word.If = codes "IF"
word_text word.Then = codes "THEN"
word_text word.Elsif = codes "ELSIF"
word_text word.Else = codes "ELSE"
word_text word.EndIf = codes "END_IF"
word_text word.Case = codes "CASE"
word_text word.EndCase = codes "END_CASE"
word_text word.For = codes "FOR"
word_text word.To = codes "TO"
word_text word.By = codes "BY"
word_text word.Do = codes "DO"
word_text word.EndFor = codes "END_FOR"
word_text word.Exit = codes "EXIT"
word_text word.Return = codes "RETURN"
word_text word.Or = codes "OR"
word_text word.Xor = codes "XOR"
word_text word.And = codes "AND"
word_text word.Mod = codes "MOD"
word_text word.Not = codes "NOT"

-- the one that is written so, in any case of letters
unfoldable pub word_named : List ℕ → Option Word
word_named text = find (λ w. str_eq_ignore_ascii_case (word_text w) text) WORDS
