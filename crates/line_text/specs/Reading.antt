-- What a text means by what its lines mean, and the first line that breaks a rule. This project's
-- profile.
use Rattle.std.specs.Prelude.{◌≡◌, ℕ, ◌+◌, ◌==◌, not, if◌then◌else◌, Result, Ok, Err, List, [], ◌∷◌, length}
use Rattle.line_text.specs.Lines.{last_line_of, lines_of}
use Rattle.line_text.specs.Words.{is_clean, words_of}
use Rattle.line_text.specs.declared.reader.LineFault.{LineFault}
use Rattle.line_text.specs.declared.reader.LineFault.TheVariants as line
use Rattle.line_text.specs.declared.reader.LineRefused.{LineRefused}
use Rattle.line_text.specs.declared.reader.LinesFault.{LinesFault}
use Rattle.line_text.specs.declared.reader.LinesFault.TheVariants as lines

infixl 10 ◌>>=◌
-- what comes of the second step where the first breaks no rule
abbrev pub ◌>>=◌ : {A B E : Type 0} → Result A E → (A → Result B E) → Result B E
(Ok x) >>= next = next x
(Err e) >>= next = Err e

-- each item as it is read, in order
abbrev pub each_of : {A B E : Type 0} → (A → Result B E) → List A → Result (List B) E
each_of read [] = Ok []
each_of read (x ∷ xs) = read x >>= λ y. each_of read xs >>= λ ys. Ok (y ∷ ys)

-- what words mean where a reader stands: where it stands after them, or the rule that they break
abbrev pub Meaning : Type 0 → Type 0
Meaning S = S → List (List ℕ) → Result S ℕ

-- what a line means: one that is not clean breaks rule 1, one without words changes nothing
unfoldable pub line_meaning : {S : Type 0} → Meaning S → S → List ℕ → Result S ℕ
line_meaning meaning s text =
    if not (is_clean text) then Err 1
    else if length (words_of text) == 0 then Ok s else meaning s (words_of text)

-- the rule that is broken in the line of this number
abbrev pub at_line : {S : Type 0} → ℕ → Result S ℕ → Result S LineRefused
at_line number (Ok s) = Ok s
at_line number (Err rule) = Err (record { line = number; rule = rule })

-- what lines mean one after another, this many lines in: the first that breaks a rule is refused
abbrev pub lines_meaning : {S : Type 0} → Meaning S → ℕ → S → List (List ℕ) → Result S LineRefused
lines_meaning meaning before s [] = Ok s
lines_meaning meaning before s (text ∷ more) =
    at_line (before + 1) (line_meaning meaning s text) >>= λ t.
    lines_meaning meaning (before + 1) t more

-- what a text means to a reader that stands so
unfoldable pub text_meaning : {S : Type 0} → Meaning S → S → List ℕ → Result S LineRefused
text_meaning meaning s text = lines_meaning meaning 0 s (lines_of text)

-- what a text is read as: what its lines mean, and then its end where they lead to, which may break
-- a rule in the last line
unfoldable pub reading_of : {S T : Type 0} → Meaning S → (S → Result T ℕ) → S → List ℕ →
    Result T LineRefused
reading_of meaning ending s text =
    text_meaning meaning s text >>= λ t. at_line (last_line_of text) (ending t)

-- what a function answered, seen by a view, is what words mean; or memory ran out
abbrev pub Gives : {X Y : Type 0} → (X → Y) → Result Y ℕ → Result X LineFault → Type 0
Gives view meaning (Ok x) = meaning ≡ Ok (view x)
Gives view meaning (Err (line.Rule number)) = meaning ≡ Err number
Gives view meaning (Err line.OutOfMemory) = Unit {0}

-- words are taken: by what they mean the reader stands now there, or the rule is reported; or
-- memory ran out
abbrev pub Takes : {S : Type 0} → Result S ℕ → S → Result (Unit {0}) LineFault → Type 0
Takes meaning new (Ok u) = meaning ≡ Ok new
Takes meaning new (Err (line.Rule number)) = meaning ≡ Err number
Takes meaning new (Err line.OutOfMemory) = Unit {0}

-- the lines of a text are taken: by what it means the reader stands now there, and the number of
-- the last line is reported; or the place is reported; or memory ran out
abbrev pub TakesText : {S : Type 0} → Result S LineRefused → ℕ → S → Result ℕ LinesFault → Type 0
TakesText meaning last new (Ok told) = (meaning ≡ Ok new) × (told ≡ last)
TakesText meaning last new (Err (lines.Refused place)) = meaning ≡ Err place
TakesText meaning last new (Err lines.OutOfMemory) = Unit {0}
