-- What lines lead a reader to, one after another. Apart from where a text is refused. This
-- project's profile.
use Rattle.std.specs.Prelude.{◌≡◌, ℕ, List, [], ◌∷◌, Ok, IsTrue}
use Rattle.line_text.specs.Reading.{Meaning}
use Rattle.line_text.specs.Spelling.{SpellsWords}
use Rattle.line_text.specs.Words.{is_clean}

-- words lead a reader on as they mean; where there are none it stays
abbrev pub WordsLead : {S : Type 0} → Meaning S → S → List (List ℕ) → S → Type 0
WordsLead meaning s [] t = t ≡ s
WordsLead meaning s (first ∷ words) t = meaning s (first ∷ words) ≡ Ok t

-- a line is clean, and spells words that lead the reader on
pub record LineLeads {S : Type 0} (meaning : Meaning S) (s : S) (line : List ℕ) (t : S) :
    Type 0 where
  pub words : List (List ℕ)
  pub clean : IsTrue (is_clean line)
  pub spelled : SpellsWords line words
  pub leads : WordsLead meaning s words t

-- lines lead a reader on, one after another
abbrev pub LinesLead : {S : Type 0} → Meaning S → S → List (List ℕ) → S → Type 0
LinesLead meaning s [] t = t ≡ s
LinesLead {S} meaning s (line ∷ lines) t =
    (u : S) × LineLeads meaning s line u × LinesLead meaning u lines t
