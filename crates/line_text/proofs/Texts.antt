-- Words and where they lie in memory.
-- for: crates above
use Rattle.std.proofs.Common.{◌≡◌, ℕ, Bool, true, List, [], ◌∷◌, Bor, refl, ap}
use Rattle.std.specs.Prelude.{◌&&◌}
use Rattle.std.specs.List.{list_all}
use Rattle.std.specs.Str.{bytes_eq}
use Rattle.std.proofs.lemmas.Slice.Eq.{bytes_eq-Decides}
use Rattle.line_text.specs.Texts.{texts}

-- what stands for a word that is not there
abbrev pub nowhere : Bor (List ℕ)
nowhere = record { ref_ptr = (0, 0); now = [] }

-- a test of all words
pub list_all-texts : (p : List ℕ → Bool) (words : List (Bor (List ℕ))) → list_all (λ w. p w.now) words ≡ list_all p (texts words)
list_all-texts p [] = refl
list_all-texts p (w ∷ words) = ap (λ b. p w.now && b) (list_all-texts p words)

-- a text is the same as itself
pub bytes-same : (xs : List ℕ) → bytes_eq xs xs ≡ true
bytes-same xs = (bytes_eq-Decides xs xs).1 refl
