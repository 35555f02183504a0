-- Whether a colon stands in a text.
-- for: read_config
use Rattle.std.proofs.Common.{◌≡◌, ℕ, ◌<◌, Bool, true, false, List, [], ◌∷◌, length, refl, arith, inl, inr}
use Rattle.std.specs.List.{list_any, position_or_len}
use Rattle.std.proofs.lemmas.Bool.{cases_Bool}

-- where none passes, no place is below the length
pub none_passes : (p : ℕ → Bool) (bs : List ℕ) → position_or_len p bs ≡ length bs → list_any p bs ≡ false
none_passes p [] e = refl
none_passes p (b ∷ bs) e =
    elim (cases_Bool (p b)) [
      | inl one ↦ let f = rw one at e in absurd (omega (arith, f))
      | inr not ↦ let f = rw not at e in rw not (none_passes p bs (omega (arith, f)))
    ]

-- where a place is below the length, one passes
pub one_passes : (p : ℕ → Bool) (bs : List ℕ) → position_or_len p bs < length bs → list_any p bs ≡ true
one_passes p [] l = absurd (omega arith)
one_passes p (b ∷ bs) l =
    elim (cases_Bool (p b)) [
      | inl one ↦ rw one refl
      | inr not ↦ let f = rw not at l in rw not (one_passes p bs (omega (arith, f)))
    ]
