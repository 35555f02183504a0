-- What a search for the greatest number that passes a test finds.
-- for: greatest_ramp, greatest_ramp_below, searches_find_the_greatest and others
use Rattle.std.proofs.Common.{◌≡◌, ℕ, zero, suc, ◌≤◌, Bool, true, false, Option, Some, None, arith, refl, ◌∙◌, ap, sym, inl, inr, if◌then◌else◌}
use Rattle.std.proofs.lemmas.Bool.{cases_lt, cond-true, cond-false}
use Rattle.motion_numbers.specs.Greatest.{greatest, IsFound}
use Rattle.motion_numbers.specs.Greatest.IsFound.{found_at, found_none}

-- a number that is at most n + 1 and passes is at most n, where n + 1 fails
not-last : (n m : ℕ) (test : ℕ → Bool) → test (suc n) ≡ false → m ≤ suc n → test m ≡ true → m ≤ n
not-last n m test fails within passes =
    elim (cases_lt m (suc n)) [
      | inl less ↦ omega arith
      | inr top ↦ absurd (let here : m ≡ suc n = omega arith in let same : test (suc n) ≡ true = ap test (sym here) ∙ passes in cc)
    ]

-- where n + 1 fails, what is found up to n is found
found-below : (n : ℕ) (test : ℕ → Bool) (found : Option ℕ) → test (suc n) ≡ false → IsFound n test found →
    IsFound (suc n) test (if test (suc n) then Some (suc n) else found)
found-below n test found fails (found_at g is passes most) =
    found_at g (cond-false _ _ _ fails ∙ is) passes (λ m within p. most m (not-last n m test fails within p) p)
found-below n test found fails (found_none is none_passes) =
    found_none (cond-false _ _ _ fails ∙ is) (λ m within p. none_passes m (not-last n m test fails within p) p)

found-at : (n : ℕ) (test : ℕ → Bool) (found : Option ℕ) (b : Bool) → test (suc n) ≡ b → IsFound n test found →
    IsFound (suc n) test (if test (suc n) then Some (suc n) else found)
found-at n test found true holds below = found_at (suc n) (cond-true _ _ _ holds) holds (λ m within passes. within)
found-at n test found false fails below = found-below n test found fails below

found-first : (test : ℕ → Bool) (b : Bool) → test zero ≡ b → IsFound zero test (if test zero then Some zero else None)
found-first test true holds = found_at zero (cond-true _ _ _ holds) holds (λ m within passes. within)
found-first test false fails = found_none (cond-false _ _ _ fails) (λ m within passes.
    let here : m ≡ zero = omega arith in
    let same : test zero ≡ true = ap test (sym here) ∙ passes in
    cc)

pub search-finds : (n : ℕ) (test : ℕ → Bool) → IsFound n test (greatest n test)
unfolding greatest
search-finds zero test = found-first test (test zero) refl
search-finds (suc n) test = found-at n test (greatest n test) (test (suc n)) refl (search-finds n test)
