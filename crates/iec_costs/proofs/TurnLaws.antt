-- The body of a FOR runs for the values that are not past the last.
-- for: turns_reach_the_last
use Rattle.std.proofs.Common.{◌≡◌, ℕ, suc, zero, ◌+◌, ◌*◌, ◌/◌, ◌<◌, ◌≤◌, true, false, inl, inr, arith, refl}
use Rattle.std.specs.Prelude.{◌↔◌, ℤ, pos, negsuc, ◌+ℤ◌, ◌-ℤ◌, ◌≤ℤ◌, int_le, int_lt, unsigned_abs}
use Rattle.std.proofs.lemmas.Bool.{cases_Bool}
use Rattle.std.proofs.lemmas.Int.{ints}
use Rattle.std.proofs.Math.Nat.{le-div_iff_mul-le}
use Rattle.iec_costs.specs.Turns.{turns_of, ReachTheLast}

-- so many steps reach no farther than a distance exactly where its quotient is as many
steps_within : (n d k : ℕ) → 0 < k → (n < d / k + 1) ↔ (n * k ≤ d)
steps_within n d k h =
    let law : (n ≤ d / k) ↔ (n * k ≤ d) = le-div_iff_mul-le h in
    (λ l. law.0 (omega arith), λ l. let r : n ≤ d / k = law.1 l in omega arith)

-- a step up is none down
is_up : (k : ℕ) → int_lt (pos 0) (pos (suc k)) ≡ true
is_up k = elim (cases_Bool (int_lt (pos 0) (pos (suc k)))) [ inl is ↦ is | inr isnt ↦ absurd (omega (arith, ints)) ]

is_not_down : (k : ℕ) → int_lt (pos (suc k)) (pos 0) ≡ false
is_not_down k = elim (cases_Bool (int_lt (pos (suc k)) (pos 0))) [ inl is ↦ absurd (omega (arith, ints)) | inr isnt ↦ isnt ]

-- up by a step
up : (first last : ℤ) (k n : ℕ) →
    (n < turns_of (record { first = first; last = last; by = pos (suc k) })) ↔ ((first +ℤ pos (n * suc k)) ≤ℤ last)
unfolding turns_of
up first last k n =
    let law : (n < unsigned_abs (last -ℤ first) / suc k + 1) ↔ (n * suc k ≤ unsigned_abs (last -ℤ first)) = steps_within n (unsigned_abs (last -ℤ first)) (suc k) (omega arith) in
    elim (cases_Bool (int_le first last)) [
      | inl within ↦ rw (is_up k, within) (λ l. let r : n * suc k ≤ unsigned_abs (last -ℤ first) = law.0 l in omega (arith, ints), λ l. law.1 (omega (arith, ints)))
      | inr past ↦ rw (is_up k, past, is_not_down k) (λ l. absurd (omega arith), λ l. absurd (omega (arith, ints)))
    ]

-- down by a step
down : (first last : ℤ) (k n : ℕ) →
    (n < turns_of (record { first = first; last = last; by = negsuc k })) ↔ (last ≤ℤ (first -ℤ pos (n * suc k)))
unfolding turns_of
down first last k n =
    let law : (n < unsigned_abs (last -ℤ first) / suc k + 1) ↔ (n * suc k ≤ unsigned_abs (last -ℤ first)) = steps_within n (unsigned_abs (last -ℤ first)) (suc k) (omega arith) in
    elim (cases_Bool (int_le last first)) [
      | inl within ↦ rw within (λ l. let r : n * suc k ≤ unsigned_abs (last -ℤ first) = law.0 l in omega (arith, ints), λ l. law.1 (omega (arith, ints)))
      | inr past ↦ rw past (λ l. absurd (omega arith), λ l. absurd (omega (arith, ints)))
    ]

pub reach : (first last by : ℤ) → ReachTheLast (record { first = first; last = last; by = by })
unfolding turns_of
reach first last (pos zero) = record {
  up = λ h. absurd (omega (arith, ints));
  down = λ h. absurd (omega (arith, ints));
  none = λ h. refl;
}
reach first last (pos (suc k)) = record {
  up = λ h n. up first last k n;
  down = λ h. absurd (omega (arith, ints));
  none = λ h. absurd (cc);
}
reach first last (negsuc k) = record {
  up = λ h. absurd (omega (arith, ints));
  down = λ h n. down first last k n;
  none = λ h. absurd (cc);
}
