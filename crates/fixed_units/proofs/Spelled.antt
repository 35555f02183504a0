-- A number is read exactly where it is spelled.
-- for: reads_what_is_spelled, reads_what_is_written, tells_the_first_fault
use Rattle.std.proofs.Common.{◌≡◌, ◌↔◌, ◌<◌, Result, ℕ, ◌≤◌, ◌^◌, Bool, true, false, not, List, if◌then◌else◌, nat_lt, Ok, Err, ℤ, unsigned_abs, refl, sym, ap, ◌∙◌}
use Rattle.std.proofs.lemmas.Bool.{le-ltb, lt-ltb, ltb-true, ltb-false}
use Rattle.fixed_units.specs.declared.reading.UnitFault.{UnitFault}
use Rattle.fixed_units.specs.declared.reading.UnitFault.TheVariants.{NotNumber, TooFine, TooLarge}
use Rattle.fixed_units.specs.Numbers.{is_negative, without_minus, is_number, places_of, size_of, with_sign, size_reading, reading_with_sign, reading_of, Spells}
use Rattle.fixed_units.proofs.Shortest.{unsigned_abs-with_sign}

-- what is spelled and in range is read
pub reading_of-spelled : (text : List ℕ) (units : ℤ) → Spells text units → unsigned_abs units ≤ 10 ^ 18 → reading_of text ≡ Ok units
unfolding reading_of size_reading
reading_of-spelled text units spells small =
    let number = without_minus text in
    let size : size_of number ≡ unsigned_abs units =
    sym (unsigned_abs-with_sign (is_negative text) (size_of number)) ∙ ap unsigned_abs spells.value in
    let fits : size_of number ≤ 10 ^ 18 = rw size small in
    rw (spells.number, le-ltb 9 (places_of number) spells.places, le-ltb (10 ^ 18) (size_of number) fits) (ap Ok spells.value)

-- the four ways to be read, by the three tests
Passes : Bool → Bool → Bool → Type 0
Passes is fine large = (is ≡ true) × (fine ≡ false) × (large ≡ false)

passes : (is fine large : Bool) (negative : Bool) (size : ℕ) (units : ℤ)
    → reading_with_sign negative (if not is then Err NotNumber else (if fine then Err TooFine else (if large then Err TooLarge else Ok size))) ≡ Ok units
    → Passes is fine large × (with_sign negative size ≡ units)
unfolding Passes
passes true false false negative size units e = ((refl, refl, refl), cc)
passes true false true negative size units e = cc
passes true true large negative size units e = cc
passes false fine large negative size units e = cc

-- what is read is spelled, and in range
pub spelled-reading_of : (text : List ℕ) (units : ℤ) → reading_of text ≡ Ok units → Spells text units × (unsigned_abs units ≤ 10 ^ 18)
unfolding reading_of size_reading Passes
spelled-reading_of text units e =
    let number = without_minus text in
    let ((is, fine, large), value) = passes (is_number number) (nat_lt 9 (places_of number)) (nat_lt (10 ^ 18) (size_of number))
    (is_negative text) (size_of number) units e in
    let size : size_of number ≡ unsigned_abs units =
    sym (unsigned_abs-with_sign (is_negative text) (size_of number)) ∙ ap unsigned_abs value in
    (record { number = is; places = ltb-false _ _ fine; value = value }, rw (← size) (ltb-false _ _ large))

-- the reading of a number by the three tests
by_tests : Bool → Bool → Bool → Bool → ℕ → Result ℤ UnitFault
by_tests is fine large negative size =
    reading_with_sign negative (if not is then Err NotNumber else (if fine then Err TooFine else (if large then Err TooLarge else Ok size)))

by_tests-not_number : (is fine large negative : Bool) (size : ℕ) → (by_tests is fine large negative size ≡ Err NotNumber) ↔ (is ≡ false)
unfolding by_tests
by_tests-not_number false fine large negative size = (λ e. refl, λ e. refl)
by_tests-not_number true true large negative size = (λ e. cc, λ e. cc)
by_tests-not_number true false true negative size = (λ e. cc, λ e. cc)
by_tests-not_number true false false negative size = (λ e. cc, λ e. cc)

by_tests-too_fine : (is fine large negative : Bool) (size : ℕ) → (by_tests is fine large negative size ≡ Err TooFine) ↔ ((is ≡ true) × (fine ≡ true))
unfolding by_tests
by_tests-too_fine false fine large negative size = (λ e. cc, λ e. cc)
by_tests-too_fine true true large negative size = (λ e. (refl, refl), λ e. refl)
by_tests-too_fine true false true negative size = (λ e. cc, λ e. cc)
by_tests-too_fine true false false negative size = (λ e. cc, λ e. cc)

by_tests-too_large : (is fine large negative : Bool) (size : ℕ)
    → (by_tests is fine large negative size ≡ Err TooLarge) ↔ ((is ≡ true) × (fine ≡ false) × (large ≡ true))
unfolding by_tests
by_tests-too_large false fine large negative size = (λ e. cc, λ e. cc)
by_tests-too_large true true large negative size = (λ e. cc, λ e. cc)
by_tests-too_large true false true negative size = (λ e. (refl, refl, refl), λ e. refl)
by_tests-too_large true false false negative size = (λ e. cc, λ e. cc)

-- not a number, exactly where the test fails
pub reading_of-not_number : (text : List ℕ) → (reading_of text ≡ Err NotNumber) ↔ (is_number (without_minus text) ≡ false)
unfolding reading_of size_reading by_tests
reading_of-not_number text =
    let n = without_minus text in
    by_tests-not_number (is_number n) (nat_lt 9 (places_of n)) (nat_lt (10 ^ 18) (size_of n)) (is_negative text) (size_of n)

-- too fine, exactly where a number has more than nine places
pub reading_of-too_fine : (text : List ℕ) → (reading_of text ≡ Err TooFine)
    ↔ ((is_number (without_minus text) ≡ true) × (9 < places_of (without_minus text)))
unfolding reading_of size_reading by_tests
reading_of-too_fine text =
    let n = without_minus text in
    let law = by_tests-too_fine (is_number n) (nat_lt 9 (places_of n)) (nat_lt (10 ^ 18) (size_of n)) (is_negative text) (size_of n) in
    (λ e. let h = law.0 e in (h.0, ltb-true _ _ h.1), λ h. law.1 (h.0, lt-ltb _ _ h.1))

-- too large, exactly where a number of at most nine places is beyond the range
pub reading_of-too_large : (text : List ℕ) → (reading_of text ≡ Err TooLarge)
    ↔ ((is_number (without_minus text) ≡ true) × (places_of (without_minus text) ≤ 9) × (10 ^ 18 < size_of (without_minus text)))
unfolding reading_of size_reading by_tests
reading_of-too_large text =
    let n = without_minus text in
    let law = by_tests-too_large (is_number n) (nat_lt 9 (places_of n)) (nat_lt (10 ^ 18) (size_of n)) (is_negative text) (size_of n) in
    (λ e. let h = law.0 e in (h.0, ltb-false _ _ h.1, ltb-true _ _ h.2), λ h. law.1 (h.0, le-ltb _ _ h.1, lt-ltb _ _ h.2))
