-- What words are read as is small.
-- for: inputs_are_fit
use Rattle.std.proofs.Common.{◌≡◌, ◌↔◌, ℕ, ◌*◌, ◌/◌, ◌^◌, ◌≤◌, ℤ, Bool, Some, Result, Ok, Err, List, [], ◌∷◌, refl, sym, subst, inl, inr, lit≤}
use Rattle.std.specs.Prelude.{unsigned_abs}
use Rattle.std.specs.List.{AllByRecursion}
use Rattle.std.specs.Str.{is_utf8}
use Rattle.std.proofs.Math.Nat.{div-le_of_le-mul, le_trans, mul_comm}
use Rattle.std.proofs.lemmas.Bool.{cases_Bool}
use Rattle.std.proofs.lemmas.Nat.{mul-le}
use Rattle.fixed_units.specs.Numbers.{Spells, reading_of, with_sign}
use Rattle.fixed_units.specs.PerCycle.{per_cycle_of, per_cycle_squared_of}
use Rattle.fixed_units.specs.declared.reading.UnitFault.{UnitFault}
use Rattle.line_text.specs.Numbers.{number_of}
use Rattle.line_text.specs.Reading.{◌>>=◌, each_of}
use Rattle.motion_history.specs.declared.refused.TraceVersion.TheVariants.{One, Two, Three}
use Rattle.motion_numbers.specs.declared.TheConstants.{MOST_NUMBER}
use Rattle.machine_words.specs.Numbers.{number}
use Rattle.machine_words.specs.Units.{IsCycle, IsUnits, acceleration_in, decimal_units, is_lost, jerk_in, jerk_of, place_in, quantity, units_or_broken, velocity_in}
use Rattle.machine_words.specs.RuleNumbers.{no_value}
use Rattle.machine_words.specs.declared.units.Units.{Units}
use Rattle.machine_words.specs.declared.units.Units.TheVariants.{Internal, User}
use Rattle.machine_words.proofs.Zeros.{IsSmall}
use Rattle.fixed_units.proofs.Shortest.{unsigned_abs-with_sign}
use Rattle.line_text.proofs.Results.{bind_ok, found, ok_is}

-- numbers and quantities in words are small
pub record AreSmall : Type 0 where
  pub numbers : (word : List ℕ) (z : ℤ) → number_of word ≡ Some z → IsSmall z
  pub units : (text : List ℕ) (z : ℤ) → (reading_of text ≡ Ok z) ↔ (Spells text z × (unsigned_abs z ≤ 10 ^ 18))

-- what a word is read as is
abbrev pub ReadsSmall : (List ℕ → Result ℤ ℕ) → Type 0
ReadsSmall read = (word : List ℕ) (z : ℤ) → read word ≡ Ok z → IsSmall z

pub number-small : AreSmall → ReadsSmall number
unfolding number
number-small small word z h = small.numbers word z (found (number_of word) no_value z h)

-- a decimal number that has no fault
pub unbroken : (rule : ℕ) (r : Result ℤ UnitFault) (z : ℤ) → units_or_broken rule r ≡ Ok z → r ≡ Ok z
unbroken rule (Ok units) z h = let e : units ≡ z = ok_is (Ok units) units z refl h in cc
unbroken rule (Err fault) z h = absurd (cc)

quantity-small : AreSmall → ReadsSmall quantity
unfolding quantity decimal_units
quantity-small small text z h =
    elim (cases_Bool (is_utf8 text)) [
      | inl utf8 ↦ let e : units_or_broken no_value (reading_of text) ≡ Ok z = rw utf8 at h in ((small.units text z).0 (unbroken no_value (reading_of text) z e)).1
      | inr other ↦ let e : Err no_value ≡ Ok z = rw other at h in absurd (cc)
    ]

-- a size that is spread over this many parts
spread-small : (b : Bool) (u c m : ℕ) → u ≤ 10 ^ 18 → c ≤ m → IsSmall (with_sign b (u * c / m))
spread-small b u c m few less =
    let product : u * c ≤ m * 10 ^ 18 = subst (λ p. p ≤ m * 10 ^ 18) (mul_comm c u) (mul-le c u m (10 ^ 18) less few) in
    subst (λ n. n ≤ MOST_NUMBER) (sym (unsigned_abs-with_sign b (u * c / m))) (div-le_of_le-mul m product)

pub place-small : AreSmall → (units : Units) → ReadsSmall (place_in units)
unfolding place_in
place-small small Internal word z h = number-small small word z h
place-small small (User cycle_us version) word z h = quantity-small small word z h

pub velocity-small : AreSmall → (units : Units) → IsUnits units → ReadsSmall (velocity_in units)
unfolding velocity_in
velocity-small small Internal cycle word z h = number-small small word z h
velocity-small small (User cycle_us version) cycle text z h =
    let q = bind_ok (quantity text) _ z h in
    let few : cycle_us ≤ 10 ^ 6 = le_trans cycle.longest (lit≤ tt) in
    subst IsSmall (ok_is (Ok (per_cycle_of q.0 cycle_us)) _ z refl q.2) (spread-small _ _ cycle_us (10 ^ 6) (quantity-small small text q.0 q.1) few)

pub acceleration-small : AreSmall → (units : Units) → IsUnits units → ReadsSmall (acceleration_in units)
unfolding acceleration_in
acceleration-small small Internal cycle word z h = number-small small word z h
acceleration-small small (User cycle_us version) cycle text z h =
    let q = bind_ok (quantity text) _ z h in
    let few : cycle_us * cycle_us ≤ 10 ^ 12 = le_trans (mul-le cycle_us cycle_us 100000 100000 cycle.longest cycle.longest) (lit≤ tt) in
    subst IsSmall (ok_is (Ok (per_cycle_squared_of q.0 cycle_us)) _ z refl q.2) (spread-small _ _ (cycle_us * cycle_us) (10 ^ 12) (quantity-small small text q.0 q.1) few)

jerk_of-small : (u : ℤ) (cycle_us : ℕ) → IsSmall u → IsCycle cycle_us → IsSmall (jerk_of u cycle_us)
jerk_of-small u cycle_us few cycle =
    let square : cycle_us * cycle_us ≤ 10 ^ 10 = mul-le cycle_us cycle_us 100000 100000 cycle.longest cycle.longest in
    let less : cycle_us * cycle_us * cycle_us ≤ 10 ^ 18 = le_trans (mul-le (cycle_us * cycle_us) cycle_us (10 ^ 10) 100000 square cycle.longest) (lit≤ tt) in
    elim (cases_Bool (is_lost u cycle_us)) [
      | inl lost ↦ rw lost (lit≤ tt)
      | inr other ↦ rw other (spread-small _ _ (cycle_us * cycle_us * cycle_us) (10 ^ 18) few less)
    ]

pub jerk-small : AreSmall → (units : Units) → IsUnits units → ReadsSmall (jerk_in units)
unfolding jerk_in
jerk-small small Internal cycle word z h = number-small small word z h
jerk-small small (User cycle_us Three) cycle text z h =
    let q = bind_ok (quantity text) _ z h in
    subst IsSmall (ok_is (Ok (jerk_of q.0 cycle_us)) _ z refl q.2) (jerk_of-small q.0 cycle_us (quantity-small small text q.0 q.1) cycle)
jerk-small small (User cycle_us One) cycle word z h = quantity-small small word z h
jerk-small small (User cycle_us Two) cycle word z h = quantity-small small word z h

-- all that is read of words is small, where each is
pub each-small : (read : List ℕ → Result ℤ ℕ) → ReadsSmall read → (words : List (List ℕ)) (zs : List ℤ) → each_of read words ≡ Ok zs → AllByRecursion IsSmall zs
each-small read small [] zs h = subst (λ ys. AllByRecursion IsSmall ys) (ok_is (Ok []) [] zs refl h) tt
each-small read small (word ∷ words) zs h =
    let first = bind_ok (read word) (λ y. each_of read words >>= λ ys. Ok (y ∷ ys)) zs h in
    let second = bind_ok (each_of read words) (λ ys. Ok (first.0 ∷ ys)) zs first.2 in
    let is : first.0 ∷ second.0 ≡ zs = ok_is (Ok (first.0 ∷ second.0)) (first.0 ∷ second.0) zs refl second.2 in
    subst (λ ys. AllByRecursion IsSmall ys) is (small word first.0 first.1, each-small read small words second.0 second.1)
