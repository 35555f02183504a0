-- Numbers of few digits, digit by digit.
-- for: digits_of, eight_digits, short_number_of and others
use Rattle.std.specs.Prelude.{◌≡◌, refl, ℕ, zero, suc, ◌+◌, ◌-◌, ◌*◌, ◌^◌, ◌<◌, ◌≤◌, ℤ, pos, neg_ℤ, Option, Some, None, IfSome, nat_lt, decimal, List, [], ◌∷◌, length, take, slice_index_or}
use Rattle.std.specs.Char.{digit_value}
use Rattle.std.specs.Fmt.{signed_decimal}
use Rattle.std.specs.Str.Parse.{AllDigits, digits_value}
use Rattle.std.proofs.Common.{◌∙◌, sym, ap, subst, arith}
use Rattle.std.proofs.lemmas.Bool.{false_from_ne_true, lt-ltb, ltb-true}
use Rattle.std.proofs.lemmas.Fmt.{decimal-digits_value}
use Rattle.std.proofs.lemmas.Int.{ints}
use Rattle.std.proofs.lemmas.Int.Digits.{digits_more, digits_value_more}
use Rattle.std.proofs.lemmas.List.{length-take}
use Rattle.std.proofs.lemmas.Str.Parse.{IsNumeralModel, digits_value_short, numerals_by_value, tells_digits}
use Rattle.trace_columns.specs.Columns.{wide_number_of}
use Rattle.trace_columns.proofs.BackLaws.{wide-back}

own : IsNumeralModel (AllDigits 10) (digits_value 10)
own = numerals_by_value (AllDigits 10) tells_digits

-- the value of a digit
pub digit-is : (c : ℕ) → 48 ≤ c → c ≤ 57 → digit_value c ≡ c - 48
digit-is c low high = rw (false_from_ne_true (nat_lt c 48) (λ h. let l = ltb-true c 48 h in omega (arith, l, low)), lt-ltb c 58 (omega (arith, high))) refl

-- the digits so far, and their number
pub record IsRead (text : List ℕ) (i number : ℕ) : Type 0 where
  pub digits : AllDigits 10 (take i text)
  pub value : number ≡ digits_value 10 (take i text)

-- one more digit has room
pub room_left : (text : List ℕ) (i number : ℕ) → IsRead text i number → i < length text → length text ≤ 18 → number < 10 ^ 17
room_left text i number is l few =
    let short : length (take i text) ≤ 17 = let n = length-take i text in omega (arith, n, l, few) in
    rw is.value (digits_value_short own (take i text) 17 is.digits short)

-- one more digit
pub read_more : (text : List ℕ) (i number : ℕ) → IsRead text i number → i < length text → 48 ≤ slice_index_or text i 0 → slice_index_or text i 0 ≤ 57 →
    IsRead text (i + 1) (number * 10 + (slice_index_or text i 0 - 48))
read_more text i number is l low high =
    let at : digit_value (slice_index_or text i 0) ≡ slice_index_or text i 0 - 48 = digit-is (slice_index_or text i 0) low high in
    record {
      digits = digits_more 10 text i l is.digits (omega (arith, at, low, high));
      value = rw (digits_value_more 10 text i l, at, ← is.value) refl;
    }

take-length : {X : Type 0} (xs : List X) → take (length xs) xs ≡ xs
take-length [] = refl
take-length (x ∷ xs) = ap (λ l. x ∷ l) (take-length xs)

-- digits that were all read spell their number
pub all_read : (text : List ℕ) (number : ℕ) → IsRead text (length text) number → 1 ≤ length text → (slice_index_or text 0 0 ≡ 48 → length text ≡ 1) → length text ≤ 18 → decimal number ≡ text
all_read text number is some first few =
    let whole : take (length text) text ≡ text = take-length text in
    let digits : AllDigits 10 text = subst (AllDigits 10) whole is.digits in
    let value : number ≡ digits_value 10 text = is.value ∙ ap (digits_value 10) whole in
    let small : digits_value 10 text < 10 ^ 18 = digits_value_short own text 18 digits few in
    rw value (decimal-digits_value own text digits (omega (arith, some)) first (omega (arith, small)))

pub all_small : (text : List ℕ) (number : ℕ) → IsRead text (length text) number → length text ≤ 18 → number < 10 ^ 18
all_small text number is few =
    let whole : take (length text) text ≡ text = take-length text in
    let digits : AllDigits 10 text = subst (AllDigits 10) whole is.digits in
    let value : number ≡ digits_value 10 text = is.value ∙ ap (digits_value 10) whole in
    rw value (digits_value_short own text 18 digits few)

-- what they spell is the number of the field
pub short-back : (text : List ℕ) (n : ℕ) → decimal n ≡ text → n < 10 ^ 18 → Some (pos n) ≡ wide_number_of text
short-back text n e small = sym (rw (← e) (wide-back (pos n) (omega (arith, ints, small))))

-- and after a minus they spell the negative one
minus_before : (n : ℕ) → 0 < n → signed_decimal (neg_ℤ (pos n)) ≡ 45 ∷ decimal n
minus_before zero l = absurd (omega (arith, l))
minus_before (suc n) l = refl

negative-back : (text : List ℕ) (n : ℕ) → decimal n ≡ text → n < 10 ^ 18 → 0 < n → Some (neg_ℤ (pos n)) ≡ wide_number_of (45 ∷ text)
negative-back text n e small some =
    sym (rw (← e, ← minus_before n some) (wide-back (neg_ℤ (pos n)) (omega (arith, ints, small))))

pub negatives-back : (o : Option ℤ) (text : List ℕ) (n : ℕ) → decimal n ≡ text → n < 10 ^ 18 → IfSome o (λ z. z ≡ neg_ℤ (pos n)) → IfSome o (λ z. 0 < n) →
    IfSome o (λ z. Some z ≡ wide_number_of (45 ∷ text))
negatives-back None text n e small is some = tt
negatives-back (Some z) text n e small is some = ap Some is ∙ negative-back text n e small some
