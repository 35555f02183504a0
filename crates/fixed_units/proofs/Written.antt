-- The texts that are written, digit by digit.
-- for: write_units
use Rattle.std.proofs.Common.{◌≡◌, ◌≢◌, ℕ, zero, suc, ◌+◌, ◌-◌, ◌/◌, ◌%◌, ◌^◌, ◌<◌, ◌≤◌, List, [], ◌∷◌, ◌++◌, length, refl, sym, ap, ◌∙◌, arith, length-append, append_assoc, Bool, true, false, ℤ, pos, int_lt, unsigned_abs, decimal}
use Rattle.std.proofs.lemmas.Fmt.{decimal_digit, decimal_step}
use Rattle.std.proofs.Math.Nat.{pow-suc}
use Rattle.std.proofs.lemmas.Bool.{ne_eqb}
use Rattle.fixed_units.specs.Spelling.{last_digits, before_digits, without_end_zeros, fraction_text, sign_text, units_text}

-- there are as many digits as were asked for
pub length-last_digits : (places number : ℕ) → length (last_digits places number) ≡ places
unfolding last_digits
length-last_digits zero number = refl
length-last_digits (suc places) number =
    let shorter = length-last_digits places (number / 10) in
    simp length-append (omega (arith, shorter))

-- the last digit stands after the others
pub last_digits-step : (places number : ℕ) → 0 < places
    → last_digits places number ≡ last_digits (places - 1) (number / 10) ++ (48 + number % 10) ∷ []
unfolding last_digits
last_digits-step zero number h = absurd (omega (arith, h))
last_digits-step (suc places) number h = let e : suc places - 1 ≡ places = omega arith in rw e refl

-- a zero at the end is left out
pub without_end_zeros-zero : (ds : List ℕ) → without_end_zeros (ds ++ 48 ∷ []) ≡ without_end_zeros ds
unfolding without_end_zeros
without_end_zeros-zero [] = refl
without_end_zeros-zero (d ∷ ds) = ap (before_digits d) (without_end_zeros-zero ds)

-- another digit at the end keeps all before it
pub without_end_zeros-digit : (ds : List ℕ) (d : ℕ) → d ≢ 48 → without_end_zeros (ds ++ d ∷ []) ≡ ds ++ d ∷ []
unfolding without_end_zeros
without_end_zeros-digit [] d other = rw (ne_eqb d 48 other) refl
without_end_zeros-digit (e ∷ []) d other = rw (without_end_zeros-digit [] d other) refl
without_end_zeros-digit (e ∷ f ∷ ds) d other = rw (without_end_zeros-digit (f ∷ ds) d other) refl

-- a number above zero that fits this many places has one place at least
pub places-positive : (number places : ℕ) → 0 < number → number < 10 ^ places → 0 < places
places-positive number zero some fits = absurd (omega (arith, fits))
places-positive number (suc places) some fits = omega arith

-- a number of this many places without its last digit has one place less
pub shorter-fits : (number places : ℕ) → 0 < places → number < 10 ^ places → number / 10 < 10 ^ (places - 1)
shorter-fits number zero some fits = absurd (omega (arith, some))
shorter-fits number (suc places) some fits =
    let e : suc places - 1 ≡ places = omega arith in
    rw e (omega (arith, pow-suc 10 places))

-- where the last digit is zero, the digits before it have the same significant places
pub without_end_zeros-shorter : (number places : ℕ) → 0 < places → number % 10 ≡ 0
    → without_end_zeros (last_digits (places - 1) (number / 10)) ≡ without_end_zeros (last_digits places number)
without_end_zeros-shorter number places some last =
    rw (last_digits-step places number some, last) (sym (without_end_zeros-zero (last_digits (places - 1) (number / 10))))

-- where the last digit isn't zero, all places are significant
pub without_end_zeros-all : (number places : ℕ) → 0 < places → number % 10 ≢ 0
    → without_end_zeros (last_digits places number) ≡ last_digits places number
without_end_zeros-all number places some last =
    let other : 48 + number % 10 ≢ 48 = λ e. last (omega (arith, e)) in
    rw (last_digits-step places number some) (without_end_zeros-digit (last_digits (places - 1) (number / 10)) (48 + number % 10) other)

-- zero is written as nothing
pub fraction_text-zero : (billionths : ℕ) → billionths ≡ 0 → fraction_text billionths ≡ []
unfolding fraction_text
fraction_text-zero billionths none = rw none refl

-- another fraction is written as the point and its significant places
pub fraction_text-places : (billionths : ℕ) → billionths ≢ 0
    → fraction_text billionths ≡ 46 ∷ without_end_zeros (last_digits 9 billionths)
unfolding fraction_text
fraction_text-places billionths some = rw (ne_eqb billionths 0 some) refl

-- no digits are nothing
pub last_digits-none : (places number : ℕ) → places ≡ 0 → last_digits places number ≡ []
unfolding last_digits
last_digits-none places number none = rw none refl

-- a digit after a text and the digits before it
pub push-behind : (text digits before after whole : List ℕ) (digit : ℕ) → after ≡ before ++ digit ∷ []
    → before ≡ text ++ digits → whole ≡ digits ++ digit ∷ [] → after ≡ text ++ whole
push-behind text digits before after whole digit a b w =
    a ∙ ap (λ l. l ++ digit ∷ []) b ∙ append_assoc text digits (digit ∷ []) ∙ ap (λ l. text ++ l) (sym w)

-- a number of two digits or more has one digit more than without its last
pub length-decimal_step : (number : ℕ) → 10 ≤ number → number < 2 ^ 64
    → length (decimal number) ≡ length (decimal (number / 10)) + 1
length-decimal_step number large fits =
    ap length (decimal_step number large fits) ∙ length-append (decimal (number / 10)) ((48 + number % 10) ∷ [])

-- a number of one digit is written as one
pub length-decimal_digit : (number : ℕ) → number < 10 → length (decimal number) ≡ 1
length-decimal_digit number small = ap length (decimal_digit number small)

-- a sign takes one place at most
pub length-sign_text : (negative : Bool) → length (sign_text negative) ≤ 1
length-sign_text true = omega arith
length-sign_text false = omega arith

-- the sign, the whole number and the fraction stand one after the other
pub units_text-parts : (units : ℤ) (negative : Bool) (size : ℕ) → negative ≡ int_lt units (pos 0) → size ≡ unsigned_abs units
    → units_text units ≡ sign_text negative ++ decimal (size / 10 ^ 9) ++ fraction_text (size % 10 ^ 9)
unfolding units_text
units_text-parts units negative size n s = rw (n, s) refl

-- a point after a text and digits after the point
pub pushed-point : (text before after digits places : List ℕ) → before ≡ text ++ 46 ∷ [] → after ≡ before ++ digits
    → digits ≡ places → after ≡ text ++ 46 ∷ places
pushed-point text before after digits places b a d =
    a ∙ ap (λ l. l ++ digits) b ∙ append_assoc text (46 ∷ []) digits ∙ ap (λ l. text ++ 46 ∷ l) d
