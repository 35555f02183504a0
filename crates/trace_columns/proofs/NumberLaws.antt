-- Numbers as a writer spells them.
-- for: columns_are_read_back
use Rattle.std.specs.Prelude.{◌≡◌, refl, ℕ, ◌^◌, ◌-◌, ℤ, pos, neg_ℤ, int_le, Bool, true, false, ◌&&◌, Option, Some, None, Result, Ok, Err, List}
use Rattle.std.specs.Fmt.{signed_decimal}
use Rattle.std.specs.Str.{IsUtf8, bytes_eq}
use Rattle.std.specs.Str.Parse.{ParsesSigned, signed_digits_value}
use Rattle.std.proofs.Common.{◌∙◌, sym, subst, arith, w64, FitsSigned, inl, inr}
use Rattle.std.proofs.lemmas.Bool.{and_parts, cases_Bool, true_from_ne_false}
use Rattle.std.proofs.lemmas.Fmt.{IsAscii-signed, parse-signed_decimal}
use Rattle.std.proofs.lemmas.Int.{ints}
use Rattle.std.proofs.lemmas.Result.{OkIff-at_ok}
use Rattle.std.proofs.lemmas.Slice.Eq.{bytes_eq-Decides}
use Rattle.std.proofs.lemmas.Str.{IsUtf8-from_ascii}
use Rattle.line_text.proofs.Texts.{bytes-same}
use Rattle.trace_columns.specs.Columns.{is_wide, wide_number_of}

-- a field is this number
pub record IsSpelled (text : List ℕ) (z : ℤ) : Type 0 where
  pub value : signed_digits_value 10 text ≡ z
  pub wide : FitsSigned w64 z
  pub spelled : signed_decimal z ≡ text

pub wide-fits : (z : ℤ) → is_wide z ≡ true → FitsSigned w64 z
wide-fits z e =
    let p = and_parts (int_le (neg_ℤ (pos (2 ^ 63))) z) (int_le z (pos (2 ^ 63 - 1))) e in
    omega (arith, ints, p.0, p.1)

pub both-hold : (a b : Bool) → a ≡ true → b ≡ true → (a && b) ≡ true
both-hold a b p q = rw (p, q) refl

pub fits-wide : (z : ℤ) → FitsSigned w64 z → is_wide z ≡ true
fits-wide z f =
    both-hold _ _ (true_from_ne_false (int_le (neg_ℤ (pos (2 ^ 63))) z) (λ e. omega (arith, ints, e))) (true_from_ne_false (int_le z (pos (2 ^ 63 - 1))) (λ e. omega (arith, ints, e)))

pub same-bytes : (xs ys : List ℕ) → bytes_eq xs ys ≡ true → xs ≡ ys
same-bytes xs ys e = (bytes_eq-Decides xs ys).0 e

pub wide-parts : (text : List ℕ) (z : ℤ) → wide_number_of text ≡ Some z → IsSpelled text z
unfolding wide_number_of
wide-parts text z e = elim (cases_Bool (is_wide (signed_digits_value 10 text) && bytes_eq (signed_decimal (signed_digits_value 10 text)) text)) [
  | inl spelled ↦
      let here : Some (signed_digits_value 10 text) ≡ Some z = rw spelled at e in
      let is : signed_digits_value 10 text ≡ z = cc here in
      let p = and_parts (is_wide (signed_digits_value 10 text)) (bytes_eq (signed_decimal (signed_digits_value 10 text)) text) spelled in
      record { value = is; wide = wide-fits z (rw is at p.0); spelled = same-bytes _ _ (rw is at p.1) }
  | inr other ↦ let here : None ≡ Some z = rw other at e in absurd (cc here)
]

pub wide-whole : (text : List ℕ) (z : ℤ) → IsSpelled text z → wide_number_of text ≡ Some z
unfolding wide_number_of
wide-whole text z is = rw (is.value, fits-wide z is.wide, is.spelled, bytes-same text) refl

-- a number that has a value is parsed as it
pub wide-parses : {E : Type 0} (text : List ℕ) (z : ℤ) (r : Result ℤ E) → wide_number_of text ≡ Some z → ParsesSigned w64 10 text r → r ≡ Ok z
wide-parses text z r e p = let is = wide-parts text z e in parse-signed_decimal w64 z text r is.wide (omega (arith, ints)) (sym is.spelled) p

none-where : {X : Type 0} (o : Option X) → ((x : X) → o ≡ Some x → ⊥) → None ≡ o
none-where None n = refl
none-where (Some x) n = absurd (n x refl)

-- where parsing fails there is none
pub wide-unparsed : {E : Type 0} (text : List ℕ) (r : Result ℤ E) (error : E) → ParsesSigned w64 10 text r → r ≡ Err error → None ≡ wide_number_of text
wide-unparsed text r error p e = none-where (wide_number_of text) (λ z is. cc (sym e ∙ wide-parses text z r is p))

-- and where the field is no text
pub wide-no_text : (text : List ℕ) → (IsUtf8 text → ⊥) → None ≡ wide_number_of text
wide-no_text text n = none-where (wide_number_of text) (λ z e.
    let is = wide-parts text z e in
    n (subst (λ t. IsUtf8 t) is.spelled (IsUtf8-from_ascii (signed_decimal z) (IsAscii-signed z (let f : FitsSigned w64 z = is.wide in omega (arith, ints))))))

-- a number that was parsed, and is spelled so
pub wide-parsed : {E : Type 0} (text : List ℕ) (r : Result ℤ E) (z : ℤ) → ParsesSigned w64 10 text r → r ≡ Ok z → bytes_eq (signed_decimal z) text ≡ true →
    Some z ≡ wide_number_of text
wide-parsed text r z p e s =
    let q = OkIff-at_ok r _ _ z p e in
    sym (wide-whole text z (record { value = sym q.1; wide = rw q.1 q.0.1; spelled = same-bytes _ _ s }))

-- a number that was parsed, and is spelled otherwise
pub wide-misspelled : {E : Type 0} (text : List ℕ) (r : Result ℤ E) (z : ℤ) → ParsesSigned w64 10 text r → r ≡ Ok z → bytes_eq (signed_decimal z) text ≡ false →
    None ≡ wide_number_of text
wide-misspelled text r z p e s = none-where (wide_number_of text) (λ y is.
    let same : Ok y ≡ Ok z = sym (wide-parses text y r is p) ∙ e in
    let equal : y ≡ z = cc same in
    let spelled = (wide-parts text y is).spelled in
    let shown : signed_decimal z ≡ text = rw equal at spelled in
    let differs : bytes_eq text text ≡ false = rw shown at s in
    cc (sym (bytes-same text) ∙ differs))

-- a number that was parsed has 64 bits
pub parsed-fits : {E : Type 0} (text : List ℕ) (r : Result ℤ E) (z : ℤ) → ParsesSigned w64 10 text r → r ≡ Ok z → FitsSigned w64 z
parsed-fits text r z p e = let q = OkIff-at_ok r _ _ z p e in rw q.1 q.0.1
