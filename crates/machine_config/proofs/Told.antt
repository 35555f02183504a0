-- What numbers, quantities, points and lists are read as, in the words of what a text configures.
-- for: read_config
use Rattle.std.proofs.Common.{◌≡◌, ℕ, ◌*◌, ◌^◌, ◌≤◌, ℤ, Bool, true, false, Option, Some, None, Result, Ok, Err, List, [], ◌∷◌, refl, sym, ap, subst, ◌∙◌, arith, inl, inr}
use Rattle.std.specs.Prelude.{◌↔◌, ◌*ℤ◌, cond, int_le, nat_le, pos, unsigned_abs}
use Rattle.std.specs.List.{after_first, before_first, list_any}
use Rattle.std.proofs.lemmas.Bool.{and_parts, cases_Bool, le-leb, leb-true}
use Rattle.std.proofs.lemmas.Int.{ints, unsigned_abs-mul}
use Rattle.fixed_units.specs.Numbers.{Spells, reading_of}
use Rattle.line_text.specs.Numbers.{is_colon}
use Rattle.line_text.specs.Reading.{◌>>=◌, each_of}
use Rattle.line_text.specs.Rules.{in_range, is_from_to}
use Rattle.machine_words.specs.Units.{decimal_units}
use Rattle.toml.specs.Data.{Data, array, boolean, datetime, float, integer, string, table}
use Rattle.machine_config.specs.Configured.{AreEach, IsDecimal, IsPoint, IsQuantity, IsQuantityOr, IsWhole}
use Rattle.machine_config.specs.Quantities.{point_at, point_of, quantity_in, quantity_in_or, whole_units}
use Rattle.machine_config.specs.RuleNumbers.{no_quantity}
use Rattle.line_text.proofs.Results.{bind_ok, holds, ok_is}
use Rattle.machine_words.proofs.Smalls.{unbroken}

-- decimals are read as they are spelled
abbrev pub AreSpelled : Type 0
AreSpelled = (text : List ℕ) → (units : ℤ) → (reading_of text ≡ Ok units) ↔ (Spells text units × (unsigned_abs units ≤ 10 ^ 18))

pub decimal-told : AreSpelled → (text : List ℕ) (units : ℤ) → decimal_units no_quantity text ≡ Ok units → IsDecimal text units
unfolding decimal_units
decimal-told spelled text units h =
    let both = (spelled text units).0 (unbroken no_quantity (reading_of text) units h) in
    record { spells = both.0; small = both.1 }

pub decimal-read : AreSpelled → (text : List ℕ) (units : ℤ) → IsDecimal text units → decimal_units no_quantity text ≡ Ok units
unfolding decimal_units
decimal-read spelled text units is = rw ((spelled text units).1 (is.spells, is.small)) refl

size_of_units : (z : ℤ) → unsigned_abs (z *ℤ pos 1000000000) ≡ unsigned_abs z * 1000000000
size_of_units z = unsigned_abs-mul z (pos 1000000000)

pub whole-told : (z units : ℤ) → whole_units z ≡ Ok units → IsWhole z units
unfolding whole_units
whole-told z units h =
    elim (cases_Bool (nat_le (unsigned_abs z * 1000000000) 1000000000000000000)) [
      | inl small ↦
          let e : z *ℤ pos 1000000000 ≡ units = ok_is (Ok (z *ℤ pos 1000000000)) _ units refl (rw small at h) in
          record { value = sym e; small = subst (λ u. unsigned_abs u ≤ 1000000000000000000) e (rw (size_of_units z) (leb-true _ _ small)) }
      | inr large ↦ let e = rw large at h in absurd (cc)
    ]

pub whole-read : (z units : ℤ) → IsWhole z units → whole_units z ≡ Ok units
unfolding whole_units
whole-read z units is =
    let small : unsigned_abs (z *ℤ pos 1000000000) ≤ 1000000000000000000 = subst (λ u. unsigned_abs u ≤ 1000000000000000000) is.value is.small in
    let size : unsigned_abs z * 1000000000 ≤ 1000000000000000000 = rw (size_of_units z) at small in
    rw (le-leb _ _ size) (ap (λ u. Ok u) (sym is.value))

pub quantity-told : AreSpelled → (o : Option Data) (units : ℤ) → quantity_in o ≡ Ok units → IsQuantity o units
quantity-told spelled None units h = absurd (cc)
quantity-told spelled (Some (string text)) units h = decimal-told spelled text units h
quantity-told spelled (Some (integer z)) units h = whole-told z units h
quantity-told spelled (Some (float x)) units h = absurd (cc)
quantity-told spelled (Some (boolean b)) units h = absurd (cc)
quantity-told spelled (Some (datetime dt)) units h = absurd (cc)
quantity-told spelled (Some (array ds)) units h = absurd (cc)
quantity-told spelled (Some (table ms)) units h = absurd (cc)

pub quantity-read : AreSpelled → (o : Option Data) (units : ℤ) → IsQuantity o units → quantity_in o ≡ Ok units
quantity-read spelled None units is = absurd is
quantity-read spelled (Some (string text)) units is = decimal-read spelled text units is
quantity-read spelled (Some (integer z)) units is = whole-read z units is
quantity-read spelled (Some (float x)) units is = absurd is
quantity-read spelled (Some (boolean b)) units is = absurd is
quantity-read spelled (Some (datetime dt)) units is = absurd is
quantity-read spelled (Some (array ds)) units is = absurd is
quantity-read spelled (Some (table ms)) units is = absurd is

pub quantity_or-told : AreSpelled → (other : ℤ) (o : Option Data) (units : ℤ) → quantity_in_or other o ≡ Ok units → IsQuantityOr other o units
quantity_or-told spelled other None units h = sym (ok_is (Ok other) other units refl h)
quantity_or-told spelled other (Some d) units h = quantity-told spelled (Some d) units h

pub quantity_or-read : AreSpelled → (other : ℤ) (o : Option Data) (units : ℤ) → IsQuantityOr other o units → quantity_in_or other o ≡ Ok units
quantity_or-read spelled other None units is = ap (λ u. Ok u) (sym is)
quantity_or-read spelled other (Some d) units is = quantity-read spelled (Some d) units is

pub point-told : AreSpelled → (text : List ℕ) (point : ℤ × ℤ) → point_of text ≡ Ok point → IsPoint text point
unfolding point_of point_at
point-told spelled text point h =
    let colon = bind_ok _ (λ u. point_at (before_first is_colon text) (after_first is_colon text)) point h in
    let x = bind_ok (decimal_units no_quantity (before_first is_colon text)) _ point colon.2 in
    let y = bind_ok (decimal_units no_quantity (after_first is_colon text)) _ point x.2 in
    let is : (x.0, y.0) ≡ point = ok_is (Ok (x.0, y.0)) _ point refl y.2 in
    record {
      colon = holds (list_any is_colon text) no_quantity colon.0 colon.1;
      x = decimal-told spelled _ point.0 (x.1 ∙ ap (λ p. Ok p.0) is);
      y = decimal-told spelled _ point.1 (y.1 ∙ ap (λ p. Ok p.1) is);
    }

pub point-read : AreSpelled → (text : List ℕ) (point : ℤ × ℤ) → IsPoint text point → point_of text ≡ Ok point
unfolding point_of point_at
point-read spelled text point is =
    rw (is.colon, decimal-read spelled _ point.0 is.x, decimal-read spelled _ point.1 is.y) refl

-- a number lies in its range
pub record IsNumber (least most : ℕ) (z : ℤ) (n : ℕ) : Type 0 where
  pub is : z ≡ pos n
  pub above : least ≤ n
  pub below : n ≤ most

range_of : (b : Bool) (least most rule : ℕ) (z : ℤ) (n : ℕ) → is_from_to least most z ≡ b → cond b (Ok (unsigned_abs z)) (Err rule) ≡ Ok n → IsNumber least most z n
range_of true least most rule z n is h =
    let e : unsigned_abs z ≡ n = ok_is (Ok (unsigned_abs z)) (unsigned_abs z) n refl h in
    let parts = and_parts (int_le (pos least) z) (int_le z (pos most)) is in
    record { is = omega (arith, ints, parts.0, e); above = omega (arith, ints, parts.0, e); below = omega (arith, ints, parts.0, parts.1, e) }
range_of false least most rule z n is h = absurd (cc)

pub range-told : (least most rule : ℕ) (z : ℤ) (n : ℕ) → in_range least most rule z ≡ Ok n → IsNumber least most z n
unfolding in_range
range-told least most rule z n h = range_of (is_from_to least most z) least most rule z n refl h

range_is : (least most n : ℕ) → least ≤ n → n ≤ most → is_from_to least most (pos n) ≡ true
range_is least most n above below = rw (le-leb least n above, le-leb n most below) refl

pub range-read : (least most rule : ℕ) (z : ℤ) (n : ℕ) → IsNumber least most z n → in_range least most rule z ≡ Ok n
unfolding in_range
range-read least most rule z n is = rw (is.is, range_is least most n is.above is.below) refl

-- lists whose items are read each by itself
pub each-told : {A B : Type 0} (read : A → Result B ℕ) (R : A → B → Type 0) → ((x : A) (y : B) → read x ≡ Ok y → R x y) →
    (xs : List A) (ys : List B) → each_of read xs ≡ Ok ys → AreEach R xs ys
each-told read R told [] [] h = tt
each-told read R told [] (y ∷ ys) h = absurd (cc)
each-told read R told (x ∷ xs) ys h =
    let one = bind_ok (read x) (λ y. each_of read xs >>= λ zs. Ok (y ∷ zs)) ys h in
    let more = bind_ok (each_of read xs) (λ zs. Ok (one.0 ∷ zs)) ys one.2 in
    let is : one.0 ∷ more.0 ≡ ys = ok_is (Ok (one.0 ∷ more.0)) _ ys refl more.2 in
    subst (λ zs. AreEach R (x ∷ xs) zs) is (told x one.0 one.1, each-told read R told xs more.0 more.1)

pub each-read : {A B : Type 0} (read : A → Result B ℕ) (R : A → B → Type 0) → ((x : A) (y : B) → R x y → read x ≡ Ok y) →
    (xs : List A) (ys : List B) → AreEach R xs ys → each_of read xs ≡ Ok ys
each-read read R back [] [] is = refl
each-read read R back [] (y ∷ ys) is = absurd is
each-read read R back (x ∷ xs) [] is = absurd is
each-read read R back (x ∷ xs) (y ∷ ys) is = rw (back x y is.0, each-read read R back xs ys is.1) refl
