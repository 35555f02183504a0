-- Readings step by step.
-- for: crates above
use Rattle.std.proofs.Common.{◌≡◌, ◌≤◌, ℕ, ℤ, Bool, true, false, Option, Some, None, Result, Ok, Err, refl, sym, ◌∙◌, arith}
use Rattle.std.specs.Prelude.{cond, int_le, pos, unsigned_abs}
use Rattle.std.specs.Option.{ok_or}
use Rattle.std.proofs.lemmas.Bool.{and_parts}
use Rattle.std.proofs.lemmas.Int.{ints}
use Rattle.line_text.specs.Reading.{◌>>=◌, at_line}
use Rattle.line_text.specs.Rules.{broken_unless, in_range, is_from_to}

-- a reading in two steps
pub bind_ok : {A B E : Type 0} (r : Result A E) (f : A → Result B E) (y : B) → (r >>= f) ≡ Ok y → (x : A) × (r ≡ Ok x) × (f x ≡ Ok y)
bind_ok (Ok x) f y h = (x, refl, h)
bind_ok (Err e) f y h = absurd (cc)

-- what is read is one
pub ok_is : {A : Type 0} (r : Result A ℕ) (x y : A) → r ≡ Ok x → r ≡ Ok y → x ≡ y
ok_is r x y a b = let e = sym a ∙ b in cc

-- a rule that isn't broken
pub holds : (b : Bool) (rule : ℕ) (u : Unit {0}) → broken_unless b rule ≡ Ok u → b ≡ true
holds true rule u h = refl
holds false rule u h = absurd (cc)

-- what was found
pub found : {A : Type 0} (o : Option A) (rule : ℕ) (x : A) → ok_or o rule ≡ Ok x → o ≡ Some x
found (Some y) rule x h = let e : y ≡ x = ok_is (Ok y) y x refl h in cc
found None rule x h = absurd (cc)

-- a line that breaks no rule
pub line-ok : {T : Type 0} (r : Result T ℕ) (n : ℕ) (t : T) → at_line n r ≡ Ok t → r ≡ Ok t
line-ok (Ok s) n t h = let e : s ≡ t = cc in cc
line-ok (Err rule) n t h = absurd (cc)

-- a number lies in its range
pub record IsWithinRange (least most n : ℕ) : Type 0 where
  pub above : least ≤ n
  pub below : n ≤ most

range_of : (b : Bool) (least most rule : ℕ) (z : ℤ) (n : ℕ) → is_from_to least most z ≡ b → cond b (Ok (unsigned_abs z)) (Err rule) ≡ Ok n → IsWithinRange least most n
range_of true least most rule z n is h =
    let e : unsigned_abs z ≡ n = ok_is (Ok (unsigned_abs z)) (unsigned_abs z) n refl h in
    let parts = and_parts (int_le (pos least) z) (int_le z (pos most)) is in
    record { above = omega (arith, ints, parts.0, e); below = omega (arith, ints, parts.0, parts.1, e) }
range_of false least most rule z n is h = absurd (cc)

-- a number that breaks no rule of its range
pub in_range-within : (least most rule : ℕ) (z : ℤ) (n : ℕ) → in_range least most rule z ≡ Ok n → IsWithinRange least most n
unfolding in_range
in_range-within least most rule z n h = range_of (is_from_to least most z) least most rule z n refl h
