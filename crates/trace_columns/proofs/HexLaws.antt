-- Words of hexadecimal digits, by a table.
-- for: hex_digit_of, hex_word
use Rattle.std.specs.Prelude.{◌≡◌, refl, ℕ, zero, suc, ◌+◌, ◌-◌, ◌*◌, ◌<◌, ◌≤◌, ◌==◌, ◌&&◌, Bool, true, false, Option, Some, None, [], ◌∷◌, nat_le, cond, slice_index_or}
use Rattle.std.specs.Option.{unwrap_or}
use Rattle.std.proofs.Common.{arith, inl, inr}
use Rattle.std.proofs.lemmas.Bool.{and_parts, cases_Bool, cases_eq, eqb-true, leb-true}
use Rattle.line_text.specs.Numbers.{◌>>=◌}
use Rattle.trace_columns.specs.Columns.{hex_digit_of, hex_of}
use Rattle.trace_columns.specs.declared.word.TheConstants.{HEX_DIGITS}

-- two functions agree below n
agree_below : (ℕ → ℕ) → (ℕ → ℕ) → ℕ → Bool
agree_below f g zero = true
agree_below f g (suc n) = (f n == g n) && agree_below f g n

agree_at : (f g : ℕ → ℕ) (n : ℕ) → agree_below f g n ≡ true → (b : ℕ) → b < n → f b ≡ g b
unfolding agree_below
agree_at f g zero h b l = absurd (omega arith)
agree_at f g (suc n) h b l =
    let both = and_parts (f n == g n) (agree_below f g n) h in
    elim (cases_eq b n) [ inl same ↦ rw same (eqb-true _ _ both.0) | inr other ↦ agree_at f g n both.1 b (omega arith) ]

-- the table has the value of each byte
pub digit_value : (b : ℕ) → b < 256 → slice_index_or HEX_DIGITS b 0 ≡ unwrap_or (hex_digit_of b) 65536
unfolding agree_below hex_digit_of
digit_value b l = agree_at (λ k. slice_index_or HEX_DIGITS k 0) (λ k. unwrap_or (hex_digit_of k) 65536) 256 refl b l

-- a digit is less than 16
if-some : (t : Bool) (m w : ℕ) → cond t (Some m) None ≡ Some w → (t ≡ true) × (m ≡ w)
if-some true m w e = (refl, cc e)
if-some false m w e = absurd (cc e)

pub digit-range : (b w : ℕ) → hex_digit_of b ≡ Some w → w < 16
unfolding hex_digit_of
digit-range b w h = elim (cases_Bool (nat_le 48 b && nat_le b 57)) [
  | inl digit ↦
      let e : Some (b - 48) ≡ Some w = rw digit at h in
      let is : b - 48 ≡ w = cc e in
      let most : b ≤ 57 = leb-true b 57 (and_parts (nat_le 48 b) (nat_le b 57) digit).1 in
      omega (arith, is, most)
  | inr none ↦
      let e : cond (nat_le 97 b && nat_le b 102) (Some (b - 87)) None ≡ Some w = rw none at h in
      let t = if-some (nat_le 97 b && nat_le b 102) (b - 87) w e in
      let most : b ≤ 102 = leb-true b 102 (and_parts (nat_le 97 b) (nat_le b 102) t.0).1 in
      let is : b - 87 ≡ w = t.1 in
      omega (arith, is, most)
]

most-of : (o : Option ℕ) → ((w : ℕ) → o ≡ Some w → w < 16) → unwrap_or o 65536 ≤ 65536
most-of None range = omega arith
most-of (Some w) range = let small = range w refl in omega (arith, small)

pub digit_most : (b : ℕ) → unwrap_or (hex_digit_of b) 65536 ≤ 65536
digit_most b = most-of (hex_digit_of b) (digit-range b)

word-some : (p q r s : Option ℕ) → unwrap_or p 65536 * 4096 + unwrap_or q 65536 * 256 + unwrap_or r 65536 * 16 + unwrap_or s 65536 < 65536 →
    Some (unwrap_or p 65536 * 4096 + unwrap_or q 65536 * 256 + unwrap_or r 65536 * 16 + unwrap_or s 65536) ≡
    (p >>= λ w. q >>= λ x. r >>= λ y. s >>= λ z. Some (w * 4096 + x * 256 + y * 16 + z))
word-some (Some w) (Some x) (Some y) (Some z) l = refl
word-some None q r s l = absurd (omega arith)
word-some (Some w) None r s l = absurd (omega arith)
word-some (Some w) (Some x) None s l = absurd (omega arith)
word-some (Some w) (Some x) (Some y) None l = absurd (omega arith)

word-none : (p q r s : Option ℕ) → ((w : ℕ) → p ≡ Some w → w < 16) → ((w : ℕ) → q ≡ Some w → w < 16) → ((w : ℕ) → r ≡ Some w → w < 16) → ((w : ℕ) → s ≡ Some w → w < 16) →
    65536 ≤ unwrap_or p 65536 * 4096 + unwrap_or q 65536 * 256 + unwrap_or r 65536 * 16 + unwrap_or s 65536 →
    None ≡ (p >>= λ w. q >>= λ x. r >>= λ y. s >>= λ z. Some (w * 4096 + x * 256 + y * 16 + z))
word-none (Some w) (Some x) (Some y) (Some z) a b c d l = let p = a w refl in let q = b x refl in let r = c y refl in let s = d z refl in absurd (omega (arith, l))
word-none None q r s a b c d l = refl
word-none (Some w) None r s a b c d l = refl
word-none (Some w) (Some x) None s a b c d l = refl
word-none (Some w) (Some x) (Some y) None a b c d l = refl

-- the word of four digits
pub hex_some : (a b c d p q r s : ℕ) → p ≡ unwrap_or (hex_digit_of a) 65536 → q ≡ unwrap_or (hex_digit_of b) 65536 → r ≡ unwrap_or (hex_digit_of c) 65536 → s ≡ unwrap_or (hex_digit_of d) 65536 →
    p * 4096 + q * 256 + r * 16 + s < 65536 → Some (p * 4096 + q * 256 + r * 16 + s) ≡ hex_of (a ∷ b ∷ c ∷ d ∷ [])
unfolding hex_of
hex_some a b c d p q r s e f g h l =
    rw (e, f, g, h) (word-some (hex_digit_of a) (hex_digit_of b) (hex_digit_of c) (hex_digit_of d) (rw (e, f, g, h) at l))

-- none, where one of them is no digit
pub hex_none : (a b c d p q r s : ℕ) → p ≡ unwrap_or (hex_digit_of a) 65536 → q ≡ unwrap_or (hex_digit_of b) 65536 → r ≡ unwrap_or (hex_digit_of c) 65536 → s ≡ unwrap_or (hex_digit_of d) 65536 →
    65536 ≤ p * 4096 + q * 256 + r * 16 + s → None ≡ hex_of (a ∷ b ∷ c ∷ d ∷ [])
unfolding hex_of
hex_none a b c d p q r s e f g h l =
    word-none (hex_digit_of a) (hex_digit_of b) (hex_digit_of c) (hex_digit_of d) (digit-range a) (digit-range b) (digit-range c) (digit-range d) (rw (e, f, g, h) at l)
