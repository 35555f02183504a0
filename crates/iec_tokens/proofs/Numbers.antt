-- A number that stands still where it is too great is as good as the number.
-- for: next
use Rattle.std.proofs.Common.{◌≡◌, ℕ, ◌+◌, ◌*◌, List, [], ◌∷◌, arith}
use Rattle.std.specs.Prelude.{min, ◌^◌, ◌==◌}
use Rattle.std.proofs.lemmas.Bool.{cases_Bool}
use mathlib.Core.Logic.{inl, inr}
use Rattle.iec_tokens.specs.Digits.{base_of, value_behind, value_of_digit, with_digit}
use Rattle.iec_tokens.specs.declared.digits.Radix.{Radix}
use Rattle.iec_tokens.specs.declared.digits.Radix.TheVariants.{Decimal, Hexadecimal}

next : (r : Radix) (d m n : ℕ) → min m (10 ^ 16) ≡ min n (10 ^ 16) → min (m * base_of r + d) (10 ^ 16) ≡ min (n * base_of r + d) (10 ^ 16)
next Decimal d m n h = omega arith
next Hexadecimal d m n h = omega arith

-- one more digit
pub digit_capped : (r : Radix) (b m n : ℕ) → min m (10 ^ 16) ≡ min n (10 ^ 16) → min (with_digit (base_of r) m b) (10 ^ 16) ≡ min (with_digit (base_of r) n b) (10 ^ 16)
digit_capped r b m n h = elim (cases_Bool (b == 95)) [
  | inl t ↦ rw t h
  | inr f ↦ rw f (next r (value_of_digit b) m n h)
]

pub capped : (r : Radix) (digits : List ℕ) (m n : ℕ) → min m (10 ^ 16) ≡ min n (10 ^ 16) → min (value_behind (base_of r) m digits) (10 ^ 16) ≡ min (value_behind (base_of r) n digits) (10 ^ 16)
capped r [] m n h = h
capped r (b ∷ digits) m n h = capped r digits (with_digit (base_of r) m b) (with_digit (base_of r) n b) (digit_capped r b m n h)
