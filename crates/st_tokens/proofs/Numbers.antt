-- A number that stands still where it is too great is as good as the number.
-- for: number_of
use Rattle.std.proofs.Common.{◌≡◌, ℕ, ◌+◌, ◌*◌, ◌-◌, List, [], ◌∷◌, arith}
use Rattle.std.specs.Prelude.{min}
use Rattle.st_tokens.specs.Numbers.{value_behind}

pub capped : (digits : List ℕ) (m n : ℕ) → min m 2147483648 ≡ min n 2147483648 → min (value_behind m digits) 2147483648 ≡ min (value_behind n digits) 2147483648
capped [] m n h = h
capped (b ∷ digits) m n h =
    let next : min (m * 10 + (b - 48)) 2147483648 ≡ min (n * 10 + (b - 48)) 2147483648 = omega arith in
    capped digits (m * 10 + (b - 48)) (n * 10 + (b - 48)) next

pub capped_once : (digits : List ℕ) (m n : ℕ) → m ≡ min n 2147483648 → min (value_behind m digits) 2147483648 ≡ min (value_behind n digits) 2147483648
capped_once digits m n h = capped digits m n (omega arith)
