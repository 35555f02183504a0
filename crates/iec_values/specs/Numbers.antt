-- Whole numbers that are divided toward zero, rounded, and ended at the bounds of a type.
-- IEC 61131-3, in this project's profile.
use Rattle.std.specs.Prelude.{ℤ, pos, neg_ℤ, int_lt, unsigned_abs, ◌+◌, ◌/◌, ◌^◌, Bool, if◌then◌else◌}
use Rattle.std.specs.Ordering.{int_eq}
use Rattle.std.specs.Int.{int_min, int_max}
use Rattle.std.specs.Int.RustNames.{int_div, int_rem}
use Rattle.iec_tree.specs.declared.elementary.Elementary.{Elementary}
use Rattle.iec_values.specs.Types.{least_of, greatest_of}

-- the quotient toward zero; by 0 it is 0
unfoldable pub quotient : ℤ → ℤ → ℤ
quotient a b = if int_eq b (pos 0) then pos 0 else int_div a b

-- what the quotient toward zero leaves; by 0 it is 0
unfoldable pub remainder : ℤ → ℤ → ℤ
remainder a b = if int_eq b (pos 0) then pos 0 else int_rem a b

-- the value of a type that is nearest to a number
unfoldable pub nearest : Elementary → ℤ → ℤ
nearest t z = int_max (least_of t) (int_min z (greatest_of t))

-- the number of this size, below zero or not
abbrev pub with_sign : Bool → ℤ → ℤ
with_sign negative size = if negative then neg_ℤ size else size

-- billionths as the nearest whole number, halves away from zero
unfoldable pub rounded : ℤ → ℤ
rounded z = with_sign (int_lt z (pos 0)) (pos ((unsigned_abs z + 500000000) / 10 ^ 9))
