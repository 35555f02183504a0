-- Truths as numbers: TRUE is 1 and FALSE is 0. IEC 61131-3, in this project's profile.
use Rattle.std.specs.Prelude.{ℤ, pos, Bool, not, if◌then◌else◌}
use Rattle.std.specs.Ordering.{int_eq}

-- a truth as a number
unfoldable pub truth_of : Bool → ℤ
truth_of b = if b then pos 1 else pos 0

-- whether a number is TRUE
unfoldable pub is_true : ℤ → Bool
is_true z = not (int_eq z (pos 0))
