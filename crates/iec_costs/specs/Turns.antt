-- How often the body of a FOR runs. IEC 61131-3 section 7.3.3.4.2 (FOR), in this project's profile.
use Rattle.std.specs.Prelude.{◌≡◌, ◌&&◌, ℕ, ◌+◌, ◌/◌, ◌<◌, ◌↔◌, ℤ, pos, ◌+ℤ◌, ◌-ℤ◌, ◌*ℤ◌, ◌≤ℤ◌, ◌<ℤ◌, int_lt, int_le, unsigned_abs, if◌then◌else◌}
use Rattle.iec_costs.specs.declared.turns.Bounds.{Bounds}

-- the turns from a value to one that isn't before it
abbrev pub turns_between : ℤ → ℤ → ℤ → ℕ
turns_between from to by = unsigned_abs (to -ℤ from) / unsigned_abs by + 1

-- up from the first value to the last, or down: none where the first is past the last, or where the
-- step is 0
unfoldable pub turns_of : Bounds → ℕ
turns_of b =
    if int_lt (pos 0) b.by && int_le b.first b.last then turns_between b.first b.last b.by
    else if int_lt b.by (pos 0) && int_le b.last b.first then turns_between b.first b.last b.by
    else 0

-- the value in a turn, where the first turn is 0
abbrev pub value_in : Bounds → ℕ → ℤ
value_in b n = b.first +ℤ pos n *ℤ b.by

-- a turn is made exactly where its value isn't past the last; none by steps of 0
pub record ReachTheLast (b : Bounds) : Type 0 where
  pub up : pos 0 <ℤ b.by → (n : ℕ) → (n < turns_of b) ↔ (value_in b n ≤ℤ b.last)
  pub down : b.by <ℤ pos 0 → (n : ℕ) → (n < turns_of b) ↔ (b.last ≤ℤ value_in b n)
  pub none : b.by ≡ pos 0 → turns_of b ≡ 0
