-- When a digital cam switch is on. PLCopen Motion Control Part 1 (MC_DigitalCamSwitch), by the
-- setpoints of an axis; the hysteresis and the ranges are this project's profile.
use Rattle.std.specs.Prelude.{◌≡◌, ◌≤◌, ◌<◌, ℕ, nat_le, Bool, true, false, ◌&&◌, ◌||◌, ℤ, pos, ◌+ℤ◌, ◌-ℤ◌, int_le, unsigned_abs, List, [], ◌∷◌, length, slice_index_or}
use Rattle.std.specs.List.{list_all}
use Rattle.switch_text.specs.declared.switch.Switch.{Switch}

-- a setpoint lies within a switch: between its first and its last position
unfoldable pub is_within : Switch → ℤ → Bool
is_within s p = int_le s.on p && int_le p s.off

-- it lies inside by the hysteresis
unfoldable pub is_inside : Switch → ℤ → Bool
is_inside s p = int_le (s.on +ℤ s.hyst) p && int_le p (s.off -ℤ s.hyst)

-- a switch is on after setpoints where one of them lies inside, and that one and all after it lie
-- within; it is off before the first
abbrev pub is_on : Switch → List ℤ → Bool
is_on s [] = false
is_on s (p ∷ ps) = (is_inside s p && list_all (is_within s) (p ∷ ps)) || is_on s ps

-- how it goes on by one setpoint more
abbrev pub is_on_after : Switch → Bool → ℤ → Bool
is_on_after s on p = is_within s p && (on || is_inside s p)

-- a switch is on, by the numbers of the setpoints: there is one since which all lie within, and it
-- lies inside
pub record IsOn (s : Switch) (column : List ℤ) : Type 0 where
  pub since : ℕ
  pub there : since < length column
  pub inside : is_inside s (slice_index_or column since (pos 0)) ≡ true
  pub within : (i : ℕ) → since ≤ i → i < length column →
      is_within s (slice_index_or column i (pos 0)) ≡ true

-- a position is at most 10^15 in size
unfoldable pub is_place : ℤ → Bool
is_place z = nat_le (unsigned_abs z) 1000000000000000

-- a hysteresis is 0 to half of the distance between the positions
unfoldable pub is_hysteresis : Switch → Bool
is_hysteresis s = int_le (pos 0) s.hyst && int_le (s.hyst +ℤ s.hyst) (s.off -ℤ s.on)

-- the positions of a switch stand in their order, and it has a hysteresis
unfoldable pub is_switch : Switch → Bool
is_switch s = is_place s.on && is_place s.off && int_le s.on s.off && is_hysteresis s
