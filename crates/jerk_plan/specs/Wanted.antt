-- The speeds that commands want with limited jerk, counted in the direction of the motion; w is the
-- speed of the last cycle and v that of this one. This project's profile.
use Rattle.std.specs.Prelude.{◌≡◌, ◌⊎◌, ℕ, ◌+◌, ◌-◌, ◌*◌, ◌≤◌, zero, suc, min, max, nat_le, if◌then◌else◌}
use Rattle.std.specs.Int.{div_ceil}
use Rattle.motion_numbers.specs.Run.{reach_of}
use Rattle.jerk_core.specs.declared.rates.JerkRates.{JerkRates}
use Rattle.jerk_core.specs.Braking.{braked_of}
use Rattle.jerk_core.specs.Rates.{IsKeptBy, IsSafeBy}

-- the speed of a move with a way to its target: the greatest that is safe by its rates in that way
pub record IsMoveSpeed (rates : JerkRates) (way w v x : ℕ) : Type 0 where
  pub safe : IsSafeBy rates way w v x
  pub greatest : (y : ℕ) → IsSafeBy rates way w v y → y ≤ x

-- the speed of a halt: the braked one, or the least that the last change allows
unfoldable pub slowed_of : JerkRates → ℕ → ℕ → ℕ
slowed_of rates w v = min (braked_of rates.d rates.j w v) (2 * v + rates.j - w)

-- the motion can stop before its target, and x is the speed of its move
pub record IsMoveOf (rates : JerkRates) (way w v x : ℕ) : Type 0 where
  pub kept : IsKeptBy rates way w v
  pub speed : IsMoveSpeed rates way w v x

-- the speed that a move wants: that of a move where it can stop before its target by its rates,
-- else that of a halt
pub data IsSpeedOfMove (rates : JerkRates) (way w v x : ℕ) : Type 0 where
  moves : IsKeptBy rates way w v → IsMoveSpeed rates way w v x → IsSpeedOfMove rates way w v x
  slows : (IsKeptBy rates way w v → ⊥) → x ≡ slowed_of rates w v → IsSpeedOfMove rates way w v x

-- the speed of a velocity command: toward the wanted speed by at most a or d, so that its change
-- can be taken back there, and within what the last change allows
unfoldable pub velocity_of : JerkRates → ℕ → ℕ → ℕ → ℕ
velocity_of rates wanted w v =
    max (2 * v - (w + rates.j)) (min (2 * v + rates.j - w)
    (if nat_le v wanted then v + min rates.a (reach_of (wanted - v) rates.j) else v - min rates.d (reach_of (v - wanted) rates.j)))

-- at the target, at rest, and without a change of speed
pub record IsArrived (way w v : ℕ) : Type 0 where
  pub there : way ≡ 0
  pub last : w ≡ 0
  pub speed : v ≡ 0

-- a move by its rates has arrived within n cycles
abbrev pub IsArrivedWithin : ℕ → JerkRates → ℕ → ℕ → ℕ → Type 0
IsArrivedWithin zero rates way w v = IsArrived way w v
IsArrivedWithin (suc n) rates way w v =
    IsArrived way w v ⊎ ((x : ℕ) → IsMoveSpeed rates way w v x → IsArrivedWithin n rates (way - x) v x)

-- the cycles within which a move from rest arrives: those of its way at the greatest speed, of
-- speeding up to it, of turning to a fall, of slowing, of landing, and 5; each quotient rounded up
unfoldable pub move_cycles_of : JerkRates → ℕ → ℕ
move_cycles_of rates way =
    div_ceil way rates.v + div_ceil rates.a rates.j + div_ceil rates.v rates.a
    + div_ceil (rates.a + rates.d) (rates.j - 1) + div_ceil rates.v rates.d + div_ceil rates.d rates.j + 5

-- the speed after n cycles of a halt
abbrev pub halted_of : ℕ → JerkRates → ℕ → ℕ → ℕ
halted_of zero rates w v = v
halted_of (suc n) rates w v = halted_of n rates v (slowed_of rates w v)

-- the speed after n cycles of a velocity command
abbrev pub velocity_after : ℕ → JerkRates → ℕ → ℕ → ℕ → ℕ
velocity_after zero rates wanted w v = v
velocity_after (suc n) rates wanted w v = velocity_after n rates wanted v (velocity_of rates wanted w v)
