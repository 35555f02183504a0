-- Electronic gears.
use Rattle.std.specs.Prelude.{ℤ, pos, neg_ℤ, ◌+ℤ◌, ◌-ℤ◌, ◌*ℤ◌, List, [], ◌∷◌}
use Rattle.std.specs.Int.{int_min, int_max}
use Rattle.follow_plan.specs.Floor.{floor_of}

-- the step that a gear n:d asks for, from a master's setpoint m0 to m1: the change of the geared
-- setpoint, which is rounded down. PLCopen Motion Control Part 1, MC_GearIn; the rounding is this
-- project's profile
abbrev pub gear_difference_of : ℤ → ℤ → ℤ → ℤ → ℤ
gear_difference_of m0 m1 n d = floor_of (n *ℤ m1) d -ℤ floor_of (n *ℤ m0) d

-- the difference cut to -vmax..=vmax. This project's profile
abbrev pub gear_toward_of : ℤ → ℤ → ℤ
gear_toward_of difference vmax = int_max (neg_ℤ vmax) (int_min vmax difference)

-- the differences along a way of the master, added up
abbrev pub travel_of : ℤ → ℤ → ℤ → List ℤ → ℤ
travel_of n d m [] = pos 0
travel_of n d m (next ∷ more) = gear_difference_of m next n d +ℤ travel_of n d next more

-- the last setpoint of a way that begins at m
abbrev pub end_of : ℤ → List ℤ → ℤ
end_of m [] = m
end_of m (next ∷ more) = end_of next more
