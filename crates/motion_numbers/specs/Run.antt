-- Sums of ramps: how far an axis goes while it brakes, and from which step it may. This project's
-- profile.
use Rattle.std.specs.Prelude.{ℕ, ◌+◌, ◌-◌, zero, suc, ℤ, pos, negsuc, nat_le, unwrap_or}
use Rattle.motion_numbers.specs.Greatest.{greatest}

-- the first n of the terms u, u - d, u - 2d and so on, added up; no term is below 0
abbrev pub ramp : ℕ → ℕ → ℕ → ℕ
ramp zero u d = 0
ramp (suc n) u d = u + ramp n (u - d) d

-- the sum of the positive ones among u, u - d, u - 2d and so on, where d is at least 1: the way
-- from step u to rest
unfoldable pub run_of : ℕ → ℕ → ℕ
run_of u d = ramp u u d

-- the greatest step whose way to rest, braking by d, is no longer than the room (no step is longer
-- than its way)
unfoldable pub reach_of : ℕ → ℕ → ℕ
reach_of room d = unwrap_or (greatest room (λ u. nat_le (run_of u d) room)) 0

-- z, or 0 where z is negative
unfoldable pub cut_at_zero : ℤ → ℕ
cut_at_zero (pos n) = n
cut_at_zero (negsuc n) = 0
