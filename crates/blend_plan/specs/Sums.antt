-- Sums of the steps of a ramp below a velocity and above it.
use Rattle.std.specs.Prelude.{ℕ, zero, suc, ◌+◌, ◌-◌, nat_lt, if◌then◌else◌}

-- those of the first n terms u, u + a, u + 2a and so on that are below v, and then v, added up.
-- This project's profile
abbrev pub rise : ℕ → ℕ → ℕ → ℕ → ℕ
rise zero u v a = v
rise (suc n) u v a = if nat_lt u v then u + rise n (u + a) v a else v

-- the sum of those among u, u + a, u + 2a and so on that are below v, and of v, where a is at least
-- 1: the way of a speeding up from u to v. This project's profile
unfoldable pub rise_of : ℕ → ℕ → ℕ → ℕ
rise_of u v a = rise (v - u) u v a

-- those of the first n terms u, u - d, u - 2d and so on that are above v, added up. This project's
-- profile
abbrev pub above : ℕ → ℕ → ℕ → ℕ → ℕ
above zero u v d = 0
above (suc n) u v d = if nat_lt v u then u + above n (u - d) v d else 0

-- the sum of those among u, u - d, u - 2d and so on that are above v, where d is at least 1: the
-- way of a slowing down from u as far as v. This project's profile
unfoldable pub above_of : ℕ → ℕ → ℕ → ℕ
above_of u v d = above u u v d
