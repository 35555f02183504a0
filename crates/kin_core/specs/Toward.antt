-- Braking by a step, and steps toward a target.
use Rattle.std.specs.Prelude.{◌⊎◌, ◌≤ℤ◌, ℤ, pos, neg_ℤ, ◌+ℤ◌, ◌-ℤ◌, int_lt, if◌then◌else◌}

-- v moved by d toward zero and not past it. This project's profile
unfoldable pub toward_zero : ℤ → ℤ → ℤ
toward_zero v d = if int_lt d v then v -ℤ d else (if int_lt v (neg_ℤ d) then v +ℤ d else pos 0)

-- the setpoint lies between the one before it and the target, or at one of them. This project's
-- profile
abbrev pub IsTowards : ℤ → ℤ → ℤ → Type 0
IsTowards target before now = ((before ≤ℤ now) × (now ≤ℤ target)) ⊎ ((target ≤ℤ now) × (now ≤ℤ before))
