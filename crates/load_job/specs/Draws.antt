-- The drawn numbers: a linear congruential generator modulo 2^64, of whose states the upper 31 bits
-- are drawn. This project's profile.
use Rattle.std.specs.Prelude.{ℕ, zero, suc, ◌+◌, ◌*◌, ◌/◌, ◌%◌, ◌^◌}

-- what a state is multiplied by
abbrev pub multiplier : ℕ
multiplier = 6364136223846793005

-- what is then added to it
abbrev pub increment : ℕ
increment = 1442695040888963407

-- the state after another
abbrev pub next_state : ℕ → ℕ
next_state x = (x * multiplier + increment) % 2 ^ 64

-- the state after this many draws
abbrev pub state_after : ℕ → ℕ → ℕ
state_after zero x = x
state_after (suc n) x = state_after n (next_state x)

-- the number below k that a state gives
abbrev pub below : ℕ → ℕ → ℕ
below k x = x / 2 ^ 33 % k

-- the n-th number that is drawn from a state on, below k
unfoldable pub drawn : ℕ → ℕ → ℕ → ℕ
drawn n k x = below k (state_after n x)
