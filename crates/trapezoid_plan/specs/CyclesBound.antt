-- Within how many cycles a move is done.
use Rattle.std.specs.Prelude.{ℕ, ◌+◌, ◌/◌, min, ℤ, unsigned_abs}
use Rattle.std.specs.Int.{div_ceil}
use Rattle.motion_numbers.specs.declared.TheConstants.{MOST_WAY}
use Rattle.command_pool.specs.declared.rates.Rates.{Rates}
use Rattle.motion_numbers.specs.Run.{run_of}

-- the cycles bound of a move that becomes active at the distance l with a step of size w: the
-- cycles to brake, to speed up, to go the way and the way back of the braking at the velocity, to
-- brake onto the target, and three more. This project's profile
unfoldable pub cycles_of_sizes : ℕ → ℕ → Rates → ℕ
cycles_of_sizes l w rates =
    w / unsigned_abs rates.d + 1 + div_ceil (unsigned_abs rates.v) (unsigned_abs rates.a)
    + div_ceil (min (l + run_of w (unsigned_abs rates.d)) MOST_WAY) (unsigned_abs rates.v)
    + unsigned_abs rates.v / unsigned_abs rates.d + 3

-- the cycles bound at the signed distance x and the old step v
abbrev pub cycles_bound_of : ℤ → ℤ → Rates → ℕ
cycles_bound_of x v rates = cycles_of_sizes (unsigned_abs x) (unsigned_abs v) rates
