-- The differences of a gear add up.
-- for: gears_keep_their_ratio
use Rattle.std.proofs.Common.{◌≡◌, ℤ, List, [], ◌∷◌, arith}
use Rattle.std.proofs.lemmas.Int.{ints}
use Rattle.follow_plan.specs.Gear.{gear_difference_of, travel_of, end_of}

-- over a way of the master the differences are that of the whole way
pub travels_add_up : (m n d : ℤ) (way : List ℤ) → travel_of n d m way ≡ gear_difference_of m (end_of m way) n d
travels_add_up m n d [] = omega (arith, ints)
travels_add_up m n d (next ∷ more) = omega (arith, ints, travels_add_up next n d more)
