-- What `omega` reads of a number cut at zero.
-- for: stoppable, nearest_safe, taken_steps_keep_for_ever
use Rattle.std.proofs.Common.{◌≡◌, ◌-◌, ℤ, arith}
use Rattle.std.proofs.lemmas.Int.{ints, clamps}
use Rattle.motion_numbers.specs.Laws.{AreWays}
use Rattle.motion_numbers.specs.Run.{cut_at_zero}
use borrow.Author.Differences.{up, down}

module _ (ways : AreWays) where
  pub cut_is : (z : ℤ) → cut_at_zero z ≡ up z - down z
  cut_is z = omega (arith, ints, clamps, ways.cut z)
