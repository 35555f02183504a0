-- Numbers between two others.
use Rattle.std.specs.Prelude.{ℤ, ◌≤ℤ◌}

-- a number lies between two others
pub record IsBetween (least z most : ℤ) : Type 0 where
  pub above : least ≤ℤ z
  pub below : z ≤ℤ most
