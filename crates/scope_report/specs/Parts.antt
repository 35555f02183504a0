-- What contracts see of a part of an axis's rows. This project's profile.
use Rattle.std.specs.Prelude.{ℕ, ℤ, Option}

-- what is reported of some rows, and what is wanted to give the same of these and of those after
-- them: how many they are, their first setpoint and their last
pub record PartState : Type 0 where
  pub rows : ℕ
  pub driven : ℕ
  pub least : Option ℤ
  pub greatest : Option ℤ
  pub still : ℕ
  pub travel : ℕ
  pub first : Option ℤ
  pub last : Option ℤ
