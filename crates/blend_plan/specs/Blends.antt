-- Where a blend applies, and at which velocity it passes the first target.
use Rattle.std.specs.Prelude.{◌⊎◌, Bool, ℤ, pos, ◌-ℤ◌, ◌<ℤ◌, ◌≤ℤ◌, int_lt, int_le, ◌&&◌, ◌||◌}
use Rattle.std.specs.Int.{int_min, int_max}
use Rattle.blend_plan.specs.declared.modes.Blend.{Blend}
use Rattle.blend_plan.specs.declared.modes.Blend.TheVariants.{Low, Previous, Next, High}

-- the blend velocity: the lesser velocity of the two moves, that of the first, that of the second,
-- or the greater. PLCopen Motion Control Part 1, buffer modes BlendingLow, BlendingPrevious,
-- BlendingNext and BlendingHigh
abbrev pub blend_velocity_of : Blend → ℤ → ℤ → ℤ
blend_velocity_of Low first second = int_min first second
blend_velocity_of Previous first second = first
blend_velocity_of Next first second = second
blend_velocity_of High first second = int_max first second

-- two targets ahead, one after the other, at the distances l1 and l2, with an old step that does
-- not lead away from them. This project's profile
pub record LieAhead (l1 l2 old : ℤ) : Type 0 where
  pub first : pos 0 ≤ℤ l1
  pub second : l1 <ℤ l2
  pub old_step : pos 0 ≤ℤ old

-- a blend applies: the targets differ, and counted in the direction from the first to the second
-- the first one is ahead of the setpoint or at it, and the last step is ahead or 0. PLCopen Motion
-- Control Part 1, buffer modes; that it is Buffered elsewhere is this project's profile
abbrev pub BlendApplies : ℤ → ℤ → ℤ → ℤ → Type 0
BlendApplies target1 target2 before now =
    LieAhead (target1 -ℤ now) (target2 -ℤ now) (now -ℤ before)
    ⊎ LieAhead (now -ℤ target1) (now -ℤ target2) (before -ℤ now)

-- whether two targets lie ahead at the distances l1 and l2, with the old step. This project's
-- profile
abbrev pub lie_ahead : ℤ → ℤ → ℤ → Bool
lie_ahead l1 l2 old = int_le (pos 0) l1 && int_lt l1 l2 && int_le (pos 0) old

-- whether a blend applies to the targets at the setpoints. This project's profile
unfoldable pub blend_applies : ℤ → ℤ → ℤ → ℤ → Bool
blend_applies target1 target2 before now =
    lie_ahead (target1 -ℤ now) (target2 -ℤ now) (now -ℤ before)
    || lie_ahead (now -ℤ target1) (now -ℤ target2) (before -ℤ now)
