-- The steps that commands want with limited jerk, in either direction: by the way or the velocity
-- that is wanted, the step of the last cycle and that of this one. This project's profile.
use Rattle.std.specs.Prelude.{◌≡◌, ℕ, ℤ, pos, neg_ℤ, negsuc, ◌+ℤ◌, ◌≤ℤ◌, unsigned_abs}
use Rattle.motion_numbers.specs.Run.{cut_at_zero}
use Rattle.jerk_core.specs.declared.rates.JerkRates.{JerkRates}
use Rattle.jerk_plan.specs.Wanted.{IsSpeedOfMove, slowed_of, velocity_of}

-- neither what is wanted nor the step leads down
pub record HeadsUp (wanted speed : ℤ) : Type 0 where
  pub wanted_up : pos 0 ≤ℤ wanted
  pub speed_up : pos 0 ≤ℤ speed

-- neither leads up, and one of them leads down
pub record HeadsDown (wanted speed : ℤ) : Type 0 where
  pub wanted_down : wanted ≤ℤ pos 0
  pub speed_down : speed ≤ℤ pos 0
  pub some_down : (wanted +ℤ speed) ≤ℤ negsuc 0

-- the step of a halt: the slowed speed in the direction of the motion
pub data IsHaltStep (rates : JerkRates) (last speed step : ℤ) : Type 0 where
  up : pos 0 ≤ℤ speed → step ≡ pos (slowed_of rates (cut_at_zero last) (unsigned_abs speed)) → IsHaltStep rates last speed step
  down : speed ≤ℤ negsuc 0 → step ≡ neg_ℤ (pos (slowed_of rates (cut_at_zero (neg_ℤ last)) (unsigned_abs speed))) → IsHaltStep rates last speed step

-- the step of a move: the speed that a move wants in its direction, or the step of a halt where the
-- axis moves away from the target
pub data IsMoveStep (rates : JerkRates) (distance last speed step : ℤ) : Type 0 where
  up : (x : ℕ) → HeadsUp distance speed → step ≡ pos x →
      IsSpeedOfMove rates (unsigned_abs distance) (cut_at_zero last) (unsigned_abs speed) x → IsMoveStep rates distance last speed step
  down : (x : ℕ) → HeadsDown distance speed → step ≡ neg_ℤ (pos x) →
      IsSpeedOfMove rates (unsigned_abs distance) (cut_at_zero (neg_ℤ last)) (unsigned_abs speed) x → IsMoveStep rates distance last speed step
  slows : (HeadsUp distance speed → ⊥) → (HeadsDown distance speed → ⊥) →
      IsHaltStep rates last speed step → IsMoveStep rates distance last speed step

-- the step of a velocity command: the speed of one in its direction, or the step of a halt where
-- the axis moves the other way
pub data IsVelocityStep (rates : JerkRates) (wanted last speed step : ℤ) : Type 0 where
  up : HeadsUp wanted speed → step ≡ pos (velocity_of rates (unsigned_abs wanted) (cut_at_zero last) (unsigned_abs speed)) →
      IsVelocityStep rates wanted last speed step
  down : HeadsDown wanted speed → step ≡ neg_ℤ (pos (velocity_of rates (unsigned_abs wanted) (cut_at_zero (neg_ℤ last)) (unsigned_abs speed))) →
      IsVelocityStep rates wanted last speed step
  slows : (HeadsUp wanted speed → ⊥) → (HeadsDown wanted speed → ⊥) →
      IsHaltStep rates last speed step → IsVelocityStep rates wanted last speed step
