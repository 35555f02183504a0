-- Safe steps in either direction, counted in the direction of the motion. This project's profile.
use Rattle.std.specs.Prelude.{◌≡◌, ℕ, ◌+◌, ◌≤◌, ℤ, pos, neg_ℤ, ◌-ℤ◌}
use Rattle.jerk_core.specs.declared.limits.JerkLimits.{JerkLimits}
use Rattle.jerk_core.specs.declared.rates.JerkRates.{JerkRates}
use Rattle.jerk_core.specs.declared.motions.Motion.{Motion}
use Rattle.jerk_core.specs.Rates.{IsSafeBy, IsLeftBy}

-- the motion may go on by a safe speed; and where it stands, it may turn by a speed that its last
-- change allows
pub data IsSafeFrom (rates : JerkRates) (motion : Motion) (step : ℤ) : Type 0 where
  goes_on : (x : ℕ) → step ≡ pos x → IsSafeBy rates motion.ahead motion.last motion.speed x → IsSafeFrom rates motion step
  turns : (x : ℕ) → step ≡ neg_ℤ (pos x) → motion.speed ≡ 0 → x ≤ motion.last + rates.j → IsLeftBy rates motion.behind 0 x →
      IsSafeFrom rates motion step

-- the motion counts the three setpoints upward
pub record IsMotionUp (limits : JerkLimits) (first before now : ℤ) (motion : Motion) : Type 0 where
  pub last : (before -ℤ first) ≡ pos motion.last
  pub speed : (now -ℤ before) ≡ pos motion.speed
  pub ahead : (limits.axis.hi -ℤ now) ≡ pos motion.ahead
  pub behind : (now -ℤ limits.axis.lo) ≡ pos motion.behind

-- or downward
pub record IsMotionDown (limits : JerkLimits) (first before now : ℤ) (motion : Motion) : Type 0 where
  pub last : (first -ℤ before) ≡ pos motion.last
  pub speed : (before -ℤ now) ≡ pos motion.speed
  pub ahead : (now -ℤ limits.axis.lo) ≡ pos motion.ahead
  pub behind : (limits.axis.hi -ℤ now) ≡ pos motion.behind
