-- What the laws of safe, taken and braking steps say. This project's profile.
use Rattle.std.specs.Prelude.{◌≡◌, ◌-◌, ◌≤◌, ℤ, pos, neg_ℤ, ◌+ℤ◌, ◌-ℤ◌, ◌≤ℤ◌, unsigned_abs}
use Rattle.plc_types.specs.declared.limits.Limits.{Limits}
use Rattle.motion_numbers.specs.Run.{run_of}
use Rattle.plc_types.specs.Limits.{AreLimits}
use Rattle.kin_core.specs.Admissible.{IsAdmissible, IsSafe, IsKept, IsTakenStep}
use Rattle.kin_core.specs.Taken.{taken_step_of}
use Rattle.kin_core.specs.Toward.{toward_zero}

-- a step in a direction, at most a above the step before it and at most d below, is safe where
-- braking by e after it ends within the limits; a, d and e are at most theirs
pub record AreStepsAhead : Type 0 where
  -- upward
  pub upward : (limits : Limits) (before now step a d e : ℤ) →
      AreLimits limits → IsKept limits before now → a ≤ℤ limits.amax → d ≤ℤ limits.dmax →
      pos 0 ≤ℤ step → step ≤ℤ limits.vmax →
      (now -ℤ before -ℤ d) ≤ℤ step → step ≤ℤ (now -ℤ before +ℤ a) →
      pos 0 ≤ℤ e → e ≤ℤ limits.dmax →
      pos (run_of (unsigned_abs step) (unsigned_abs e)) ≤ℤ (limits.hi -ℤ now) →
      IsSafe limits before now (now +ℤ step)
  -- and downward, counted downward
  pub downward : (limits : Limits) (before now step a d e : ℤ) →
      AreLimits limits → IsKept limits before now → a ≤ℤ limits.amax → d ≤ℤ limits.dmax →
      pos 0 ≤ℤ step → step ≤ℤ limits.vmax →
      (before -ℤ now -ℤ d) ≤ℤ step → step ≤ℤ (before -ℤ now +ℤ a) →
      pos 0 ≤ℤ e → e ≤ℤ limits.dmax →
      pos (run_of (unsigned_abs step) (unsigned_abs e)) ≤ℤ (now -ℤ limits.lo) →
      IsSafe limits before now (now -ℤ step)

-- at a kept pair the taken step is the one safe step nearest to the wanted one
pub record AreTakenSteps : Type 0 where
  -- it is safe and nearest
  pub taken : (limits : Limits) (before now wanted : ℤ) → AreLimits limits → IsKept limits before now →
      IsTakenStep limits before now wanted (taken_step_of limits before now wanted)
  -- no other step is
  pub only : (limits : Limits) (before now wanted step : ℤ) → AreLimits limits → IsKept limits before now →
      IsTakenStep limits before now wanted step → step ≡ taken_step_of limits before now wanted
  -- it is the wanted one where that is safe
  pub exact : (limits : Limits) (before now wanted : ℤ) → AreLimits limits → IsKept limits before now →
      IsSafe limits before now (now +ℤ wanted) → taken_step_of limits before now wanted ≡ wanted
  -- its setpoint is admissible
  pub admissible : (limits : Limits) (before now wanted : ℤ) → AreLimits limits → IsKept limits before now →
      IsAdmissible limits before now (now +ℤ taken_step_of limits before now wanted)
  -- it leaves a kept pair
  pub kept : (limits : Limits) (before now wanted : ℤ) → AreLimits limits → IsKept limits before now →
      IsKept limits now (now +ℤ taken_step_of limits before now wanted)

-- at a kept pair, what is taken of a braking step by a deceleration d up to dmax
pub record AreBrakingSteps : Type 0 where
  -- it is slower by at least d, as far as rest
  pub slower : (limits : Limits) (before now d : ℤ) →
      AreLimits limits → IsKept limits before now → pos 0 ≤ℤ d → d ≤ℤ limits.dmax →
      unsigned_abs (taken_step_of limits before now (toward_zero (now -ℤ before) d))
      ≤ unsigned_abs (now -ℤ before) - unsigned_abs d
  -- upward it doesn't turn back
  pub forward : (limits : Limits) (before now d : ℤ) →
      AreLimits limits → IsKept limits before now → pos 0 ≤ℤ d → d ≤ℤ limits.dmax →
      before ≤ℤ now → pos 0 ≤ℤ taken_step_of limits before now (toward_zero (now -ℤ before) d)
  -- nor downward
  pub backward : (limits : Limits) (before now d : ℤ) →
      AreLimits limits → IsKept limits before now → pos 0 ≤ℤ d → d ≤ℤ limits.dmax →
      now ≤ℤ before → taken_step_of limits before now (toward_zero (now -ℤ before) d) ≤ℤ pos 0

-- a step v moved by d toward zero
pub record AreTowardZero : Type 0 where
  -- where v isn't negative its size falls by d, as far as zero
  pub ahead : (v d : ℤ) → pos 0 ≤ℤ v → pos 0 ≤ℤ d →
      toward_zero v d ≡ pos (unsigned_abs v - unsigned_abs d)
  -- the other way round it is the opposite
  pub turned : (v d : ℤ) → pos 0 ≤ℤ d → toward_zero (neg_ℤ v) d ≡ neg_ℤ (toward_zero v d)

-- what the plans of commands build on
pub record AreSafeSteps : Type 0 where
  pub ahead : AreStepsAhead
  pub taken : AreTakenSteps
  pub braking : AreBrakingSteps
