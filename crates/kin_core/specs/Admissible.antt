-- Which setpoints an axis may take, and from which pairs of setpoints it can still be stopped.
use Rattle.std.specs.Prelude.{◌≡◌, ◌≤◌, ℤ, pos, ◌+ℤ◌, ◌-ℤ◌, ◌≤ℤ◌, unsigned_abs, List, [], ◌∷◌}
use Rattle.std.specs.Int.{int_min, int_max}
use Rattle.motion_numbers.specs.declared.TheConstants.{MOST_STEP, MOST_WAY}
use Rattle.motion_numbers.specs.Ranges.{IsPlace}
use Rattle.plc_types.specs.declared.limits.Limits.{Limits}

-- the least step that may follow the step `old`: it falls by dmax as far as zero, by amax past
-- zero. This project's profile
abbrev pub least_step_after : Limits → ℤ → ℤ
least_step_after limits old =
    int_max (old -ℤ limits.dmax) (int_min (old -ℤ limits.amax) (pos 0))

-- the greatest step that may follow the step `old`: it rises by dmax as far as zero, by amax past
-- zero. This project's profile
abbrev pub greatest_step_after : Limits → ℤ → ℤ
greatest_step_after limits old =
    int_min (old +ℤ limits.dmax) (int_max (old +ℤ limits.amax) (pos 0))

-- the step `new` may follow the step `old`. This project's profile
abbrev pub StepMayFollow : Limits → ℤ → ℤ → Type 0
StepMayFollow limits old new =
    (least_step_after limits old ≤ℤ new) × (new ≤ℤ greatest_step_after limits old)

-- the same for an old step that isn't negative: from max(old - dmax, min(0, old - amax)) to old +
-- amax. This project's profile
abbrev pub StepMayFollowAhead : Limits → ℤ → ℤ → Type 0
StepMayFollowAhead limits old new =
    (int_max (old -ℤ limits.dmax) (int_min (pos 0) (old -ℤ limits.amax)) ≤ℤ new)
    × (new ≤ℤ (old +ℤ limits.amax))

-- the setpoint `next` may come after `before` and `now`: within lo and hi, no faster than vmax, and
-- its step may follow the last step. This project's profile
pub record IsAdmissible (limits : Limits) (before now next : ℤ) : Type 0 where
  pub above : limits.lo ≤ℤ next
  pub below : next ≤ℤ limits.hi
  pub speed : pos (unsigned_abs (next -ℤ now)) ≤ℤ limits.vmax
  pub falls : least_step_after limits (now -ℤ before) ≤ℤ (next -ℤ now)
  pub rises : (next -ℤ now) ≤ℤ greatest_step_after limits (now -ℤ before)

-- the setpoints continue the pair admissibly, and the last one equals the one before it. This
-- project's profile
abbrev pub StopsBy : Limits → ℤ → ℤ → List ℤ → Type 0
StopsBy limits before now [] = ⊥
StopsBy limits before now (next ∷ []) =
    IsAdmissible limits before now next × (next ≡ now)
StopsBy limits before now (next ∷ later ∷ more) =
    IsAdmissible limits before now next × StopsBy limits now next (later ∷ more)

-- there is a finite list of setpoints that continues the pair admissibly and ends with the same
-- setpoint twice. This project's profile
pub record IsStoppable (limits : Limits) (before now : ℤ) : Type 0 where
  pub setpoints : List ℤ
  pub stops : StopsBy limits before now setpoints

-- the setpoint `next` is admissible, and after it the axis can still be stopped. This project's
-- profile
pub record IsSafe (limits : Limits) (before now next : ℤ) : Type 0 where
  pub admissible : IsAdmissible limits before now next
  pub stoppable : IsStoppable limits now next

-- the pair lies within the limits and can be stopped: what every cycle keeps. This project's
-- profile
pub record IsKept (limits : Limits) (before now : ℤ) : Type 0 where
  pub above : limits.lo ≤ℤ now
  pub below : now ≤ℤ limits.hi
  pub speed : pos (unsigned_abs (now -ℤ before)) ≤ℤ limits.vmax
  pub stoppable : IsStoppable limits before now

-- the step is safe, and no other safe step is nearer to the wanted one. This project's profile
pub record IsTakenStep (limits : Limits) (before now wanted step : ℤ) : Type 0 where
  pub safe : IsSafe limits before now (now +ℤ step)
  pub nearest : (other : ℤ) → IsSafe limits before now (now +ℤ other) →
      unsigned_abs (step -ℤ wanted) ≤ unsigned_abs (other -ℤ wanted)

-- each setpoint is admissible after the two before it, and each pair of neighbours is kept. This
-- project's profile
abbrev pub AllKept : Limits → ℤ → ℤ → List ℤ → Type 0
AllKept limits before now [] = Unit {0}
AllKept limits before now (next ∷ more) =
    IsAdmissible limits before now next × IsKept limits now next × AllKept limits now next more
