-- Kept motions upward and downward: what keeps them, by numbers and by lists of setpoints.
-- for: is_kept_counted, kept_is_stoppable, kept_motions_go_on and others
use Rattle.std.proofs.Common.{inl, inr, ◌≡◌, ℕ, ◌+◌, ◌-◌, ◌*◌, ◌≤◌, zero, suc, ℤ, pos, ◌+ℤ◌, ◌-ℤ◌, ◌≤ℤ◌, unsigned_abs, List, [], ◌∷◌, arith, refl}
use Rattle.std.proofs.lemmas.Int.{ints, clamps}
use Rattle.std.proofs.lemmas.Bool.{cases_lt}
use Rattle.plc_types.specs.Limits.{AreLimits}
use Rattle.kin_core.specs.Admissible.{least_step_after, greatest_step_after}
use Rattle.jerk_core.specs.declared.limits.JerkLimits.{JerkLimits}
use Rattle.jerk_core.specs.Braking.{braked_of}
use Rattle.jerk_core.specs.Rates.{IsKeptBy, IsSafeBy}
use Rattle.jerk_core.specs.Admissible.{AreJerkLimits, IsAdmissibleByJerk, StopsByJerk, AllRise, AllFall, rates_of}
use Rattle.jerk_core.proofs.Brakes.{braked_zero}
use Rattle.jerk_core.proofs.Ways.{braking_falls}
use Rattle.jerk_core.proofs.KeptMotions.{braked_safe, kept_before, standing_kept}

-- where a motion upward is: its speeds, and the room up to hi
pub record IsUp (limits : JerkLimits) (first before now : ℤ) (room w v : ℕ) : Type 0 where
  pub last : (before -ℤ first) ≡ pos w
  pub speed : (now -ℤ before) ≡ pos v
  pub room_is : (limits.axis.hi -ℤ now) ≡ pos room
  pub other : limits.axis.lo ≤ℤ now

-- upward, a safe speed gives an admissible setpoint
pub admissible_up : (limits : JerkLimits) (first before now next : ℤ) (room w v x : ℕ) → AreJerkLimits limits →
    IsUp limits first before now room w v → IsSafeBy (rates_of limits) room w v x → (next -ℤ now) ≡ pos x →
    IsAdmissibleByJerk limits first before now next
admissible_up limits first before now next room w v x ok at safe is =
    let axis : AreLimits limits.axis = ok.axis in
    let jmax : pos 2 ≤ℤ limits.jmax = ok.jmax_least in
    let last : (before -ℤ first) ≡ pos w = at.last in
    let speed : (now -ℤ before) ≡ pos v = at.speed in
    let rest : (limits.axis.hi -ℤ now) ≡ pos room = at.room_is in
    let other : limits.axis.lo ≤ℤ now = at.other in
    let bends : 2 * v ≤ x + w + unsigned_abs limits.jmax = safe.bends in
    let rises : x + w ≤ 2 * v + unsigned_abs limits.jmax = safe.rises in
    let within : x ≤ room = safe.after.within in
    let slow : x ≤ unsigned_abs limits.axis.vmax = safe.after.kept.speed in
    let gains : x ≤ v + unsigned_abs limits.axis.amax = safe.after.kept.gains in
    let loses : v ≤ x + unsigned_abs limits.axis.dmax = safe.after.kept.loses in
    record {
      admissible = record {
        above = omega (arith, ints);
        below = omega (arith, ints);
        speed = omega (arith, ints);
        falls = omega (arith, ints, clamps);
        rises = omega (arith, ints, clamps);
      };
      jerk = omega (arith, ints);
      turns = inl (omega (arith, ints), omega (arith, ints));
    }

-- and the motion is there after it
pub up_next : (limits : JerkLimits) (first before now next : ℤ) (room w v x : ℕ) →
    IsUp limits first before now room w v → x ≤ room → (next -ℤ now) ≡ pos x → IsUp limits before now next (room - x) v x
up_next limits first before now next room w v x at within is =
    let speed : (now -ℤ before) ≡ pos v = at.speed in
    let rest : (limits.axis.hi -ℤ now) ≡ pos room = at.room_is in
    let other : limits.axis.lo ≤ℤ now = at.other in
    record {
      last = speed;
      speed = is;
      room_is = omega (arith, ints);
      other = omega (arith, ints);
    }

-- setpoints that stop without falling
pub record StopsUp (limits : JerkLimits) (first before now : ℤ) : Type 0 where
  pub setpoints : List ℤ
  pub stops : StopsByJerk limits first before now setpoints
  pub rises : AllRise now setpoints

-- one more before them
stops_up_after : (limits : JerkLimits) (first before now next : ℤ) → now ≤ℤ next → IsAdmissibleByJerk limits first before now next →
    StopsUp limits before now next → StopsUp limits first before now
stops_up_after limits first before now next rises admissible rest = record {
  setpoints = next ∷ rest.setpoints;
  stops = (admissible, rest.stops);
  rises = (rises, rest.rises);
}

-- the same setpoint three times
stands_up : (limits : JerkLimits) (first before now : ℤ) → first ≡ before → before ≡ now → StopsUp limits first before now
stands_up limits first before now same still = record { setpoints = []; stops = (same, still); rises = tt }

-- braking from a kept motion is safe
braked_up : (limits : JerkLimits) (room w v : ℕ) → AreJerkLimits limits → IsKeptBy (rates_of limits) room w v →
    IsSafeBy (rates_of limits) room w v (braked_of (unsigned_abs limits.axis.dmax) (unsigned_abs limits.jmax) w v)
braked_up limits room w v ok kept =
    let axis : AreLimits limits.axis = ok.axis in
    let jmax : pos 2 ≤ℤ limits.jmax = ok.jmax_least in
    braked_safe _ _ _ _ room w v (omega (arith, ints)) (omega (arith, ints)) kept

-- at rest the same setpoint comes again
ends_up : (limits : JerkLimits) (first before now : ℤ) (room w v : ℕ) → AreJerkLimits limits →
    IsUp limits first before now room w v → IsKeptBy (rates_of limits) room w v → v ≡ 0 → StopsUp limits first before now
ends_up limits first before now room w v ok at kept none =
    let still : braked_of (unsigned_abs limits.axis.dmax) (unsigned_abs limits.jmax) w v ≡ 0 =
    rw none (braked_zero (unsigned_abs limits.axis.dmax) (unsigned_abs limits.jmax) w) in
    let speed : (now -ℤ before) ≡ pos v = at.speed in
    let same : (now -ℤ now) ≡ pos (braked_of (unsigned_abs limits.axis.dmax) (unsigned_abs limits.jmax) w v) = omega (arith, ints) in
    stops_up_after limits first before now now (omega (arith, ints))
    (admissible_up limits first before now now room w v _ ok at (braked_up limits room w v ok kept) same)
    (stands_up limits before now now (omega (arith, ints)) refl)

-- in motion the braked speed comes, and then what stops from there
goes_up_on : (limits : JerkLimits) (first before now : ℤ) (room w v x : ℕ) → AreJerkLimits limits →
    IsUp limits first before now room w v → IsSafeBy (rates_of limits) room w v x →
    (IsUp limits before now (now +ℤ pos x) (room - x) v x → StopsUp limits before now (now +ℤ pos x)) →
    StopsUp limits first before now
goes_up_on limits first before now room w v x ok at safe later =
    let goes : ((now +ℤ pos x) -ℤ now) ≡ pos x = omega (arith, ints) in
    stops_up_after limits first before now (now +ℤ pos x) (omega (arith, ints))
    (admissible_up limits first before now (now +ℤ pos x) room w v x ok at safe goes)
    (later (up_next limits first before now (now +ℤ pos x) room w v x at safe.after.within goes))

-- braking from a kept motion stops it, within its cycles
pub stops_up : (n : ℕ) (limits : JerkLimits) (first before now : ℤ) (room w v : ℕ) → AreJerkLimits limits →
    IsUp limits first before now room w v → IsKeptBy (rates_of limits) room w v → v + (v - w) * (v - w) ≤ n →
    StopsUp limits first before now
stops_up zero limits first before now room w v ok at kept enough =
    ends_up limits first before now room w v ok at kept (none v ((v - w) * (v - w)) enough)
  where
    none : (v s : ℕ) → v + s ≤ 0 → v ≡ 0
    none v s h = omega arith
stops_up (suc n) limits first before now room w v ok at kept enough =
    let axis : AreLimits limits.axis = ok.axis in
    let jmax : pos 2 ≤ℤ limits.jmax = ok.jmax_least in
    let safe : IsSafeBy (rates_of limits) room w v (braked_of (unsigned_abs limits.axis.dmax) (unsigned_abs limits.jmax) w v) = braked_up limits room w v ok kept in
    elim (cases_lt 0 v) [
      | inl moves ↦ goes_up_on limits first before now room w v (braked_of (unsigned_abs limits.axis.dmax) (unsigned_abs limits.jmax) w v) ok at safe
          (λ there. stops_up n limits before now (now +ℤ pos (braked_of (unsigned_abs limits.axis.dmax) (unsigned_abs limits.jmax) w v))
          (room - braked_of (unsigned_abs limits.axis.dmax) (unsigned_abs limits.jmax) w v) v (braked_of (unsigned_abs limits.axis.dmax) (unsigned_abs limits.jmax) w v) ok there safe.after.kept
          (less _ _ n (braking_falls (unsigned_abs limits.axis.dmax) (unsigned_abs limits.jmax) w v (omega (arith, ints)) (omega (arith, ints)) moves) enough))
      | inr rests ↦ ends_up limits first before now room w v ok at kept (omega arith)
    ]
  where
    less : (a b n : ℕ) → a ≤ b - 1 → b ≤ suc n → a ≤ n
    less a b n h most = omega arith

-- the sizes of an admissible setpoint that isn't below
pub record GoesUp (limits : JerkLimits) (first before now next : ℤ) (room w v x : ℕ) : Type 0 where
  pub is : (next -ℤ now) ≡ pos x
  pub bends : 2 * v ≤ x + w + unsigned_abs limits.jmax
  pub rises : x + w ≤ 2 * v + unsigned_abs limits.jmax
  pub within : x ≤ room
  pub slow : x ≤ unsigned_abs limits.axis.vmax
  pub gains : x ≤ v + unsigned_abs limits.axis.amax
  pub loses : v ≤ x + unsigned_abs limits.axis.dmax

pub goes_up : (limits : JerkLimits) (first before now next : ℤ) (room w v : ℕ) → AreJerkLimits limits →
    IsUp limits first before now room w v → now ≤ℤ next → IsAdmissibleByJerk limits first before now next →
    GoesUp limits first before now next room w v (unsigned_abs (next -ℤ now))
goes_up limits first before now next room w v ok at up admissible =
    let axis : AreLimits limits.axis = ok.axis in
    let jmax : pos 2 ≤ℤ limits.jmax = ok.jmax_least in
    let last : (before -ℤ first) ≡ pos w = at.last in
    let speed : (now -ℤ before) ≡ pos v = at.speed in
    let rest : (limits.axis.hi -ℤ now) ≡ pos room = at.room_is in
    let below : next ≤ℤ limits.axis.hi = admissible.admissible.below in
    let slow : pos (unsigned_abs (next -ℤ now)) ≤ℤ limits.axis.vmax = admissible.admissible.speed in
    let falls : least_step_after limits.axis (now -ℤ before) ≤ℤ (next -ℤ now) = admissible.admissible.falls in
    let rises : (next -ℤ now) ≤ℤ greatest_step_after limits.axis (now -ℤ before) = admissible.admissible.rises in
    let jerk : pos (unsigned_abs ((next -ℤ now) -ℤ (now -ℤ before) -ℤ ((now -ℤ before) -ℤ (before -ℤ first)))) ≤ℤ limits.jmax = admissible.jerk in
    record {
      is = omega (arith, ints);
      bends = omega (arith, ints);
      rises = omega (arith, ints);
      within = omega (arith, ints);
      slow = omega (arith, ints);
      gains = omega (arith, ints, clamps);
      loses = omega (arith, ints, clamps);
    }

-- a motion that some list stops without falling is kept
pub kept_of_stops_up : (limits : JerkLimits) (first before now : ℤ) (room w v : ℕ) (setpoints : List ℤ) → AreJerkLimits limits →
    IsUp limits first before now room w v → v ≤ unsigned_abs limits.axis.vmax → v ≤ w + unsigned_abs limits.axis.amax →
    w ≤ v + unsigned_abs limits.axis.dmax → StopsByJerk limits first before now setpoints → AllRise now setpoints →
    IsKeptBy (rates_of limits) room w v
kept_of_stops_up limits first before now room w v [] ok at slow gains loses stops rises =
    let axis : AreLimits limits.axis = ok.axis in
    let jmax : pos 2 ≤ℤ limits.jmax = ok.jmax_least in
    let last : (before -ℤ first) ≡ pos w = at.last in
    let speed : (now -ℤ before) ≡ pos v = at.speed in
    let same : first ≡ before = stops.0 in
    let still : before ≡ now = stops.1 in
    let none : w ≡ 0 = omega (arith, ints) in
    let rests : v ≡ 0 = omega (arith, ints) in
    rw (none, rests) (standing_kept _ _ _ _ room (omega (arith, ints)) (omega (arith, ints)))
kept_of_stops_up limits first before now room w v (next ∷ more) ok at slow gains loses stops rises =
    let axis : AreLimits limits.axis = ok.axis in
    let jmax : pos 2 ≤ℤ limits.jmax = ok.jmax_least in
    let goes : GoesUp limits first before now next room w v (unsigned_abs (next -ℤ now)) = goes_up limits first before now next room w v ok at rises.0 stops.0 in
    let later : IsKeptBy (rates_of limits) (room - unsigned_abs (next -ℤ now)) v (unsigned_abs (next -ℤ now)) =
    kept_of_stops_up limits before now next (room - unsigned_abs (next -ℤ now)) v (unsigned_abs (next -ℤ now)) more ok
    (up_next limits first before now next room w v (unsigned_abs (next -ℤ now)) at goes.within goes.is) goes.slow goes.gains goes.loses stops.1 rises.1 in
    kept_before _ _ _ _ room w v (unsigned_abs (next -ℤ now)) (omega (arith, ints)) (omega (arith, ints)) slow gains loses
    (record { bends = goes.bends; rises = goes.rises; after = record { within = goes.within; kept = later } })

-- where a motion downward is: its speeds, and the room down to lo
pub record IsDown (limits : JerkLimits) (first before now : ℤ) (room w v : ℕ) : Type 0 where
  pub last : (first -ℤ before) ≡ pos w
  pub speed : (before -ℤ now) ≡ pos v
  pub room_is : (now -ℤ limits.axis.lo) ≡ pos room
  pub other : now ≤ℤ limits.axis.hi

-- downward, a safe speed gives an admissible setpoint
pub admissible_down : (limits : JerkLimits) (first before now next : ℤ) (room w v x : ℕ) → AreJerkLimits limits →
    IsDown limits first before now room w v → IsSafeBy (rates_of limits) room w v x → (now -ℤ next) ≡ pos x →
    IsAdmissibleByJerk limits first before now next
admissible_down limits first before now next room w v x ok at safe is =
    let axis : AreLimits limits.axis = ok.axis in
    let jmax : pos 2 ≤ℤ limits.jmax = ok.jmax_least in
    let last : (first -ℤ before) ≡ pos w = at.last in
    let speed : (before -ℤ now) ≡ pos v = at.speed in
    let rest : (now -ℤ limits.axis.lo) ≡ pos room = at.room_is in
    let other : now ≤ℤ limits.axis.hi = at.other in
    let bends : 2 * v ≤ x + w + unsigned_abs limits.jmax = safe.bends in
    let rises : x + w ≤ 2 * v + unsigned_abs limits.jmax = safe.rises in
    let within : x ≤ room = safe.after.within in
    let slow : x ≤ unsigned_abs limits.axis.vmax = safe.after.kept.speed in
    let gains : x ≤ v + unsigned_abs limits.axis.amax = safe.after.kept.gains in
    let loses : v ≤ x + unsigned_abs limits.axis.dmax = safe.after.kept.loses in
    record {
      admissible = record {
        above = omega (arith, ints);
        below = omega (arith, ints);
        speed = omega (arith, ints);
        falls = omega (arith, ints, clamps);
        rises = omega (arith, ints, clamps);
      };
      jerk = omega (arith, ints);
      turns = inr (omega (arith, ints), omega (arith, ints));
    }

-- and the motion is there after it
pub down_next : (limits : JerkLimits) (first before now next : ℤ) (room w v x : ℕ) →
    IsDown limits first before now room w v → x ≤ room → (now -ℤ next) ≡ pos x → IsDown limits before now next (room - x) v x
down_next limits first before now next room w v x at within is =
    let speed : (before -ℤ now) ≡ pos v = at.speed in
    let rest : (now -ℤ limits.axis.lo) ≡ pos room = at.room_is in
    let other : now ≤ℤ limits.axis.hi = at.other in
    record {
      last = speed;
      speed = is;
      room_is = omega (arith, ints);
      other = omega (arith, ints);
    }

-- setpoints that stop without rising
pub record StopsDown (limits : JerkLimits) (first before now : ℤ) : Type 0 where
  pub setpoints : List ℤ
  pub stops : StopsByJerk limits first before now setpoints
  pub rises : AllFall now setpoints

-- one more before them
stops_down_after : (limits : JerkLimits) (first before now next : ℤ) → next ≤ℤ now → IsAdmissibleByJerk limits first before now next →
    StopsDown limits before now next → StopsDown limits first before now
stops_down_after limits first before now next rises admissible rest = record {
  setpoints = next ∷ rest.setpoints;
  stops = (admissible, rest.stops);
  rises = (rises, rest.rises);
}

-- the same setpoint three times
stands_down : (limits : JerkLimits) (first before now : ℤ) → first ≡ before → before ≡ now → StopsDown limits first before now
stands_down limits first before now same still = record { setpoints = []; stops = (same, still); rises = tt }

-- braking from a kept motion is safe
braked_down : (limits : JerkLimits) (room w v : ℕ) → AreJerkLimits limits → IsKeptBy (rates_of limits) room w v →
    IsSafeBy (rates_of limits) room w v (braked_of (unsigned_abs limits.axis.dmax) (unsigned_abs limits.jmax) w v)
braked_down limits room w v ok kept =
    let axis : AreLimits limits.axis = ok.axis in
    let jmax : pos 2 ≤ℤ limits.jmax = ok.jmax_least in
    braked_safe _ _ _ _ room w v (omega (arith, ints)) (omega (arith, ints)) kept

-- at rest the same setpoint comes again
ends_down : (limits : JerkLimits) (first before now : ℤ) (room w v : ℕ) → AreJerkLimits limits →
    IsDown limits first before now room w v → IsKeptBy (rates_of limits) room w v → v ≡ 0 → StopsDown limits first before now
ends_down limits first before now room w v ok at kept none =
    let still : braked_of (unsigned_abs limits.axis.dmax) (unsigned_abs limits.jmax) w v ≡ 0 =
    rw none (braked_zero (unsigned_abs limits.axis.dmax) (unsigned_abs limits.jmax) w) in
    let speed : (before -ℤ now) ≡ pos v = at.speed in
    let same : (now -ℤ now) ≡ pos (braked_of (unsigned_abs limits.axis.dmax) (unsigned_abs limits.jmax) w v) = omega (arith, ints) in
    stops_down_after limits first before now now (omega (arith, ints))
    (admissible_down limits first before now now room w v _ ok at (braked_down limits room w v ok kept) same)
    (stands_down limits before now now (omega (arith, ints)) refl)

-- in motion the braked speed comes, and then what stops from there
goes_down_on : (limits : JerkLimits) (first before now : ℤ) (room w v x : ℕ) → AreJerkLimits limits →
    IsDown limits first before now room w v → IsSafeBy (rates_of limits) room w v x →
    (IsDown limits before now (now -ℤ pos x) (room - x) v x → StopsDown limits before now (now -ℤ pos x)) →
    StopsDown limits first before now
goes_down_on limits first before now room w v x ok at safe later =
    let goes : (now -ℤ (now -ℤ pos x)) ≡ pos x = omega (arith, ints) in
    stops_down_after limits first before now (now -ℤ pos x) (omega (arith, ints))
    (admissible_down limits first before now (now -ℤ pos x) room w v x ok at safe goes)
    (later (down_next limits first before now (now -ℤ pos x) room w v x at safe.after.within goes))

-- braking from a kept motion stops it, within its cycles
pub stops_down : (n : ℕ) (limits : JerkLimits) (first before now : ℤ) (room w v : ℕ) → AreJerkLimits limits →
    IsDown limits first before now room w v → IsKeptBy (rates_of limits) room w v → v + (v - w) * (v - w) ≤ n →
    StopsDown limits first before now
stops_down zero limits first before now room w v ok at kept enough =
    ends_down limits first before now room w v ok at kept (none v ((v - w) * (v - w)) enough)
  where
    none : (v s : ℕ) → v + s ≤ 0 → v ≡ 0
    none v s h = omega arith
stops_down (suc n) limits first before now room w v ok at kept enough =
    let axis : AreLimits limits.axis = ok.axis in
    let jmax : pos 2 ≤ℤ limits.jmax = ok.jmax_least in
    let safe : IsSafeBy (rates_of limits) room w v (braked_of (unsigned_abs limits.axis.dmax) (unsigned_abs limits.jmax) w v) = braked_down limits room w v ok kept in
    elim (cases_lt 0 v) [
      | inl moves ↦ goes_down_on limits first before now room w v (braked_of (unsigned_abs limits.axis.dmax) (unsigned_abs limits.jmax) w v) ok at safe
          (λ there. stops_down n limits before now (now -ℤ pos (braked_of (unsigned_abs limits.axis.dmax) (unsigned_abs limits.jmax) w v))
          (room - braked_of (unsigned_abs limits.axis.dmax) (unsigned_abs limits.jmax) w v) v (braked_of (unsigned_abs limits.axis.dmax) (unsigned_abs limits.jmax) w v) ok there safe.after.kept
          (less _ _ n (braking_falls (unsigned_abs limits.axis.dmax) (unsigned_abs limits.jmax) w v (omega (arith, ints)) (omega (arith, ints)) moves) enough))
      | inr rests ↦ ends_down limits first before now room w v ok at kept (omega arith)
    ]
  where
    less : (a b n : ℕ) → a ≤ b - 1 → b ≤ suc n → a ≤ n
    less a b n h most = omega arith

-- the sizes of an admissible setpoint that isn't above
pub record GoesDown (limits : JerkLimits) (first before now next : ℤ) (room w v x : ℕ) : Type 0 where
  pub is : (now -ℤ next) ≡ pos x
  pub bends : 2 * v ≤ x + w + unsigned_abs limits.jmax
  pub rises : x + w ≤ 2 * v + unsigned_abs limits.jmax
  pub within : x ≤ room
  pub slow : x ≤ unsigned_abs limits.axis.vmax
  pub gains : x ≤ v + unsigned_abs limits.axis.amax
  pub loses : v ≤ x + unsigned_abs limits.axis.dmax

pub goes_down : (limits : JerkLimits) (first before now next : ℤ) (room w v : ℕ) → AreJerkLimits limits →
    IsDown limits first before now room w v → next ≤ℤ now → IsAdmissibleByJerk limits first before now next →
    GoesDown limits first before now next room w v (unsigned_abs (now -ℤ next))
goes_down limits first before now next room w v ok at up admissible =
    let axis : AreLimits limits.axis = ok.axis in
    let jmax : pos 2 ≤ℤ limits.jmax = ok.jmax_least in
    let last : (first -ℤ before) ≡ pos w = at.last in
    let speed : (before -ℤ now) ≡ pos v = at.speed in
    let rest : (now -ℤ limits.axis.lo) ≡ pos room = at.room_is in
    let above : limits.axis.lo ≤ℤ next = admissible.admissible.above in
    let slow : pos (unsigned_abs (next -ℤ now)) ≤ℤ limits.axis.vmax = admissible.admissible.speed in
    let falls : least_step_after limits.axis (now -ℤ before) ≤ℤ (next -ℤ now) = admissible.admissible.falls in
    let rises : (next -ℤ now) ≤ℤ greatest_step_after limits.axis (now -ℤ before) = admissible.admissible.rises in
    let jerk : pos (unsigned_abs ((next -ℤ now) -ℤ (now -ℤ before) -ℤ ((now -ℤ before) -ℤ (before -ℤ first)))) ≤ℤ limits.jmax = admissible.jerk in
    record {
      is = omega (arith, ints);
      bends = omega (arith, ints);
      rises = omega (arith, ints);
      within = omega (arith, ints);
      slow = omega (arith, ints);
      gains = omega (arith, ints, clamps);
      loses = omega (arith, ints, clamps);
    }

-- a motion that some list stops without rising is kept
pub kept_of_stops_down : (limits : JerkLimits) (first before now : ℤ) (room w v : ℕ) (setpoints : List ℤ) → AreJerkLimits limits →
    IsDown limits first before now room w v → v ≤ unsigned_abs limits.axis.vmax → v ≤ w + unsigned_abs limits.axis.amax →
    w ≤ v + unsigned_abs limits.axis.dmax → StopsByJerk limits first before now setpoints → AllFall now setpoints →
    IsKeptBy (rates_of limits) room w v
kept_of_stops_down limits first before now room w v [] ok at slow gains loses stops rises =
    let axis : AreLimits limits.axis = ok.axis in
    let jmax : pos 2 ≤ℤ limits.jmax = ok.jmax_least in
    let last : (first -ℤ before) ≡ pos w = at.last in
    let speed : (before -ℤ now) ≡ pos v = at.speed in
    let same : first ≡ before = stops.0 in
    let still : before ≡ now = stops.1 in
    let none : w ≡ 0 = omega (arith, ints) in
    let rests : v ≡ 0 = omega (arith, ints) in
    rw (none, rests) (standing_kept _ _ _ _ room (omega (arith, ints)) (omega (arith, ints)))
kept_of_stops_down limits first before now room w v (next ∷ more) ok at slow gains loses stops rises =
    let axis : AreLimits limits.axis = ok.axis in
    let jmax : pos 2 ≤ℤ limits.jmax = ok.jmax_least in
    let goes : GoesDown limits first before now next room w v (unsigned_abs (now -ℤ next)) = goes_down limits first before now next room w v ok at rises.0 stops.0 in
    let later : IsKeptBy (rates_of limits) (room - unsigned_abs (now -ℤ next)) v (unsigned_abs (now -ℤ next)) =
    kept_of_stops_down limits before now next (room - unsigned_abs (now -ℤ next)) v (unsigned_abs (now -ℤ next)) more ok
    (down_next limits first before now next room w v (unsigned_abs (now -ℤ next)) at goes.within goes.is) goes.slow goes.gains goes.loses stops.1 rises.1 in
    kept_before _ _ _ _ room w v (unsigned_abs (now -ℤ next)) (omega (arith, ints)) (omega (arith, ints)) slow gains loses
    (record { bends = goes.bends; rises = goes.rises; after = record { within = goes.within; kept = later } })
