-- Safe setpoints upward and downward are the steps that are safe from the motion.
-- for: is_kept_counted, kept_motions_go_on, nearest_safe_counted and others
use Rattle.std.proofs.Common.{inl, inr, ◌≡◌, ◌⊎◌, ℕ, ◌+◌, ◌-◌, ◌*◌, ◌<◌, ◌≤◌, ℤ, pos, neg_ℤ, ◌+ℤ◌, ◌-ℤ◌, ◌<ℤ◌, ◌≤ℤ◌, unsigned_abs, arith}
use Rattle.std.proofs.lemmas.Int.{ints, clamps, by_lt_z}
use Rattle.motion_numbers.specs.declared.TheConstants.{MOST_STEP}
use Rattle.motion_numbers.specs.Run.{run_of}
use Rattle.motion_numbers.proofs.Runs.{run_ge}
use Rattle.plc_types.specs.Limits.{AreLimits}
use Rattle.jerk_core.specs.declared.limits.JerkLimits.{JerkLimits}
use Rattle.jerk_core.specs.declared.rates.JerkRates.{JerkRates}
use Rattle.jerk_core.specs.declared.motions.Motion.{Motion}
use Rattle.jerk_core.specs.Braking.{braked_of}
use Rattle.jerk_core.specs.Rates.{AreJerkRates, IsKeptBy, IsLeftBy, IsSafeBy}
use Rattle.jerk_core.specs.Admissible.{AreJerkLimits, IsBetween, IsAdmissibleByJerk, IsKeptByJerk, IsKeptUp, IsKeptDown, IsSafeByJerk, IsTakenByJerk, HasSafeSetpoint, rates_of}
use Rattle.jerk_core.specs.Taken.{IsSafeFrom, IsMotionUp, IsMotionDown}
use Rattle.jerk_core.specs.Taken.IsSafeFrom.{goes_on, turns}
use Rattle.jerk_core.proofs.KeptMotions.{braked_safe, standing_kept}
use Rattle.jerk_core.proofs.Directions.{IsUp, admissible_up, up_next, GoesUp, goes_up, IsDown, admissible_down, down_next, GoesDown, goes_down}
use Rattle.jerk_core.proofs.Kept.{sizes_up, sizes_down, kept_of_up, kept_of_down, ways_of_kept}

-- upward: a motion that is kept by sizes is kept by its setpoints
pub kept_up_of : (limits : JerkLimits) (first before now : ℤ) (room w v : ℕ) → IsUp limits first before now room w v →
    IsKeptBy (rates_of limits) room w v → IsKeptUp limits first before now
kept_up_of limits first before now room w v at kept =
    let last : (before -ℤ first) ≡ pos w = at.last in
    let speed : (now -ℤ before) ≡ pos v = at.speed in
    let rest : (limits.axis.hi -ℤ now) ≡ pos room = at.room_is in
    let room_same : unsigned_abs (limits.axis.hi -ℤ now) ≡ room = omega (arith, ints) in
    let last_same : unsigned_abs (before -ℤ first) ≡ w = omega (arith, ints) in
    let speed_same : unsigned_abs (now -ℤ before) ≡ v = omega (arith, ints) in
    record {
      rises = omega (arith, ints);
      rises_on = omega (arith, ints);
      kept = rw (room_same, last_same, speed_same) kept;
    }

-- and the other way round
pub kept_by_up : (limits : JerkLimits) (first before now : ℤ) (room w v : ℕ) → IsUp limits first before now room w v →
    IsKeptUp limits first before now → IsKeptBy (rates_of limits) room w v
kept_by_up limits first before now room w v at kept =
    let last : (before -ℤ first) ≡ pos w = at.last in
    let speed : (now -ℤ before) ≡ pos v = at.speed in
    let rest : (limits.axis.hi -ℤ now) ≡ pos room = at.room_is in
    let room_same : unsigned_abs (limits.axis.hi -ℤ now) ≡ room = omega (arith, ints) in
    let last_same : unsigned_abs (before -ℤ first) ≡ w = omega (arith, ints) in
    let speed_same : unsigned_abs (now -ℤ before) ≡ v = omega (arith, ints) in
    rw (room_same, last_same, speed_same) at kept.kept

-- downward: a motion that is kept by sizes is kept by its setpoints
pub kept_down_of : (limits : JerkLimits) (first before now : ℤ) (room w v : ℕ) → IsDown limits first before now room w v →
    IsKeptBy (rates_of limits) room w v → IsKeptDown limits first before now
kept_down_of limits first before now room w v at kept =
    let last : (first -ℤ before) ≡ pos w = at.last in
    let speed : (before -ℤ now) ≡ pos v = at.speed in
    let rest : (now -ℤ limits.axis.lo) ≡ pos room = at.room_is in
    let room_same : unsigned_abs (now -ℤ limits.axis.lo) ≡ room = omega (arith, ints) in
    let last_same : unsigned_abs (first -ℤ before) ≡ w = omega (arith, ints) in
    let speed_same : unsigned_abs (before -ℤ now) ≡ v = omega (arith, ints) in
    record {
      falls = omega (arith, ints);
      falls_on = omega (arith, ints);
      kept = rw (room_same, last_same, speed_same) kept;
    }

-- and the other way round
pub kept_by_down : (limits : JerkLimits) (first before now : ℤ) (room w v : ℕ) → IsDown limits first before now room w v →
    IsKeptDown limits first before now → IsKeptBy (rates_of limits) room w v
kept_by_down limits first before now room w v at kept =
    let last : (first -ℤ before) ≡ pos w = at.last in
    let speed : (before -ℤ now) ≡ pos v = at.speed in
    let rest : (now -ℤ limits.axis.lo) ≡ pos room = at.room_is in
    let room_same : unsigned_abs (now -ℤ limits.axis.lo) ≡ room = omega (arith, ints) in
    let last_same : unsigned_abs (first -ℤ before) ≡ w = omega (arith, ints) in
    let speed_same : unsigned_abs (before -ℤ now) ≡ v = omega (arith, ints) in
    rw (room_same, last_same, speed_same) at kept.kept

-- the last change of a motion that stands can be taken back
last_small : (rates : JerkRates) (room w v : ℕ) → 0 < rates.j → v ≡ 0 → IsKeptBy rates room w v → w ≤ rates.j
last_small rates room w v some stands kept =
    let within : w - v - rates.j ≤ run_of (w - v - rates.j) rates.j = run_ge (w - v - rates.j) rates.j some in
    let lands : run_of (w - v - rates.j) rates.j ≤ v = kept.lands in
    omega arith

-- a motion that counts upward is there
pub up_of_motion : (limits : JerkLimits) (first before now : ℤ) (motion : Motion) → IsMotionUp limits first before now motion →
    IsUp limits first before now motion.ahead motion.last motion.speed
up_of_motion limits first before now motion counts =
    let behind : (now -ℤ limits.axis.lo) ≡ pos motion.behind = counts.behind in
    record {
      last = counts.last;
      speed = counts.speed;
      room_is = counts.ahead;
      other = omega (arith, ints);
    }

-- a safe speed ahead is a safe setpoint upward
safe_on_up : (limits : JerkLimits) (first before now next : ℤ) (room w v x : ℕ) → AreJerkLimits limits →
    IsUp limits first before now room w v → (next -ℤ now) ≡ pos x → IsSafeBy (rates_of limits) room w v x →
    IsSafeByJerk limits first before now next
safe_on_up limits first before now next room w v x ok at is safe =
    let admissible : IsAdmissibleByJerk limits first before now next = admissible_up limits first before now next room w v x ok at safe is in
    record {
      admissible = admissible;
      kept = kept_of_up limits before now next ok admissible.admissible.above admissible.admissible.below
          (kept_up_of limits before now next (room - x) v x (up_next limits first before now next room w v x at safe.after.within is) safe.after.kept);
    }

-- and one back is a safe setpoint downward
safe_back_up : (limits : JerkLimits) (first before now next : ℤ) (motion : Motion) (x : ℕ) → AreJerkLimits limits →
    IsMotionUp limits first before now motion → motion.speed ≡ 0 → (now -ℤ next) ≡ pos x → motion.last ≤ unsigned_abs limits.jmax →
    x ≤ motion.last + unsigned_abs limits.jmax → IsLeftBy (rates_of limits) motion.behind 0 x →
    IsSafeByJerk limits first before now next
safe_back_up limits first before now next motion x ok counts stands is small bends left =
    let axis : AreLimits limits.axis = ok.axis in
    let jmax : pos 2 ≤ℤ limits.jmax = ok.jmax_least in
    let last : (before -ℤ first) ≡ pos motion.last = counts.last in
    let speed : (now -ℤ before) ≡ pos motion.speed = counts.speed in
    let ahead : (limits.axis.hi -ℤ now) ≡ pos motion.ahead = counts.ahead in
    let behind : (now -ℤ limits.axis.lo) ≡ pos motion.behind = counts.behind in
    let within : x ≤ motion.behind = left.within in
    let slow : x ≤ unsigned_abs limits.axis.vmax = left.kept.speed in
    let gains : x ≤ 0 + unsigned_abs limits.axis.amax = left.kept.gains in
    let above : limits.axis.lo ≤ℤ next = omega (arith, ints) in
    let below : next ≤ℤ limits.axis.hi = omega (arith, ints) in
    record {
      admissible = record {
        admissible = record {
          above = above;
          below = below;
          speed = omega (arith, ints);
          falls = omega (arith, ints, clamps);
          rises = omega (arith, ints, clamps);
        };
        jerk = omega (arith, ints);
        turns = inr (omega (arith, ints), omega (arith, ints));
      };
      kept = kept_of_down limits before now next ok above below
          (kept_down_of limits before now next (motion.behind - x) 0 x (record {
            last = omega (arith, ints);
            speed = is;
            room_is = omega (arith, ints);
            other = below;
          }) left.kept);
    }

-- so a step that is safe from a motion upward is a safe setpoint
pub safe_of_from_up : (limits : JerkLimits) (first before now step : ℤ) (motion : Motion) → AreJerkLimits limits →
    IsMotionUp limits first before now motion → IsKeptBy (rates_of limits) motion.ahead motion.last motion.speed →
    IsSafeFrom (rates_of limits) motion step → IsSafeByJerk limits first before now (now +ℤ step)
safe_of_from_up limits first before now step motion ok counts kept (goes_on x is safe) =
    safe_on_up limits first before now (now +ℤ step) motion.ahead motion.last motion.speed x ok
    (up_of_motion limits first before now motion counts) (omega (arith, ints)) safe
safe_of_from_up limits first before now step motion ok counts kept (turns x is stands bends left) =
    let jmax : pos 2 ≤ℤ limits.jmax = ok.jmax_least in
    safe_back_up limits first before now (now +ℤ step) motion x ok counts stands (omega (arith, ints))
    (last_small (rates_of limits) motion.ahead motion.last motion.speed (omega (arith, ints)) stands kept) bends left

-- a safe setpoint that isn't below goes on
from_on_up : (limits : JerkLimits) (first before now next : ℤ) (room w v : ℕ) → AreJerkLimits limits →
    IsUp limits first before now room w v → now ≤ℤ next → IsSafeByJerk limits first before now next →
    IsSafeBy (rates_of limits) room w v (unsigned_abs (next -ℤ now))
from_on_up limits first before now next room w v ok at up safe =
    let goes : GoesUp limits first before now next room w v (unsigned_abs (next -ℤ now)) = goes_up limits first before now next room w v ok at up safe.admissible in
    let there : IsUp limits before now next (room - unsigned_abs (next -ℤ now)) v (unsigned_abs (next -ℤ now)) =
    up_next limits first before now next room w v (unsigned_abs (next -ℤ now)) at goes.within goes.is in
    record {
      bends = goes.bends;
      rises = goes.rises;
      after = record {
        within = goes.within;
        kept = by_way there (ways_of_kept limits before now next ok safe.kept);
      };
    }
  where
    by_way : IsUp limits before now next (room - unsigned_abs (next -ℤ now)) v (unsigned_abs (next -ℤ now)) →
        IsKeptUp limits before now next ⊎ IsKeptDown limits before now next →
        IsKeptBy (rates_of limits) (room - unsigned_abs (next -ℤ now)) v (unsigned_abs (next -ℤ now))
    by_way there (inl kept) = kept_by_up limits before now next _ _ _ there kept
    by_way there (inr kept) =
        let axis : AreLimits limits.axis = ok.axis in
        let jmax : pos 2 ≤ℤ limits.jmax = ok.jmax_least in
        let speed : (now -ℤ before) ≡ pos v = at.speed in
        let falls : now ≤ℤ before = kept.falls in
        let falls_on : next ≤ℤ now = kept.falls_on in
        let none : v ≡ 0 = omega (arith, ints) in
        let still : unsigned_abs (next -ℤ now) ≡ 0 = omega (arith, ints) in
        rw (none, still) (standing_kept _ _ _ _ (room - 0) (omega (arith, ints)) (omega (arith, ints)))

-- and one below turns
record TurnsDown (limits : JerkLimits) (motion : Motion) (next now : ℤ) : Type 0 where
  stands : motion.speed ≡ 0
  bends : unsigned_abs (now -ℤ next) ≤ motion.last + unsigned_abs limits.jmax
  left : IsLeftBy (rates_of limits) motion.behind 0 (unsigned_abs (now -ℤ next))

turns_down : (limits : JerkLimits) (first before now next : ℤ) (motion : Motion) → AreJerkLimits limits →
    IsMotionUp limits first before now motion → next <ℤ now → IsSafeByJerk limits first before now next →
    TurnsDown limits motion next now
turns_down limits first before now next motion ok counts down safe =
    let jmax : pos 2 ≤ℤ limits.jmax = ok.jmax_least in
    let last : (before -ℤ first) ≡ pos motion.last = counts.last in
    let speed : (now -ℤ before) ≡ pos motion.speed = counts.speed in
    let behind : (now -ℤ limits.axis.lo) ≡ pos motion.behind = counts.behind in
    let above : limits.axis.lo ≤ℤ next = safe.admissible.admissible.above in
    let jerk : pos (unsigned_abs ((next -ℤ now) -ℤ (now -ℤ before) -ℤ ((now -ℤ before) -ℤ (before -ℤ first)))) ≤ℤ limits.jmax = safe.admissible.jerk in
    let stands : motion.speed ≡ 0 = by_turn safe.admissible.turns in
    record {
      stands = stands;
      bends = omega (arith, ints);
      left = record {
        within = omega (arith, ints);
        kept = by_way stands (ways_of_kept limits before now next ok safe.kept);
      };
    }
  where
    by_turn : IsBetween before now next → motion.speed ≡ 0
    by_turn (inl on) = let rises : now ≤ℤ next = on.1 in absurd (omega (arith, ints))
    by_turn (inr back) = let falls : now ≤ℤ before = back.1 in let speed : (now -ℤ before) ≡ pos motion.speed = counts.speed in omega (arith, ints)

    by_way : motion.speed ≡ 0 → IsKeptUp limits before now next ⊎ IsKeptDown limits before now next →
        IsKeptBy (rates_of limits) (motion.behind - unsigned_abs (now -ℤ next)) 0 (unsigned_abs (now -ℤ next))
    by_way stands (inl kept) = let rises : now ≤ℤ next = kept.rises_on in absurd (omega (arith, ints))
    by_way stands (inr kept) =
        let speed : (now -ℤ before) ≡ pos motion.speed = counts.speed in
        let behind : (now -ℤ limits.axis.lo) ≡ pos motion.behind = counts.behind in
        let above : limits.axis.lo ≤ℤ next = safe.admissible.admissible.above in
        kept_by_down limits before now next (motion.behind - unsigned_abs (now -ℤ next)) 0 (unsigned_abs (now -ℤ next))
        (record {
          last = omega (arith, ints);
          speed = omega (arith, ints);
          room_is = omega (arith, ints);
          other = safe.admissible.admissible.below;
        }) kept

-- so a safe setpoint is a step that is safe from the motion
pub from_of_safe_up : (limits : JerkLimits) (first before now step : ℤ) (motion : Motion) → AreJerkLimits limits →
    IsMotionUp limits first before now motion → IsSafeByJerk limits first before now (now +ℤ step) → IsSafeFrom (rates_of limits) motion step
from_of_safe_up limits first before now step motion ok counts safe =
    by_lt_z (now +ℤ step) now
    (λ down. let turned : TurnsDown limits motion (now +ℤ step) now = turns_down limits first before now (now +ℤ step) motion ok counts down safe in
    turns (unsigned_abs (now -ℤ (now +ℤ step))) (omega (arith, ints)) turned.stands turned.bends turned.left)
    (λ up. goes_on (unsigned_abs ((now +ℤ step) -ℤ now)) (omega (arith, ints))
    (from_on_up limits first before now (now +ℤ step) motion.ahead motion.last motion.speed ok (up_of_motion limits first before now motion counts) up safe))

-- a motion that counts downward is there
pub down_of_motion : (limits : JerkLimits) (first before now : ℤ) (motion : Motion) → IsMotionDown limits first before now motion →
    IsDown limits first before now motion.ahead motion.last motion.speed
down_of_motion limits first before now motion counts =
    let behind : (limits.axis.hi -ℤ now) ≡ pos motion.behind = counts.behind in
    record {
      last = counts.last;
      speed = counts.speed;
      room_is = counts.ahead;
      other = omega (arith, ints);
    }

-- a safe speed ahead is a safe setpoint downward
safe_on_down : (limits : JerkLimits) (first before now next : ℤ) (room w v x : ℕ) → AreJerkLimits limits →
    IsDown limits first before now room w v → (now -ℤ next) ≡ pos x → IsSafeBy (rates_of limits) room w v x →
    IsSafeByJerk limits first before now next
safe_on_down limits first before now next room w v x ok at is safe =
    let admissible : IsAdmissibleByJerk limits first before now next = admissible_down limits first before now next room w v x ok at safe is in
    record {
      admissible = admissible;
      kept = kept_of_down limits before now next ok admissible.admissible.above admissible.admissible.below
          (kept_down_of limits before now next (room - x) v x (down_next limits first before now next room w v x at safe.after.within is) safe.after.kept);
    }

-- and one back is a safe setpoint upward
safe_back_down : (limits : JerkLimits) (first before now next : ℤ) (motion : Motion) (x : ℕ) → AreJerkLimits limits →
    IsMotionDown limits first before now motion → motion.speed ≡ 0 → (next -ℤ now) ≡ pos x → motion.last ≤ unsigned_abs limits.jmax →
    x ≤ motion.last + unsigned_abs limits.jmax → IsLeftBy (rates_of limits) motion.behind 0 x →
    IsSafeByJerk limits first before now next
safe_back_down limits first before now next motion x ok counts stands is small bends left =
    let axis : AreLimits limits.axis = ok.axis in
    let jmax : pos 2 ≤ℤ limits.jmax = ok.jmax_least in
    let last : (first -ℤ before) ≡ pos motion.last = counts.last in
    let speed : (before -ℤ now) ≡ pos motion.speed = counts.speed in
    let ahead : (now -ℤ limits.axis.lo) ≡ pos motion.ahead = counts.ahead in
    let behind : (limits.axis.hi -ℤ now) ≡ pos motion.behind = counts.behind in
    let within : x ≤ motion.behind = left.within in
    let slow : x ≤ unsigned_abs limits.axis.vmax = left.kept.speed in
    let gains : x ≤ 0 + unsigned_abs limits.axis.amax = left.kept.gains in
    let below : next ≤ℤ limits.axis.hi = omega (arith, ints) in
    let above : limits.axis.lo ≤ℤ next = omega (arith, ints) in
    record {
      admissible = record {
        admissible = record {
          below = below;
          above = above;
          speed = omega (arith, ints);
          rises = omega (arith, ints, clamps);
          falls = omega (arith, ints, clamps);
        };
        jerk = omega (arith, ints);
        turns = inl (omega (arith, ints), omega (arith, ints));
      };
      kept = kept_of_up limits before now next ok above below
          (kept_up_of limits before now next (motion.behind - x) 0 x (record {
            last = omega (arith, ints);
            speed = is;
            room_is = omega (arith, ints);
            other = above;
          }) left.kept);
    }

-- so a step that is safe from a motion downward is a safe setpoint
pub safe_of_from_down : (limits : JerkLimits) (first before now step : ℤ) (motion : Motion) → AreJerkLimits limits →
    IsMotionDown limits first before now motion → IsKeptBy (rates_of limits) motion.ahead motion.last motion.speed →
    IsSafeFrom (rates_of limits) motion step → IsSafeByJerk limits first before now (now -ℤ step)
safe_of_from_down limits first before now step motion ok counts kept (goes_on x is safe) =
    safe_on_down limits first before now (now -ℤ step) motion.ahead motion.last motion.speed x ok
    (down_of_motion limits first before now motion counts) (omega (arith, ints)) safe
safe_of_from_down limits first before now step motion ok counts kept (turns x is stands bends left) =
    let jmax : pos 2 ≤ℤ limits.jmax = ok.jmax_least in
    safe_back_down limits first before now (now -ℤ step) motion x ok counts stands (omega (arith, ints))
    (last_small (rates_of limits) motion.ahead motion.last motion.speed (omega (arith, ints)) stands kept) bends left

-- a safe setpoint that isn't above goes on
from_on_down : (limits : JerkLimits) (first before now next : ℤ) (room w v : ℕ) → AreJerkLimits limits →
    IsDown limits first before now room w v → next ≤ℤ now → IsSafeByJerk limits first before now next →
    IsSafeBy (rates_of limits) room w v (unsigned_abs (now -ℤ next))
from_on_down limits first before now next room w v ok at up safe =
    let goes : GoesDown limits first before now next room w v (unsigned_abs (now -ℤ next)) = goes_down limits first before now next room w v ok at up safe.admissible in
    let there : IsDown limits before now next (room - unsigned_abs (now -ℤ next)) v (unsigned_abs (now -ℤ next)) =
    down_next limits first before now next room w v (unsigned_abs (now -ℤ next)) at goes.within goes.is in
    record {
      bends = goes.bends;
      rises = goes.rises;
      after = record {
        within = goes.within;
        kept = by_way there (ways_of_kept limits before now next ok safe.kept);
      };
    }
  where
    by_way : IsDown limits before now next (room - unsigned_abs (now -ℤ next)) v (unsigned_abs (now -ℤ next)) →
        IsKeptUp limits before now next ⊎ IsKeptDown limits before now next →
        IsKeptBy (rates_of limits) (room - unsigned_abs (now -ℤ next)) v (unsigned_abs (now -ℤ next))
    by_way there (inr kept) = kept_by_down limits before now next _ _ _ there kept
    by_way there (inl kept) =
        let axis : AreLimits limits.axis = ok.axis in
        let jmax : pos 2 ≤ℤ limits.jmax = ok.jmax_least in
        let speed : (before -ℤ now) ≡ pos v = at.speed in
        let falls : before ≤ℤ now = kept.rises in
        let falls_on : now ≤ℤ next = kept.rises_on in
        let none : v ≡ 0 = omega (arith, ints) in
        let still : unsigned_abs (now -ℤ next) ≡ 0 = omega (arith, ints) in
        rw (none, still) (standing_kept _ _ _ _ (room - 0) (omega (arith, ints)) (omega (arith, ints)))

-- and one above turns
record TurnsUp (limits : JerkLimits) (motion : Motion) (next now : ℤ) : Type 0 where
  stands : motion.speed ≡ 0
  bends : unsigned_abs (next -ℤ now) ≤ motion.last + unsigned_abs limits.jmax
  left : IsLeftBy (rates_of limits) motion.behind 0 (unsigned_abs (next -ℤ now))

turns_up : (limits : JerkLimits) (first before now next : ℤ) (motion : Motion) → AreJerkLimits limits →
    IsMotionDown limits first before now motion → now <ℤ next → IsSafeByJerk limits first before now next →
    TurnsUp limits motion next now
turns_up limits first before now next motion ok counts down safe =
    let jmax : pos 2 ≤ℤ limits.jmax = ok.jmax_least in
    let last : (first -ℤ before) ≡ pos motion.last = counts.last in
    let speed : (before -ℤ now) ≡ pos motion.speed = counts.speed in
    let behind : (limits.axis.hi -ℤ now) ≡ pos motion.behind = counts.behind in
    let below : next ≤ℤ limits.axis.hi = safe.admissible.admissible.below in
    let jerk : pos (unsigned_abs ((next -ℤ now) -ℤ (now -ℤ before) -ℤ ((now -ℤ before) -ℤ (before -ℤ first)))) ≤ℤ limits.jmax = safe.admissible.jerk in
    let stands : motion.speed ≡ 0 = by_turn safe.admissible.turns in
    record {
      stands = stands;
      bends = omega (arith, ints);
      left = record {
        within = omega (arith, ints);
        kept = by_way stands (ways_of_kept limits before now next ok safe.kept);
      };
    }
  where
    by_turn : IsBetween before now next → motion.speed ≡ 0
    by_turn (inr on) = let rises : next ≤ℤ now = on.0 in absurd (omega (arith, ints))
    by_turn (inl back) = let falls : before ≤ℤ now = back.0 in let speed : (before -ℤ now) ≡ pos motion.speed = counts.speed in omega (arith, ints)

    by_way : motion.speed ≡ 0 → IsKeptUp limits before now next ⊎ IsKeptDown limits before now next →
        IsKeptBy (rates_of limits) (motion.behind - unsigned_abs (next -ℤ now)) 0 (unsigned_abs (next -ℤ now))
    by_way stands (inr kept) = let rises : next ≤ℤ now = kept.falls_on in absurd (omega (arith, ints))
    by_way stands (inl kept) =
        let speed : (before -ℤ now) ≡ pos motion.speed = counts.speed in
        let behind : (limits.axis.hi -ℤ now) ≡ pos motion.behind = counts.behind in
        let below : next ≤ℤ limits.axis.hi = safe.admissible.admissible.below in
        kept_by_up limits before now next (motion.behind - unsigned_abs (next -ℤ now)) 0 (unsigned_abs (next -ℤ now))
        (record {
          last = omega (arith, ints);
          speed = omega (arith, ints);
          room_is = omega (arith, ints);
          other = safe.admissible.admissible.above;
        }) kept

-- so a safe setpoint is a step that is safe from the motion
pub from_of_safe_down : (limits : JerkLimits) (first before now step : ℤ) (motion : Motion) → AreJerkLimits limits →
    IsMotionDown limits first before now motion → IsSafeByJerk limits first before now (now -ℤ step) → IsSafeFrom (rates_of limits) motion step
from_of_safe_down limits first before now step motion ok counts safe =
    by_lt_z now (now -ℤ step)
    (λ down. let turned : TurnsUp limits motion (now -ℤ step) now = turns_up limits first before now (now -ℤ step) motion ok counts down safe in
    turns (unsigned_abs ((now -ℤ step) -ℤ now)) (omega (arith, ints)) turned.stands turned.bends turned.left)
    (λ up. goes_on (unsigned_abs (now -ℤ (now -ℤ step))) (omega (arith, ints))
    (from_on_down limits first before now (now -ℤ step) motion.ahead motion.last motion.speed ok (down_of_motion limits first before now motion counts) up safe))

-- three setpoints that are kept and rise make a kept motion
pub kept_motion_up : (limits : JerkLimits) (first before now : ℤ) (motion : Motion) → AreJerkLimits limits → IsKeptByJerk limits first before now →
    first ≤ℤ before → before ≤ℤ now → IsMotionUp limits first before now motion → IsKeptBy (rates_of limits) motion.ahead motion.last motion.speed
kept_motion_up limits first before now motion ok kept rises on counts = by_way (ways_of_kept limits first before now ok kept)
  where
    by_way : IsKeptUp limits first before now ⊎ IsKeptDown limits first before now → IsKeptBy (rates_of limits) motion.ahead motion.last motion.speed
    by_way (inl up) = kept_by_up limits first before now _ _ _ (up_of_motion limits first before now motion counts) up
    by_way (inr down) =
        let axis : AreLimits limits.axis = ok.axis in
        let jmax : pos 2 ≤ℤ limits.jmax = ok.jmax_least in
        let last : (before -ℤ first) ≡ pos motion.last = counts.last in
        let speed : (now -ℤ before) ≡ pos motion.speed = counts.speed in
        let falls : before ≤ℤ first = down.falls in
        let falls_on : now ≤ℤ before = down.falls_on in
        let none : motion.last ≡ 0 = omega (arith, ints) in
        let still : motion.speed ≡ 0 = omega (arith, ints) in
        rw (none, still) (standing_kept _ _ _ _ motion.ahead (omega (arith, ints)) (omega (arith, ints)))

-- those that don't rise fall
pub record Falls (first before now : ℤ) : Type 0 where
  pub falls : before ≤ℤ first
  pub falls_on : now ≤ℤ before

pub falls_else : (limits : JerkLimits) (first before now : ℤ) → AreJerkLimits limits → IsKeptByJerk limits first before now →
    (first ≤ℤ before → before ≤ℤ now → ⊥) → Falls first before now
falls_else limits first before now ok kept not_up = by_way (ways_of_kept limits first before now ok kept)
  where
    by_way : IsKeptUp limits first before now ⊎ IsKeptDown limits first before now → Falls first before now
    by_way (inl up) = absurd (not_up up.rises up.rises_on)
    by_way (inr down) = record { falls = down.falls; falls_on = down.falls_on }

-- and make a kept motion
pub kept_motion_down : (limits : JerkLimits) (first before now : ℤ) (motion : Motion) → AreJerkLimits limits → IsKeptByJerk limits first before now →
    (first ≤ℤ before → before ≤ℤ now → ⊥) → IsMotionDown limits first before now motion → IsKeptBy (rates_of limits) motion.ahead motion.last motion.speed
kept_motion_down limits first before now motion ok kept not_up counts = by_way (ways_of_kept limits first before now ok kept)
  where
    by_way : IsKeptUp limits first before now ⊎ IsKeptDown limits first before now → IsKeptBy (rates_of limits) motion.ahead motion.last motion.speed
    by_way (inl up) = absurd (not_up up.rises up.rises_on)
    by_way (inr down) = kept_by_down limits first before now _ _ _ (down_of_motion limits first before now motion counts) down

-- the last speed of a kept motion is at most twice the greatest step
pub last_most : (rates : JerkRates) (room w v : ℕ) → AreJerkRates rates → IsKeptBy rates room w v → w ≤ 2 * MOST_STEP
last_most rates room w v ok kept =
    let slow : v ≤ rates.v = kept.speed in
    let loses : w ≤ v + rates.d = kept.loses in
    let fast : rates.v ≤ MOST_STEP = ok.v_most in
    let hard : rates.d ≤ MOST_STEP = ok.d_most in
    omega arith

-- upward the nearest safe step is the taken one
pub taken_up : (limits : JerkLimits) (first before now wanted step : ℤ) (motion : Motion) → AreJerkLimits limits → IsKeptByJerk limits first before now →
    first ≤ℤ before → before ≤ℤ now → IsMotionUp limits first before now motion → IsSafeFrom (rates_of limits) motion step →
    ((other : ℤ) → IsSafeFrom (rates_of limits) motion other → unsigned_abs (step -ℤ wanted) ≤ unsigned_abs (other -ℤ wanted)) →
    IsTakenByJerk limits first before now wanted step
taken_up limits first before now wanted step motion ok kept rises on counts safe nearest = record {
  safe = safe_of_from_up limits first before now step motion ok counts (kept_motion_up limits first before now motion ok kept rises on counts) safe;
  nearest = λ other other_safe. nearest other (from_of_safe_up limits first before now other motion ok counts other_safe);
}

-- and downward its opposite
pub taken_down : (limits : JerkLimits) (first before now wanted step : ℤ) (motion : Motion) → AreJerkLimits limits → IsKeptByJerk limits first before now →
    (first ≤ℤ before → before ≤ℤ now → ⊥) → IsMotionDown limits first before now motion → IsSafeFrom (rates_of limits) motion step →
    ((other : ℤ) → IsSafeFrom (rates_of limits) motion other → unsigned_abs (step -ℤ neg_ℤ wanted) ≤ unsigned_abs (other -ℤ neg_ℤ wanted)) →
    IsTakenByJerk limits first before now wanted (neg_ℤ step)
taken_down limits first before now wanted step motion ok kept not_up counts safe nearest = record {
  safe = safe_of_from_down limits first before now step motion ok counts (kept_motion_down limits first before now motion ok kept not_up counts) safe;
  nearest = λ other other_safe.
      let same : (now +ℤ other) ≡ (now -ℤ neg_ℤ other) = omega (arith, ints) in
      let from : IsSafeFrom (rates_of limits) motion (neg_ℤ other) =
      from_of_safe_down limits first before now (neg_ℤ other) motion ok counts (rw same at other_safe) in
      let near : unsigned_abs (step -ℤ neg_ℤ wanted) ≤ unsigned_abs (neg_ℤ other -ℤ neg_ℤ wanted) = nearest (neg_ℤ other) from in
      omega (arith, ints);
}

-- from a motion kept upward braking is safe
safe_braking_up : (limits : JerkLimits) (first before now : ℤ) → AreJerkLimits limits → IsKeptByJerk limits first before now →
    IsKeptUp limits first before now → HasSafeSetpoint limits first before now
safe_braking_up limits first before now ok kept up =
    let axis : AreLimits limits.axis = ok.axis in
    let jmax : pos 2 ≤ℤ limits.jmax = ok.jmax_least in
    let at : IsUp limits first before now (unsigned_abs (limits.axis.hi -ℤ now)) (unsigned_abs (before -ℤ first)) (unsigned_abs (now -ℤ before)) =
    sizes_up limits first before now up.rises up.rises_on kept.above kept.below in
    record {
      setpoint = now +ℤ pos (braked_of (unsigned_abs limits.axis.dmax) (unsigned_abs limits.jmax) (unsigned_abs (before -ℤ first)) (unsigned_abs (now -ℤ before)));
      safe = safe_on_up limits first before now _ _ _ _ _ ok at (omega (arith, ints))
          (braked_safe _ _ _ _ _ _ _ (omega (arith, ints)) (omega (arith, ints)) up.kept);
    }

-- and downward
safe_braking_down : (limits : JerkLimits) (first before now : ℤ) → AreJerkLimits limits → IsKeptByJerk limits first before now →
    IsKeptDown limits first before now → HasSafeSetpoint limits first before now
safe_braking_down limits first before now ok kept down =
    let axis : AreLimits limits.axis = ok.axis in
    let jmax : pos 2 ≤ℤ limits.jmax = ok.jmax_least in
    let at : IsDown limits first before now (unsigned_abs (now -ℤ limits.axis.lo)) (unsigned_abs (first -ℤ before)) (unsigned_abs (before -ℤ now)) =
    sizes_down limits first before now down.falls down.falls_on kept.above kept.below in
    record {
      setpoint = now -ℤ pos (braked_of (unsigned_abs limits.axis.dmax) (unsigned_abs limits.jmax) (unsigned_abs (first -ℤ before)) (unsigned_abs (before -ℤ now)));
      safe = safe_on_down limits first before now _ _ _ _ _ ok at (omega (arith, ints))
          (braked_safe _ _ _ _ _ _ _ (omega (arith, ints)) (omega (arith, ints)) down.kept);
    }

-- so some setpoint is always safe
pub safe_setpoint : (limits : JerkLimits) (first before now : ℤ) → AreJerkLimits limits → IsKeptByJerk limits first before now →
    HasSafeSetpoint limits first before now
safe_setpoint limits first before now ok kept = by_way (ways_of_kept limits first before now ok kept)
  where
    by_way : IsKeptUp limits first before now ⊎ IsKeptDown limits first before now → HasSafeSetpoint limits first before now
    by_way (inl up) = safe_braking_up limits first before now ok kept up
    by_way (inr down) = safe_braking_down limits first before now ok kept down

-- and standing is kept
pub standing_by_jerk : (limits : JerkLimits) (now : ℤ) → AreJerkLimits limits → limits.axis.lo ≤ℤ now → now ≤ℤ limits.axis.hi →
    IsKeptByJerk limits now now now
standing_by_jerk limits now ok above below =
    let axis : AreLimits limits.axis = ok.axis in
    let jmax : pos 2 ≤ℤ limits.jmax = ok.jmax_least in
    kept_of_up limits now now now ok above below
    (kept_up_of limits now now now (unsigned_abs (limits.axis.hi -ℤ now)) 0 0
    (record { last = omega (arith, ints); speed = omega (arith, ints); room_is = omega (arith, ints); other = above })
    (standing_kept _ _ _ _ _ (omega (arith, ints)) (omega (arith, ints))))

-- setpoints that make a kept motion upward are kept
pub kept_by_motion_up : (limits : JerkLimits) (first before now : ℤ) (motion : Motion) → AreJerkLimits limits → limits.axis.lo ≤ℤ now → now ≤ℤ limits.axis.hi →
    IsMotionUp limits first before now motion → IsKeptBy (rates_of limits) motion.ahead motion.last motion.speed → IsKeptByJerk limits first before now
kept_by_motion_up limits first before now motion ok above below counts kept =
    kept_of_up limits first before now ok above below
    (kept_up_of limits first before now motion.ahead motion.last motion.speed (up_of_motion limits first before now motion counts) kept)

-- and downward
pub kept_by_motion_down : (limits : JerkLimits) (first before now : ℤ) (motion : Motion) → AreJerkLimits limits → limits.axis.lo ≤ℤ now → now ≤ℤ limits.axis.hi →
    IsMotionDown limits first before now motion → IsKeptBy (rates_of limits) motion.ahead motion.last motion.speed → IsKeptByJerk limits first before now
kept_by_motion_down limits first before now motion ok above below counts kept =
    kept_of_down limits first before now ok above below
    (kept_down_of limits first before now motion.ahead motion.last motion.speed (down_of_motion limits first before now motion counts) kept)
