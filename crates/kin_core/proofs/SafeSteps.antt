-- The safe steps of a kept pair are an interval, and the taken step is the wanted one cut to it.
-- for: nearest_safe, taken_steps_keep_for_ever
use Rattle.std.proofs.Common.{◌≡◌, ℕ, ◌+◌, ◌-◌, ◌<◌, ◌≤◌, ℤ, pos, neg_ℤ, ◌+ℤ◌, ◌-ℤ◌, ◌≤ℤ◌, unsigned_abs, List, [], ◌∷◌, inl, inr, ◌∙◌, ap, arith}
use Rattle.std.specs.Int.{int_min, int_max}
use Rattle.std.proofs.lemmas.Int.{ints, clamps, by_lt_z}
use Rattle.std.proofs.lemmas.Bool.{cases_lt}
use Rattle.plc_types.specs.declared.limits.Limits.{Limits}
use Rattle.motion_numbers.specs.Run.{run_of, reach_of, cut_at_zero}
use Rattle.plc_types.specs.Limits.{AreLimits}
use Rattle.kin_core.specs.Admissible.{IsAdmissible, IsSafe, IsKept, IsTakenStep, AllKept, least_step_after, greatest_step_after}
use Rattle.kin_core.specs.Taken.{least_safe_of, greatest_safe_of, taken_step_of, setpoints_of}
use Rattle.kin_core.specs.Toward.{toward_zero}
use Rattle.kin_core.proofs.Sizes.{cut_is}
use Rattle.kin_core.proofs.TowardZero.{toward_zero-ahead, toward_zero-turned}
use Rattle.kin_core.proofs.Cuts.{cut_twice}
use Rattle.kin_core.proofs.Stops.{WaysFit, ways_of_stoppable, stoppable_of_ways}
use Rattle.motion_numbers.specs.Laws.{AreWays}

-- what a safe step keeps, bound by bound
pub record IsWithin (limits : Limits) (before now step : ℤ) : Type 0 where
  pub slow : pos (unsigned_abs step) ≤ℤ limits.vmax
  pub falls : least_step_after limits (now -ℤ before) ≤ℤ step
  pub rises : step ≤ℤ greatest_step_after limits (now -ℤ before)
  pub up : cut_at_zero step ≤ reach_of (unsigned_abs (limits.hi -ℤ now)) (unsigned_abs limits.dmax)
  pub down : cut_at_zero (neg_ℤ step) ≤ reach_of (unsigned_abs (now -ℤ limits.lo)) (unsigned_abs limits.dmax)

-- above three bounds
above_three : (a b c x : ℤ) → a ≤ℤ x → b ≤ℤ x → c ≤ℤ x → int_max (int_max a b) c ≤ℤ x
above_three a b c x p q r = omega (arith, ints, clamps)

three_above : (a b c x : ℤ) → int_max (int_max a b) c ≤ℤ x → (a ≤ℤ x) × (b ≤ℤ x) × (c ≤ℤ x)
three_above a b c x h = (omega (arith, ints, clamps), omega (arith, ints, clamps), omega (arith, ints, clamps))

-- below three bounds
below_three : (a b c x : ℤ) → x ≤ℤ a → x ≤ℤ b → x ≤ℤ c → x ≤ℤ int_min (int_min a b) c
below_three a b c x p q r = omega (arith, ints, clamps)

three_below : (a b c x : ℤ) → x ≤ℤ int_min (int_min a b) c → (x ≤ℤ a) × (x ≤ℤ b) × (x ≤ℤ c)
three_below a b c x h = (omega (arith, ints, clamps), omega (arith, ints, clamps), omega (arith, ints, clamps))

-- a bound on the size, as bounds on either side
within_speed : (speed step : ℤ) → pos (unsigned_abs step) ≤ℤ speed → step ≤ℤ speed
within_speed speed step h = omega (arith, ints)

above_speed : (speed step : ℤ) → pos (unsigned_abs step) ≤ℤ speed → neg_ℤ speed ≤ℤ step
above_speed speed step h = omega (arith, ints)

-- the ends, bound by bound
least_parts : (limits : Limits) (before now step : ℤ) → least_safe_of limits before now ≤ℤ step →
    (neg_ℤ limits.vmax ≤ℤ step) × (least_step_after limits (now -ℤ before) ≤ℤ step) × (neg_ℤ (pos (reach_of (unsigned_abs (now -ℤ limits.lo)) (unsigned_abs limits.dmax))) ≤ℤ step)
unfolding least_safe_of
least_parts limits before now step h = three_above _ _ _ _ h

greatest_parts : (limits : Limits) (before now step : ℤ) → step ≤ℤ greatest_safe_of limits before now →
    (step ≤ℤ limits.vmax) × (step ≤ℤ greatest_step_after limits (now -ℤ before)) × (step ≤ℤ pos (reach_of (unsigned_abs (limits.hi -ℤ now)) (unsigned_abs limits.dmax)))
unfolding greatest_safe_of
greatest_parts limits before now step h = three_below _ _ _ _ h

-- bounds of a step by another name
above_same : (a x y : ℤ) → x ≡ y → a ≤ℤ x → a ≤ℤ y
above_same a x y same h = omega (arith, ints)

below_same : (a x y : ℤ) → x ≡ y → x ≤ℤ a → y ≤ℤ a
below_same a x y same h = omega (arith, ints)

-- a wanted step cut to an interval is in it, and nearest to the wanted one
cut_above : (low high wanted : ℤ) → low ≤ℤ int_max low (int_min high wanted)
cut_above low high wanted = omega (arith, ints, clamps)

cut_below : (low high wanted : ℤ) → low ≤ℤ high → int_max low (int_min high wanted) ≤ℤ high
cut_below low high wanted order = omega (arith, ints, clamps)

cut_nearest : (low high wanted other : ℤ) → low ≤ℤ other → other ≤ℤ high → unsigned_abs (int_max low (int_min high wanted) -ℤ wanted) ≤ unsigned_abs (other -ℤ wanted)
cut_nearest low high wanted other above below = omega (arith, ints, clamps)

cut_only : (low high wanted other : ℤ) → low ≤ℤ other → other ≤ℤ high → unsigned_abs (other -ℤ wanted) ≤ unsigned_abs (int_max low (int_min high wanted) -ℤ wanted) → other ≡ int_max low (int_min high wanted)
cut_only low high wanted other above below near = omega (arith, ints, clamps)

cut_exact : (low high wanted : ℤ) → low ≤ℤ wanted → wanted ≤ℤ high → int_max low (int_min high wanted) ≡ wanted
cut_exact low high wanted above below = omega (arith, ints, clamps)

-- a safe setpoint leaves a kept pair
pub safe_keeps : (limits : Limits) (before now next : ℤ) → IsSafe limits before now next → IsKept limits now next
safe_keeps limits before now next safe = record {
  above = safe.admissible.above;
  below = safe.admissible.below;
  speed = safe.admissible.speed;
  stoppable = safe.stoppable;
}

-- what is known of the taken step
pub record IsNearestSafe (limits : Limits) (before now wanted step : ℤ) : Type 0 where
  pub taken : IsTakenStep limits before now wanted step
  pub admissible : IsAdmissible limits before now (now +ℤ step)
  pub kept : IsKept limits now (now +ℤ step)
  pub exact : IsSafe limits before now (now +ℤ wanted) → step ≡ wanted

module _ (ways : AreWays) where
  open ways use {fits_below_reach, reach_greatest, run_ge, run_unfold, run_zero}

  within_reach : (reach : ℕ) (step : ℤ) → cut_at_zero step ≤ reach → step ≤ℤ pos reach
  within_reach reach step h = omega (arith, ints, cut_is ways)

  above_reach : (reach : ℕ) (step : ℤ) → cut_at_zero (neg_ℤ step) ≤ reach → neg_ℤ (pos reach) ≤ℤ step
  above_reach reach step h = omega (arith, ints, cut_is ways)

  -- a step that keeps every bound lies between the ends
  least_of_within : (limits : Limits) (before now step : ℤ) → IsWithin limits before now step → least_safe_of limits before now ≤ℤ step
  unfolding least_safe_of
  least_of_within limits before now step within = above_three _ _ _ _ (above_speed _ _ within.slow) within.falls
      (above_reach _ _ within.down)

  greatest_of_within : (limits : Limits) (before now step : ℤ) → IsWithin limits before now step → step ≤ℤ greatest_safe_of limits before now
  unfolding greatest_safe_of
  greatest_of_within limits before now step within = below_three _ _ _ _ (within_speed _ _ within.slow) within.rises
      (within_reach _ _ within.up)

  -- a step between the ends keeps every bound
  within_of_between : (limits : Limits) (before now step : ℤ) → least_safe_of limits before now ≤ℤ step → step ≤ℤ greatest_safe_of limits before now → IsWithin limits before now step
  within_of_between limits before now step low high =
      let least = least_parts limits before now step low in
      let greatest = greatest_parts limits before now step high in
      record {
        slow = omega (arith, ints, least.0, greatest.0);
        falls = least.1;
        rises = greatest.1;
        up = omega (arith, ints, cut_is ways, greatest.2);
        down = omega (arith, ints, cut_is ways, least.2);
      }

  -- the whole way: the step and the way after it
  whole_way : (u v d room rest : ℕ) → 0 < d → u ≡ v → (0 < v → v + rest ≤ room) → run_of (u - d) d ≤ rest → run_of v d ≤ room
  whole_way u v d room rest some same goes fits =
      let way : run_of (v - d) d ≤ rest = rw same at fits in
      elim (cases_lt 0 v) [
        | inl moves ↦ omega (arith, run_unfold v d some, way, goes moves)
        | inr stands ↦ (let none : v ≡ 0 = omega arith in rw (none, run_zero) (omega arith))
      ]

  -- and the way after it alone
  rest_of_way : (u v d room rest : ℕ) → 0 < d → u ≡ v → (0 < v → room ≤ v + rest) → run_of v d ≤ room → run_of (u - d) d ≤ rest
  rest_of_way u v d room rest some same goes fits =
      elim (cases_lt 0 v) [
        | inl moves ↦ rw same (omega (arith, run_unfold v d some, goes moves))
        | inr stands ↦ (let none : u - d ≡ 0 = omega arith in rw (none, run_zero) (omega arith))
      ]

  -- a number moved toward zero, part by part
  pub toward_parts : (v d : ℤ) → pos 0 ≤ℤ d → (cut_at_zero (toward_zero v d) ≡ cut_at_zero v - unsigned_abs d) × (cut_at_zero (neg_ℤ (toward_zero v d)) ≡ cut_at_zero (neg_ℤ v) - unsigned_abs d)
  toward_parts v d some =
      by_lt_z (pos 0) v
      (λ up.
      let is : toward_zero v d ≡ pos (unsigned_abs v - unsigned_abs d) = toward_zero-ahead v d (omega (arith, ints)) some in
      (omega (arith, ints, cut_is ways), omega (arith, ints, cut_is ways)))
      (λ down.
      let is : toward_zero (neg_ℤ v) d ≡ pos (unsigned_abs (neg_ℤ v) - unsigned_abs d) = toward_zero-ahead (neg_ℤ v) d (omega (arith, ints)) some in
      let turned : toward_zero (neg_ℤ v) d ≡ neg_ℤ (toward_zero v d) = toward_zero-turned v d some in
      (omega (arith, ints, cut_is ways), omega (arith, ints, cut_is ways)))

  -- an axis that stands within its limits is kept
  pub standing_is_kept : (limits : Limits) (place : ℤ) → AreLimits limits → limits.lo ≤ℤ place → place ≤ℤ limits.hi → IsKept limits place place
  standing_is_kept limits place ok above below =
      let slow : pos (unsigned_abs (place -ℤ place)) ≤ℤ limits.vmax = omega (arith, ints) in
      let still : cut_at_zero (place -ℤ place) - unsigned_abs limits.dmax ≡ 0 = omega (arith, ints, cut_is ways) in
      record {
        above = above;
        below = below;
        speed = slow;
        stoppable = stoppable_of_ways ways limits place place ok above below slow (record { up = rw (still, run_zero) (omega arith); down = rw (still, run_zero) (omega arith) });
      }

  -- a safe step keeps every bound
  pub within_of_safe : (limits : Limits) (before now step : ℤ) → AreLimits limits → limits.lo ≤ℤ now → now ≤ℤ limits.hi → IsSafe limits before now (now +ℤ step) → IsWithin limits before now step
  within_of_safe limits before now step ok above below safe =
      let after : WaysFit limits now (now +ℤ step) = ways_of_stoppable ways limits now (now +ℤ step) ok safe.admissible.above safe.admissible.below safe.stoppable in
      let high : (now +ℤ step) ≤ℤ limits.hi = safe.admissible.below in
      let low : limits.lo ≤ℤ (now +ℤ step) = safe.admissible.above in
      let speed : pos (unsigned_abs (now +ℤ step -ℤ now)) ≤ℤ limits.vmax = safe.admissible.speed in
      let some : 0 < unsigned_abs limits.dmax = omega (arith, ints) in
      record {
        slow = omega (arith, ints);
        falls = above_same _ _ _ (omega (arith, ints)) safe.admissible.falls;
        rises = below_same _ _ _ (omega (arith, ints)) safe.admissible.rises;
        up = reach_greatest _ _ _ some (whole_way _ _ _ _ _ some (omega (arith, ints, cut_is ways)) (λ moves. omega (arith, ints, cut_is ways)) after.up);
        down = reach_greatest _ _ _ some (whole_way _ _ _ _ _ some (omega (arith, ints, cut_is ways)) (λ moves. omega (arith, ints, cut_is ways)) after.down);
      }

  -- a step that keeps every bound is safe
  pub safe_of_within : (limits : Limits) (before now step : ℤ) → AreLimits limits → limits.lo ≤ℤ now → now ≤ℤ limits.hi → IsWithin limits before now step → IsSafe limits before now (now +ℤ step)
  safe_of_within limits before now step ok above below within =
      let some : 0 < unsigned_abs limits.dmax = omega (arith, ints) in
      let up : run_of (cut_at_zero step) (unsigned_abs limits.dmax) ≤ unsigned_abs (limits.hi -ℤ now) = fits_below_reach _ _ _ some within.up in
      let down : run_of (cut_at_zero (neg_ℤ step)) (unsigned_abs limits.dmax) ≤ unsigned_abs (now -ℤ limits.lo) = fits_below_reach _ _ _ some within.down in
      let high : (now +ℤ step) ≤ℤ limits.hi = omega (arith, ints, cut_is ways, run_ge (cut_at_zero step) _ some) in
      let low : limits.lo ≤ℤ (now +ℤ step) = omega (arith, ints, cut_is ways, run_ge (cut_at_zero (neg_ℤ step)) _ some) in
      let slow : pos (unsigned_abs step) ≤ℤ limits.vmax = within.slow in
      let speed : pos (unsigned_abs (now +ℤ step -ℤ now)) ≤ℤ limits.vmax = omega (arith, ints) in
      let after : WaysFit limits now (now +ℤ step) = record {
        up = rest_of_way _ _ _ _ _ some (omega (arith, ints, cut_is ways)) (λ moves. omega (arith, ints, cut_is ways)) up;
        down = rest_of_way _ _ _ _ _ some (omega (arith, ints, cut_is ways)) (λ moves. omega (arith, ints, cut_is ways)) down;
      } in
      record {
        admissible = record {
          above = low;
          below = high;
          speed = speed;
          falls = above_same _ _ _ (omega (arith, ints)) within.falls;
          rises = below_same _ _ _ (omega (arith, ints)) within.rises;
        };
        stoppable = stoppable_of_ways ways limits now (now +ℤ step) ok low high speed after;
      }

  -- the safe steps are those between the ends
  pub safe_of_between : (limits : Limits) (before now step : ℤ) → AreLimits limits → limits.lo ≤ℤ now → now ≤ℤ limits.hi →
      least_safe_of limits before now ≤ℤ step → step ≤ℤ greatest_safe_of limits before now → IsSafe limits before now (now +ℤ step)
  safe_of_between limits before now step ok above below low high = safe_of_within limits before now step ok above below (within_of_between limits before now step low high)

  pub between_of_safe : (limits : Limits) (before now step : ℤ) → AreLimits limits → limits.lo ≤ℤ now → now ≤ℤ limits.hi → IsSafe limits before now (now +ℤ step) →
      (least_safe_of limits before now ≤ℤ step) × (step ≤ℤ greatest_safe_of limits before now)
  between_of_safe limits before now step ok above below safe =
      let within : IsWithin limits before now step = within_of_safe limits before now step ok above below safe in
      (least_of_within limits before now step within, greatest_of_within limits before now step within)

  -- braking by dmax keeps every bound
  braked_within : (limits : Limits) (before now step : ℤ) → AreLimits limits → IsKept limits before now →
      cut_at_zero step ≡ cut_at_zero (now -ℤ before) - unsigned_abs limits.dmax → cut_at_zero (neg_ℤ step) ≡ cut_at_zero (before -ℤ now) - unsigned_abs limits.dmax → IsWithin limits before now step
  braked_within limits before now step ok kept up down =
      let fit : WaysFit limits before now = ways_of_stoppable ways limits before now ok kept.above kept.below kept.stoppable in
      let some : 0 < unsigned_abs limits.dmax = omega (arith, ints) in
      let speed : pos (unsigned_abs (now -ℤ before)) ≤ℤ limits.vmax = kept.speed in
      record {
        slow = omega (arith, ints, cut_is ways);
        falls = omega (arith, ints, clamps, cut_is ways);
        rises = omega (arith, ints, clamps, cut_is ways);
        up = reach_greatest _ _ _ some (rw up fit.up);
        down = reach_greatest _ _ _ some (rw down fit.down);
      }

  -- so braking by dmax is a safe step
  pub braking_is_safe : (limits : Limits) (before now : ℤ) → AreLimits limits → IsKept limits before now → IsSafe limits before now (now +ℤ toward_zero (now -ℤ before) limits.dmax)
  braking_is_safe limits before now ok kept =
      let parts = toward_parts (now -ℤ before) limits.dmax (omega (arith, ints)) in
      let backward : cut_at_zero (neg_ℤ (now -ℤ before)) ≡ cut_at_zero (before -ℤ now) = omega (arith, ints, cut_is ways) in
      safe_of_within limits before now _ ok kept.above kept.below
      (braked_within limits before now _ ok kept parts.0 (parts.1 ∙ ap (λ n. n - unsigned_abs limits.dmax) backward))

  -- the safe steps are an interval that isn't empty
  pub ends_ordered : (limits : Limits) (before now : ℤ) → AreLimits limits → IsKept limits before now → least_safe_of limits before now ≤ℤ greatest_safe_of limits before now
  ends_ordered limits before now ok kept =
      let braked = between_of_safe limits before now _ ok kept.above kept.below (braking_is_safe limits before now ok kept) in
      omega (arith, ints, braked.0, braked.1)

  -- the taken step lies between the ends
  taken_between : (limits : Limits) (before now wanted : ℤ) → AreLimits limits → IsKept limits before now →
      (least_safe_of limits before now ≤ℤ taken_step_of limits before now wanted) × (taken_step_of limits before now wanted ≤ℤ greatest_safe_of limits before now)
  unfolding taken_step_of
  taken_between limits before now wanted ok kept = (
    cut_above (least_safe_of limits before now) (greatest_safe_of limits before now) wanted,
    cut_below (least_safe_of limits before now) (greatest_safe_of limits before now) wanted (ends_ordered limits before now ok kept),
  )

  -- so it is safe
  pub taken_step_is_safe : (limits : Limits) (before now wanted : ℤ) → AreLimits limits → IsKept limits before now → IsSafe limits before now (now +ℤ taken_step_of limits before now wanted)
  taken_step_is_safe limits before now wanted ok kept =
      let between = taken_between limits before now wanted ok kept in
      safe_of_between limits before now (taken_step_of limits before now wanted) ok kept.above kept.below between.0 between.1

  -- the taken step is safe, and nearest to the wanted one
  pub taken_step_is_taken : (limits : Limits) (before now wanted : ℤ) → AreLimits limits → IsKept limits before now → IsTakenStep limits before now wanted (taken_step_of limits before now wanted)
  unfolding taken_step_of
  taken_step_is_taken limits before now wanted ok kept = record {
    safe = taken_step_is_safe limits before now wanted ok kept;
    nearest = λ other safe. let ends = between_of_safe limits before now other ok kept.above kept.below safe in cut_nearest _ _ wanted other ends.0 ends.1;
  }

  -- and no other step is
  pub taken_step_is_only : (limits : Limits) (before now wanted step : ℤ) → AreLimits limits → IsKept limits before now → IsTakenStep limits before now wanted step → step ≡ taken_step_of limits before now wanted
  unfolding taken_step_of
  taken_step_is_only limits before now wanted step ok kept taken =
      let ends = between_of_safe limits before now step ok kept.above kept.below taken.safe in
      cut_only _ _ wanted step ends.0 ends.1
      (taken.nearest (taken_step_of limits before now wanted) (taken_step_is_safe limits before now wanted ok kept))

  -- a wanted step that is safe is taken as it is
  pub taken_step_is_exact : (limits : Limits) (before now wanted : ℤ) → AreLimits limits → IsKept limits before now → IsSafe limits before now (now +ℤ wanted) → taken_step_of limits before now wanted ≡ wanted
  unfolding taken_step_of
  taken_step_is_exact limits before now wanted ok kept safe =
      let ends = between_of_safe limits before now wanted ok kept.above kept.below safe in
      cut_exact _ _ wanted ends.0 ends.1

  -- for ever: whatever steps are wanted, every setpoint is admissible and every pair kept
  pub taken_steps_are_kept : (limits : Limits) (before now : ℤ) (wanted : List ℤ) → AreLimits limits → IsKept limits before now → AllKept limits before now (setpoints_of limits before now wanted)
  taken_steps_are_kept limits before now [] ok kept = tt
  taken_steps_are_kept limits before now (step ∷ more) ok kept =
      let taken : IsTakenStep limits before now step (taken_step_of limits before now step) = taken_step_is_taken limits before now step ok kept in
      let next : IsKept limits now (now +ℤ taken_step_of limits before now step) = safe_keeps limits before now _ taken.safe in
      (taken.safe.admissible, next, taken_steps_are_kept limits now (now +ℤ taken_step_of limits before now step) more ok next)

  -- cut first to what may follow, then to the room, a wanted step is the taken one
  pub taken_by_cuts : (limits : Limits) (before now wanted step taken : ℤ) → AreLimits limits → IsKept limits before now →
      step ≡ int_max (int_max (neg_ℤ limits.vmax) (least_step_after limits (now -ℤ before))) (int_min (int_min limits.vmax (greatest_step_after limits (now -ℤ before))) wanted) →
      taken ≡ int_max (neg_ℤ (pos (reach_of (unsigned_abs (now -ℤ limits.lo)) (unsigned_abs limits.dmax)))) (int_min (pos (reach_of (unsigned_abs (limits.hi -ℤ now)) (unsigned_abs limits.dmax))) step) →
      taken ≡ taken_step_of limits before now wanted
  unfolding taken_step_of least_safe_of greatest_safe_of
  taken_by_cuts limits before now wanted step taken ok kept follows fits =
      fits ∙ cut_twice (int_max (neg_ℤ limits.vmax) (least_step_after limits (now -ℤ before))) (int_min limits.vmax (greatest_step_after limits (now -ℤ before)))
      (neg_ℤ (pos (reach_of (unsigned_abs (now -ℤ limits.lo)) (unsigned_abs limits.dmax)))) (pos (reach_of (unsigned_abs (limits.hi -ℤ now)) (unsigned_abs limits.dmax)))
      wanted step (ends_ordered limits before now ok kept) follows

  pub nearest_of_taken : (limits : Limits) (before now wanted step : ℤ) → AreLimits limits → IsKept limits before now → step ≡ taken_step_of limits before now wanted → IsNearestSafe limits before now wanted step
  nearest_of_taken limits before now wanted step ok kept is =
      let safe : IsSafe limits before now (now +ℤ taken_step_of limits before now wanted) = taken_step_is_safe limits before now wanted ok kept in
      rw is (record {
        taken = taken_step_is_taken limits before now wanted ok kept;
        admissible = safe.admissible;
        kept = safe_keeps limits before now _ safe;
        exact = taken_step_is_exact limits before now wanted ok kept;
      })
