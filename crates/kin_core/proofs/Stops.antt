-- From which pairs an axis can be stopped: exactly those whose way to rest, braking by dmax, fits
-- on either side.
-- for: stoppable, nearest_safe, taken_steps_keep_for_ever
use Rattle.std.proofs.Common.{◌↔◌, ◌≡◌, ℕ, ◌+◌, ◌-◌, ◌<◌, ◌≤◌, zero, suc, ℤ, pos, ◌+ℤ◌, ◌-ℤ◌, ◌≤ℤ◌, ◌<ℤ◌, unsigned_abs, List, [], ◌∷◌, inl, inr, refl, arith}
use Rattle.std.proofs.lemmas.Int.{ints, clamps, by_lt_z}
use Rattle.std.proofs.lemmas.Bool.{cases_lt}
use Rattle.plc_types.specs.declared.limits.Limits.{Limits}
use Rattle.motion_numbers.specs.Run.{run_of, cut_at_zero}
use Rattle.plc_types.specs.Limits.{AreLimits}
use Rattle.kin_core.specs.Admissible.{IsAdmissible, StopsBy, IsStoppable, least_step_after, greatest_step_after}
use Rattle.kin_core.proofs.Sizes.{cut_is}
use Rattle.motion_numbers.specs.Laws.{AreWays}

-- the to rest, braking by dmax after the next step, end within the limits
pub record WaysFit (limits : Limits) (before now : ℤ) : Type 0 where
  pub up : run_of (cut_at_zero (now -ℤ before) - unsigned_abs limits.dmax) (unsigned_abs limits.dmax) ≤ unsigned_abs (limits.hi -ℤ now)
  pub down : run_of (cut_at_zero (before -ℤ now) - unsigned_abs limits.dmax) (unsigned_abs limits.dmax) ≤ unsigned_abs (now -ℤ limits.lo)

-- one more admissible setpoint before a list that stops
stops_after : (limits : Limits) (before now next : ℤ) (setpoints : List ℤ) → IsAdmissible limits before now next → StopsBy limits now next setpoints → StopsBy limits before now (next ∷ setpoints)
stops_after limits before now next [] admissible stops = absurd stops
stops_after limits before now next (later ∷ more) admissible stops = (admissible, stops)

-- a stoppable pair after an admissible setpoint
pub stoppable_after : (limits : Limits) (before now next : ℤ) → IsAdmissible limits before now next → IsStoppable limits now next → IsStoppable limits before now
stoppable_after limits before now next admissible rest = record {
  setpoints = next ∷ rest.setpoints;
  stops = stops_after limits before now next rest.setpoints admissible rest.stops;
}

-- after a step of at most dmax the axis may stand at once
stands : (limits : Limits) (before now : ℤ) → AreLimits limits → limits.lo ≤ℤ now → now ≤ℤ limits.hi → (now -ℤ before) ≤ℤ limits.dmax → (before -ℤ now) ≤ℤ limits.dmax → IsStoppable limits before now
stands limits before now ok above below up down = record {
  setpoints = now ∷ [];
  stops = (
    record {
      above = above;
      below = below;
      speed = omega (arith, ints);
      falls = omega (arith, ints, clamps);
      rises = omega (arith, ints, clamps);
    },
    refl,
  );
}

-- what stays when an axis that goes up brakes by dmax
record Brakes (limits : Limits) (before now next : ℤ) : Type 0 where
  admissible : IsAdmissible limits before now next
  fit : WaysFit limits now next

-- a pair that brakes to a stoppable pair is stoppable
braked_on : (speed : ℕ) (limits : Limits) (before now next : ℤ) → AreLimits limits → Brakes limits before now next →
    (limits.lo ≤ℤ next → next ≤ℤ limits.hi → pos (unsigned_abs (next -ℤ now)) ≤ℤ limits.vmax → unsigned_abs (next -ℤ now) ≤ speed → WaysFit limits now next → IsStoppable limits now next) →
    unsigned_abs (next -ℤ now) ≤ speed → IsStoppable limits before now
braked_on speed limits before now next ok braked later slower =
    stoppable_after limits before now next braked.admissible
    (later braked.admissible.above braked.admissible.below braked.admissible.speed slower braked.fit)

module _ (ways : AreWays) where
  open ways use {run_ge, run_mono, run_unfold, run_zero}

  -- the way after a step v that is followed by a step u, whose own way fits the rest of the room
  way_step : (v u d room rest : ℕ) → 0 < d → v - d ≤ u → run_of (u - d) d ≤ rest → (0 < u → u + rest ≤ room) → run_of (v - d) d ≤ room
  way_step v u d room rest some follows fits goes =
      elim (cases_lt 0 u) [
        | inl moves ↦ omega (arith, run_mono (v - d) u d some follows, run_unfold u d some, goes moves)
        | inr stands ↦ (let none : v - d ≡ 0 = omega arith in rw (none, run_zero) (omega arith))
      ]

  -- a list that stops goes up no less than the way to rest
  way_up : (limits : Limits) (before now : ℤ) (setpoints : List ℤ) → AreLimits limits → now ≤ℤ limits.hi → StopsBy limits before now setpoints →
      run_of (cut_at_zero (now -ℤ before) - unsigned_abs limits.dmax) (unsigned_abs limits.dmax) ≤ unsigned_abs (limits.hi -ℤ now)
  way_up limits before now [] ok below stops = absurd stops
  way_up limits before now (next ∷ []) ok below stops =
      let falls : least_step_after limits (now -ℤ before) ≤ℤ (next -ℤ now) = stops.0.falls in
      let last : cut_at_zero (now -ℤ before) - unsigned_abs limits.dmax ≡ 0 = omega (arith, ints, clamps, cut_is ways, stops.1) in
      rw (last, run_zero) (omega arith)
  way_up limits before now (next ∷ later ∷ more) ok below stops =
      let falls : least_step_after limits (now -ℤ before) ≤ℤ (next -ℤ now) = stops.0.falls in
      let within : next ≤ℤ limits.hi = stops.0.below in
      way_step (cut_at_zero (now -ℤ before)) (cut_at_zero (next -ℤ now)) (unsigned_abs limits.dmax) (unsigned_abs (limits.hi -ℤ now)) (unsigned_abs (limits.hi -ℤ next))
      (omega (arith, ints)) (omega (arith, ints, clamps, cut_is ways)) (way_up limits now next (later ∷ more) ok within stops.1)
      (λ moves. omega (arith, ints, cut_is ways))

  -- and down no less
  way_down : (limits : Limits) (before now : ℤ) (setpoints : List ℤ) → AreLimits limits → limits.lo ≤ℤ now → StopsBy limits before now setpoints →
      run_of (cut_at_zero (before -ℤ now) - unsigned_abs limits.dmax) (unsigned_abs limits.dmax) ≤ unsigned_abs (now -ℤ limits.lo)
  way_down limits before now [] ok above stops = absurd stops
  way_down limits before now (next ∷ []) ok above stops =
      let rises : (next -ℤ now) ≤ℤ greatest_step_after limits (now -ℤ before) = stops.0.rises in
      let last : cut_at_zero (before -ℤ now) - unsigned_abs limits.dmax ≡ 0 = omega (arith, ints, clamps, cut_is ways, stops.1) in
      rw (last, run_zero) (omega arith)
  way_down limits before now (next ∷ later ∷ more) ok above stops =
      let rises : (next -ℤ now) ≤ℤ greatest_step_after limits (now -ℤ before) = stops.0.rises in
      let within : limits.lo ≤ℤ next = stops.0.above in
      way_step (cut_at_zero (before -ℤ now)) (cut_at_zero (now -ℤ next)) (unsigned_abs limits.dmax) (unsigned_abs (now -ℤ limits.lo)) (unsigned_abs (next -ℤ limits.lo))
      (omega (arith, ints)) (omega (arith, ints, clamps, cut_is ways)) (way_down limits now next (later ∷ more) ok within stops.1)
      (λ moves. omega (arith, ints, cut_is ways))

  -- so from a stoppable pair the fit
  pub ways_of_stoppable : (limits : Limits) (before now : ℤ) → AreLimits limits → limits.lo ≤ℤ now → now ≤ℤ limits.hi → IsStoppable limits before now → WaysFit limits before now
  ways_of_stoppable limits before now ok above below stoppable = record {
    up = way_up limits before now stoppable.setpoints ok below stoppable.stops;
    down = way_down limits before now stoppable.setpoints ok above stoppable.stops;
  }

  -- the way from a step above the fall is that step less the fall, and the way from there
  way_after : (v u d room rest : ℕ) → 0 < d → u + d ≡ v → u + rest ≡ room → run_of (v - d) d ≤ room → run_of (u - d) d ≤ rest
  way_after v u d room rest some falls parts fits =
      let step : v - d ≡ u = omega arith in
      let way : run_of u d ≤ room = rw step at fits in
      omega (arith, run_unfold u d some, way)

  -- its first step fits
  first_fits : (v d room : ℕ) → 0 < d → run_of (v - d) d ≤ room → v ≤ d + room
  first_fits v d room some fits = omega (arith, run_ge (v - d) d some)

  -- at rest there is no way
  no_way : (v d room : ℕ) → v ≡ 0 → run_of (v - d) d ≤ room
  no_way v d room none = let nothing : v - d ≡ 0 = omega arith in rw (nothing, run_zero) (omega arith)

  -- up: the next setpoint, one step less the fall further
  brakes_up : (limits : Limits) (before now next : ℤ) → AreLimits limits → limits.lo ≤ℤ now → now ≤ℤ limits.hi → pos (unsigned_abs (now -ℤ before)) ≤ℤ limits.vmax →
      WaysFit limits before now → limits.dmax <ℤ (now -ℤ before) → (next -ℤ now) ≡ (now -ℤ before -ℤ limits.dmax) → Brakes limits before now next
  brakes_up limits before now next ok above below slow fit up falls =
      let room : cut_at_zero (now -ℤ before) ≤ unsigned_abs limits.dmax + unsigned_abs (limits.hi -ℤ now) = first_fits _ _ _ (omega (arith, ints)) fit.up in
      let ends : next ≤ℤ limits.hi = omega (arith, ints, cut_is ways) in
      record {
        admissible = record {
          above = omega (arith, ints);
          below = ends;
          speed = omega (arith, ints);
          falls = omega (arith, ints, clamps);
          rises = omega (arith, ints, clamps);
        };
        fit = record {
          up = way_after _ _ _ _ _ (omega (arith, ints)) (omega (arith, ints, cut_is ways)) (omega (arith, ints, cut_is ways)) fit.up;
          down = no_way _ _ _ (omega (arith, ints, cut_is ways));
        };
      }

  -- down: the next setpoint, one step less the fall further
  brakes_down : (limits : Limits) (before now next : ℤ) → AreLimits limits → limits.lo ≤ℤ now → now ≤ℤ limits.hi → pos (unsigned_abs (now -ℤ before)) ≤ℤ limits.vmax →
      WaysFit limits before now → limits.dmax <ℤ (before -ℤ now) → (now -ℤ next) ≡ (before -ℤ now -ℤ limits.dmax) → Brakes limits before now next
  brakes_down limits before now next ok above below slow fit down falls =
      let room : cut_at_zero (before -ℤ now) ≤ unsigned_abs limits.dmax + unsigned_abs (now -ℤ limits.lo) = first_fits _ _ _ (omega (arith, ints)) fit.down in
      let ends : limits.lo ≤ℤ next = omega (arith, ints, cut_is ways) in
      record {
        admissible = record {
          above = ends;
          below = omega (arith, ints);
          speed = omega (arith, ints);
          falls = omega (arith, ints, clamps);
          rises = omega (arith, ints, clamps);
        };
        fit = record {
          up = no_way _ _ _ (omega (arith, ints, cut_is ways));
          down = way_after _ _ _ _ _ (omega (arith, ints)) (omega (arith, ints, cut_is ways)) (omega (arith, ints, cut_is ways)) fit.down;
        };
      }

  -- where the fit, braking by dmax each cycle stops; no step is greater than `speed`
  brakes : (speed : ℕ) (limits : Limits) (before now : ℤ) → AreLimits limits → limits.lo ≤ℤ now → now ≤ℤ limits.hi → pos (unsigned_abs (now -ℤ before)) ≤ℤ limits.vmax →
      unsigned_abs (now -ℤ before) ≤ speed → WaysFit limits before now → IsStoppable limits before now
  brakes zero limits before now ok above below slow within fit = stands limits before now ok above below (omega (arith, ints)) (omega (arith, ints))
  brakes (suc speed) limits before now ok above below slow within fit =
      by_lt_z limits.dmax (now -ℤ before)
      (λ up. braked_on speed limits before now (now +ℤ (now -ℤ before -ℤ limits.dmax)) ok
      (brakes_up limits before now _ ok above below slow fit up (omega (arith, ints)))
      (brakes speed limits now (now +ℤ (now -ℤ before -ℤ limits.dmax)) ok)
      (omega (arith, ints)))
      (λ slower. by_lt_z limits.dmax (before -ℤ now)
      (λ down. braked_on speed limits before now (now -ℤ (before -ℤ now -ℤ limits.dmax)) ok
      (brakes_down limits before now _ ok above below slow fit down (omega (arith, ints)))
      (brakes speed limits now (now -ℤ (before -ℤ now -ℤ limits.dmax)) ok)
      (omega (arith, ints)))
      (λ gentle. stands limits before now ok above below slower gentle))

  -- where the fit, the pair is stoppable
  pub stoppable_of_ways : (limits : Limits) (before now : ℤ) → AreLimits limits → limits.lo ≤ℤ now → now ≤ℤ limits.hi → pos (unsigned_abs (now -ℤ before)) ≤ℤ limits.vmax → WaysFit limits before now → IsStoppable limits before now
  stoppable_of_ways limits before now ok above below slow fit = brakes (unsigned_abs (now -ℤ before)) limits before now ok above below slow (omega arith) fit

  -- upward only the way up is to be looked at
  pub stoppable_up : (limits : Limits) (before now : ℤ) → AreLimits limits → limits.lo ≤ℤ now → now ≤ℤ limits.hi → pos (unsigned_abs (now -ℤ before)) ≤ℤ limits.vmax → before ≤ℤ now →
      (run_of (unsigned_abs (now -ℤ before) - unsigned_abs limits.dmax) (unsigned_abs limits.dmax) ≤ unsigned_abs (limits.hi -ℤ now)) ↔ IsStoppable limits before now
  stoppable_up limits before now ok above below slow up =
      let size : cut_at_zero (now -ℤ before) ≡ unsigned_abs (now -ℤ before) = omega (arith, ints, cut_is ways) in (
        λ fits. stoppable_of_ways limits before now ok above below slow (record { up = rw size fits; down = no_way _ _ _ (omega (arith, ints, cut_is ways)) }),
        λ stoppable. rw (← size) (ways_of_stoppable limits before now ok above below stoppable).up,
      )

  -- and downward only the way down
  pub stoppable_down : (limits : Limits) (before now : ℤ) → AreLimits limits → limits.lo ≤ℤ now → now ≤ℤ limits.hi → pos (unsigned_abs (now -ℤ before)) ≤ℤ limits.vmax → now ≤ℤ before →
      (run_of (unsigned_abs (before -ℤ now) - unsigned_abs limits.dmax) (unsigned_abs limits.dmax) ≤ unsigned_abs (now -ℤ limits.lo)) ↔ IsStoppable limits before now
  stoppable_down limits before now ok above below slow down =
      let size : cut_at_zero (before -ℤ now) ≡ unsigned_abs (before -ℤ now) = omega (arith, ints, cut_is ways) in (
        λ fits. stoppable_of_ways limits before now ok above below slow (record { up = no_way _ _ _ (omega (arith, ints, cut_is ways)); down = rw size fits }),
        λ stoppable. rw (← size) (ways_of_stoppable limits before now ok above below stoppable).down,
      )
