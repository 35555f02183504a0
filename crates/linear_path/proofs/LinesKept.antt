-- Steps along a straight line keep the limits of its axes.
-- for: leads_its_axes
use Rattle.std.proofs.Common.{◌≡◌, ℕ, ◌+◌, ◌<◌, ◌≤◌, refl, ap, inl, inr, arith, true, ℤ, pos, ◌+ℤ◌, ◌-ℤ◌, ◌≤ℤ◌, unsigned_abs, List}
use Rattle.std.proofs.lemmas.Bool.{cases_eq}
use Rattle.std.proofs.lemmas.Int.{ints, by_lt_z}
use Rattle.plc_types.specs.declared.limits.Limits.{Limits}
use Rattle.plc_types.specs.Limits.{AreLimits}
use Rattle.kin_core.specs.Admissible.{IsAdmissible}
use Rattle.linear_path.specs.Line.{coordinate_of, longest_way_of, place_between, keeps_velocity, keeps_change, path_velocity_of, path_acceleration_of, path_deceleration_of, path_limits_of}
use Rattle.linear_path.specs.Path.{limits_at, AreAxisLimits, AreAxesLimits, AreWithin}
use Rattle.linear_path.proofs.LineLaws.{place_forward, place_backward, place_start, place_within, way_within}
use Rattle.linear_path.proofs.RateLaws.{moving_path, path_rates_are, gains_within_losses}
use Rattle.linear_path.proofs.PartLaws.{step_kept}
use Rattle.linear_path.proofs.BendLaws.{bends_of_admissible, bends_of_parts, admissible_forward, admissible_backward, standing_is_admissible}
use Rattle.linear_path.proofs.Stopping.{between_within}

-- steps along a path that has a length
moving_keeps : (limits : Limits) (start target : ℤ) (length w b c s0 s1 s2 : ℕ) → 0 < length →
    AreLimits limits → AreWithin limits start target → unsigned_abs (target -ℤ start) ≤ length →
    s2 ≤ length →
    keeps_velocity (unsigned_abs (target -ℤ start)) length (unsigned_abs limits.vmax) w ≡ true →
    keeps_change (unsigned_abs (target -ℤ start)) length (unsigned_abs limits.amax) b ≡ true →
    keeps_change (unsigned_abs (target -ℤ start)) length (unsigned_abs limits.dmax) c ≡ true →
    b ≤ c →
    IsAdmissible (record { lo = pos 0; hi = pos length; vmax = pos w; amax = pos b; dmax = pos c })
    (pos s0) (pos s1) (pos s2) →
    IsAdmissible limits (place_between start target length s0)
    (place_between start target length s1) (place_between start target length s2)
moving_keeps limits start target length w b c s0 s1 s2 some ok ends longest last keeps_v keeps_a
    keeps_d order path =
    let bends = bends_of_parts (unsigned_abs (target -ℤ start)) length (unsigned_abs limits.vmax)
    (unsigned_abs limits.amax) (unsigned_abs limits.dmax) w b c s0 s1 s2 some keeps_v keeps_a
    keeps_d (bends_of_admissible length w b c s0 s1 s2 order path) in
    let inside = between_within limits start target (place_between start target length s2) ends
    (place_within start target length s2 longest last) in
    by_lt_z target start
    (λ backward. (let there = rw (place_backward start target length s2 backward) at inside in
    rw (
      place_backward start target length s0 backward,
      place_backward start target length s1 backward,
      place_backward start target length s2 backward,
    )
    (admissible_backward limits start _ _ _ ok there.0 there.1 bends)))
    (λ forward. (let there = rw (place_forward start target length s2 forward) at inside in
    rw (
      place_forward start target length s0 forward,
      place_forward start target length s1 forward,
      place_forward start target length s2 forward,
    )
    (admissible_forward limits start _ _ _ ok there.0 there.1 bends)))

-- a path without a length keeps its axes at their starts
standing_keeps : (limits : Limits) (start target : ℤ) (length s0 s1 s2 : ℕ) → AreLimits limits →
    AreWithin limits start target → s0 ≡ 0 → s1 ≡ 0 → s2 ≡ 0 →
    IsAdmissible limits (place_between start target length s0)
    (place_between start target length s1) (place_between start target length s2)
standing_keeps limits start target length s0 s1 s2 ok ends none0 none1 none2 =
    rw (none0, none1, none2, place_start start target length)
    (standing_is_admissible limits start ok ends.start_above ends.start_below)

-- on places that are counted from 0
pub places_keep : (count : ℕ) (starts targets : List ℤ) (limits : List Limits) (axis s0 s1 s2 : ℕ) →
    AreAxesLimits count limits → axis < count →
    AreWithin (limits_at limits axis) (coordinate_of starts axis) (coordinate_of targets axis) →
    s0 ≤ longest_way_of count starts targets → s1 ≤ longest_way_of count starts targets →
    s2 ≤ longest_way_of count starts targets →
    IsAdmissible (path_limits_of count starts targets limits) (pos s0) (pos s1) (pos s2) →
    IsAdmissible (limits_at limits axis)
    (place_between (coordinate_of starts axis) (coordinate_of targets axis)
    (longest_way_of count starts targets) s0)
    (place_between (coordinate_of starts axis) (coordinate_of targets axis)
    (longest_way_of count starts targets) s1)
    (place_between (coordinate_of starts axis) (coordinate_of targets axis)
    (longest_way_of count starts targets) s2)
places_keep count starts targets limits axis s0 s1 s2 axes within ends in0 in1 in2 path =
    let own : AreAxisLimits (limits_at limits axis) = axes.each axis within in
    elim (cases_eq (longest_way_of count starts targets) 0) [
      | inl none ↦ standing_keeps (limits_at limits axis) (coordinate_of starts axis)
          (coordinate_of targets axis) (longest_way_of count starts targets) s0 s1 s2 own.ranges
          ends (omega arith) (omega arith) (omega arith)
      | inr some ↦ (let positive : 0 < longest_way_of count starts targets = omega arith in
          let rates = path_rates_are count starts targets
          (longest_way_of count starts targets) limits positive axes in
          let moving : IsAdmissible (record {
            lo = pos 0;
            hi = pos (longest_way_of count starts targets);
            vmax = pos (path_velocity_of count starts targets
                (longest_way_of count starts targets) limits);
            amax = pos (path_acceleration_of count starts targets
                (longest_way_of count starts targets) limits);
            dmax = pos (path_deceleration_of count starts targets
                (longest_way_of count starts targets) limits);
          }) (pos s0) (pos s1) (pos s2) =
          rw (moving_path count starts targets limits
          (longest_way_of count starts targets) refl positive) at path in
          moving_keeps (limits_at limits axis) (coordinate_of starts axis)
          (coordinate_of targets axis) (longest_way_of count starts targets)
          (path_velocity_of count starts targets (longest_way_of count starts targets) limits)
          (path_acceleration_of count starts targets
          (longest_way_of count starts targets) limits)
          (path_deceleration_of count starts targets
          (longest_way_of count starts targets) limits)
          s0 s1 s2 positive own.ranges ends (way_within count starts targets axis within) in2
          (rates.velocity_is.passes _ axis (omega arith) within)
          (rates.acceleration_is.passes _ axis (omega arith) within)
          (rates.deceleration_is.passes _ axis (omega arith) within)
          (gains_within_losses count starts targets (longest_way_of count starts targets) limits _ _
          _ positive axes rates) moving)
    ]

-- a step of an axis from its start forward
speed_ahead : (start vmax : ℤ) (f g : ℕ) → pos 0 ≤ℤ vmax → g ≤ f + unsigned_abs vmax →
    f ≤ g + unsigned_abs vmax → pos (unsigned_abs ((start +ℤ pos g) -ℤ (start +ℤ pos f))) ≤ℤ vmax
speed_ahead start vmax f g positive up down = omega (arith, ints)

-- and backward
speed_back : (start vmax : ℤ) (f g : ℕ) → pos 0 ≤ℤ vmax → g ≤ f + unsigned_abs vmax →
    f ≤ g + unsigned_abs vmax → pos (unsigned_abs ((start -ℤ pos g) -ℤ (start -ℤ pos f))) ≤ℤ vmax
speed_back start vmax f g positive up down = omega (arith, ints)

-- a step along a path that has a length
moving_speed : (start target vmax : ℤ) (length w s t : ℕ) → 0 < length → pos 0 ≤ℤ vmax →
    keeps_velocity (unsigned_abs (target -ℤ start)) length (unsigned_abs vmax) w ≡ true →
    t ≤ s + w → s ≤ t + w → pos (unsigned_abs
    (place_between start target length t -ℤ place_between start target length s)) ≤ℤ vmax
moving_speed start target vmax length w s t some positive keeps up down =
    let ahead = step_kept (unsigned_abs (target -ℤ start)) length
    (unsigned_abs vmax) w s t some keeps up in
    let back = step_kept (unsigned_abs (target -ℤ start)) length
    (unsigned_abs vmax) w t s some keeps down in
    by_lt_z target start
    (λ backward. rw (
      place_backward start target length s backward,
      place_backward start target length t backward,
    )
    (speed_back start vmax _ _ positive ahead back))
    (λ forward. rw (
      place_forward start target length s forward,
      place_forward start target length t forward,
    )
    (speed_ahead start vmax _ _ positive ahead back))

same_place_speed : (start target vmax : ℤ) (length s t : ℕ) → pos 0 ≤ℤ vmax → s ≡ t →
    pos (unsigned_abs (place_between start target length t -ℤ place_between start target length s))
    ≤ℤ vmax
same_place_speed start target vmax length s t positive same = rw same (omega (arith, ints))

pub places_speed : (count : ℕ) (starts targets : List ℤ) (limits : List Limits) (axis s t : ℕ) →
    AreAxesLimits count limits → axis < count → s ≤ longest_way_of count starts targets →
    t ≤ longest_way_of count starts targets →
    pos (unsigned_abs (pos t -ℤ pos s)) ≤ℤ (path_limits_of count starts targets limits).vmax →
    pos (unsigned_abs (place_between (coordinate_of starts axis) (coordinate_of targets axis)
    (longest_way_of count starts targets) t
    -ℤ place_between (coordinate_of starts axis) (coordinate_of targets axis)
    (longest_way_of count starts targets) s)) ≤ℤ (limits_at limits axis).vmax
places_speed count starts targets limits axis s t axes within in_s in_t path =
    let own : AreAxisLimits (limits_at limits axis) = axes.each axis within in
    let positive : pos 0 ≤ℤ (limits_at limits axis).vmax =
    omega (arith, ints, own.ranges.vmax_positive) in
    elim (cases_eq (longest_way_of count starts targets) 0) [
      | inl none ↦ same_place_speed (coordinate_of starts axis) (coordinate_of targets axis)
          (limits_at limits axis).vmax (longest_way_of count starts targets) s t positive
          (omega arith)
      | inr some ↦ (let moves : 0 < longest_way_of count starts targets = omega arith in
          let rates = path_rates_are count starts targets
          (longest_way_of count starts targets) limits moves axes in
          let vmax : (path_limits_of count starts targets limits).vmax
          ≡ pos (path_velocity_of count starts targets
          (longest_way_of count starts targets) limits) =
          ap (λ (l : Limits). l.vmax) (moving_path count starts targets limits
          (longest_way_of count starts targets) refl moves) in
          let step : pos (unsigned_abs (pos t -ℤ pos s))
          ≤ℤ pos (path_velocity_of count starts targets
          (longest_way_of count starts targets) limits) = rw vmax at path in
          moving_speed (coordinate_of starts axis) (coordinate_of targets axis)
          (limits_at limits axis).vmax (longest_way_of count starts targets)
          (path_velocity_of count starts targets (longest_way_of count starts targets) limits) s
          t moves positive
          (rates.velocity_is.passes _ axis (omega arith) within) (omega (arith, ints, step))
          (omega (arith, ints, step)))
    ]
