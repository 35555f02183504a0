-- A straight line keeps the laws of a path.
-- for: leads_its_axes
use Rattle.std.proofs.Common.{◌≡◌, ℕ, zero, suc, ◌<◌, ◌≤◌, refl, sym, ◌∙◌, ap, inl, inr, arith, ℤ, pos, negsuc, ◌-ℤ◌, ◌≤ℤ◌, unsigned_abs, List}
use Rattle.std.proofs.lemmas.Bool.{cases_eq}
use Rattle.std.proofs.lemmas.Int.{ints}
use Rattle.motion_numbers.specs.declared.TheConstants.{MOST_WAY}
use Rattle.motion_numbers.specs.Ranges.{IsPlace}
use Rattle.plc_types.specs.declared.limits.Limits.{Limits}
use Rattle.plc_types.specs.Limits.{AreLimits}
use Rattle.kin_core.specs.Admissible.{IsAdmissible}
use Rattle.linear_path.specs.Line.{coordinate_of, AreInRange, way_of, longest_way_of, place_between, path_limits_of}
use Rattle.linear_path.specs.Path.{standing_limits, limits_at, AreAxesLimits, AreWithin, IsBetween}
use Rattle.linear_path.proofs.LineLaws.{place_start, place_end, place_within, way_within}
use Rattle.linear_path.proofs.RateLaws.{standing_path, moving_path, path_rates_are, rates_are_limits}
use Rattle.linear_path.proofs.LinesKept.{places_keep, places_speed}

-- place 0 is the start
pub line_begins : (count : ℕ) (starts targets : List ℤ) (axis : ℕ) → axis < count →
    place_between (coordinate_of starts axis) (coordinate_of targets axis)
    (longest_way_of count starts targets) (unsigned_abs (pos 0)) ≡ coordinate_of starts axis
line_begins count starts targets axis within =
    place_start (coordinate_of starts axis) (coordinate_of targets axis)
    (longest_way_of count starts targets)

-- the last place is the target
pub line_ends : (count : ℕ) (starts targets : List ℤ) (axis : ℕ) → axis < count →
    place_between (coordinate_of starts axis) (coordinate_of targets axis)
    (longest_way_of count starts targets) (unsigned_abs (pos (longest_way_of count starts targets)))
    ≡ coordinate_of targets axis
line_ends count starts targets axis within =
    place_end (coordinate_of starts axis) (coordinate_of targets axis)
    (longest_way_of count starts targets) (way_within count starts targets axis within)

-- every place lies between them
pub line_between : (count : ℕ) (starts targets : List ℤ) (axis : ℕ) (s : ℤ) → axis < count →
    pos 0 ≤ℤ s → s ≤ℤ pos (longest_way_of count starts targets) →
    IsBetween (coordinate_of starts axis) (coordinate_of targets axis)
    (place_between (coordinate_of starts axis) (coordinate_of targets axis)
    (longest_way_of count starts targets) (unsigned_abs s))
line_between count starts targets axis s within low high =
    place_within (coordinate_of starts axis) (coordinate_of targets axis)
    (longest_way_of count starts targets) (unsigned_abs s)
    (way_within count starts targets axis within) (omega (arith, ints))

-- the ways are of limited size
longest_small : (count : ℕ) (starts targets : List ℤ) → AreInRange starts → AreInRange targets →
    longest_way_of count starts targets ≤ MOST_WAY
unfolding longest_way_of
longest_small zero starts targets s t = omega arith
longest_small (suc n) starts targets s t =
    let start : IsPlace (coordinate_of starts n) = s n in
    let target : IsPlace (coordinate_of targets n) = t n in
    let way : way_of starts targets n ≤ MOST_WAY = omega (arith, ints) in
    omega (arith, longest_small n starts targets s t)

standing_are_limits : AreLimits standing_limits
standing_are_limits =
    record {
      lo_in_range = omega (arith, ints);
      ordered = omega (arith, ints);
      hi_in_range = omega (arith, ints);
      vmax_positive = omega (arith, ints);
      vmax_in_range = omega (arith, ints);
      amax_positive = omega (arith, ints);
      amax_within_dmax = omega (arith, ints);
      dmax_in_range = omega (arith, ints);
    }

-- the limits of its path are limits
pub line_limits_in_range : (count : ℕ) (starts targets : List ℤ) → AreInRange starts →
    AreInRange targets → (limits : List Limits) → AreAxesLimits count limits →
    AreLimits (path_limits_of count starts targets limits)
line_limits_in_range count starts targets s t limits axes =
    elim (cases_eq (longest_way_of count starts targets) 0) [
      | inl none ↦ rw (standing_path count starts targets limits none) standing_are_limits
      | inr some ↦ (let positive : 0 < longest_way_of count starts targets = omega arith in
          rw (moving_path count starts targets limits
          (longest_way_of count starts targets) refl positive)
          (rates_are_limits count starts targets (longest_way_of count starts targets) limits _ _ _
          positive (longest_small count starts targets s t) axes
          (way_within count starts targets)
          (path_rates_are count starts targets (longest_way_of count starts targets) limits
          positive axes)))
    ]

-- from place 0
pub line_limits_from : (count : ℕ) (starts targets : List ℤ) (limits : List Limits) →
    (path_limits_of count starts targets limits).lo ≡ pos 0
line_limits_from count starts targets limits =
    elim (cases_eq (longest_way_of count starts targets) 0) [
      | inl none ↦ ap (λ (l : Limits). l.lo) (standing_path count starts targets limits none)
      | inr some ↦ ap (λ (l : Limits). l.lo)
          (moving_path count starts targets limits (longest_way_of count starts targets) refl
          (omega arith))
    ]

-- to the last one
pub line_limits_to : (count : ℕ) (starts targets : List ℤ) (limits : List Limits) →
    (path_limits_of count starts targets limits).hi ≡ pos (longest_way_of count starts targets)
line_limits_to count starts targets limits =
    elim (cases_eq (longest_way_of count starts targets) 0) [
      | inl none ↦ ap (λ (l : Limits). l.hi) (standing_path count starts targets limits none)
          ∙ ap pos (sym none)
      | inr some ↦ ap (λ (l : Limits). l.hi)
          (moving_path count starts targets limits (longest_way_of count starts targets) refl
          (omega arith))
    ]

-- two steps that meet the limits of its path move each axis within its own
pub line_keeps_limits : (count : ℕ) (starts targets : List ℤ) (limits : List Limits) (axis : ℕ)
    (before now next : ℤ) → AreAxesLimits count limits → axis < count →
    AreWithin (limits_at limits axis) (coordinate_of starts axis) (coordinate_of targets axis) →
    pos 0 ≤ℤ before → before ≤ℤ pos (longest_way_of count starts targets) → pos 0 ≤ℤ now →
    now ≤ℤ pos (longest_way_of count starts targets) →
    IsAdmissible (path_limits_of count starts targets limits) before now next →
    IsAdmissible (limits_at limits axis)
    (place_between (coordinate_of starts axis) (coordinate_of targets axis)
    (longest_way_of count starts targets) (unsigned_abs before))
    (place_between (coordinate_of starts axis) (coordinate_of targets axis)
    (longest_way_of count starts targets) (unsigned_abs now))
    (place_between (coordinate_of starts axis) (coordinate_of targets axis)
    (longest_way_of count starts targets) (unsigned_abs next))
line_keeps_limits count starts targets limits axis (pos s0) (pos s1)
    (pos s2) axes within ends low0 high0 low1 high1 path =
    places_keep count starts targets limits axis s0 s1 s2 axes within ends (omega (arith, ints))
    (omega (arith, ints)) (omega (
      arith,
      ints,
      path.below,
      line_limits_to count starts targets limits,
    )) path
line_keeps_limits count starts targets limits axis
    (negsuc s0) now next axes within ends low0 high0 low1 high1 path = absurd (omega (arith, ints))
line_keeps_limits count starts targets limits axis (pos s0)
    (negsuc s1) next axes within ends low0 high0 low1 high1 path = absurd (omega (arith, ints))
line_keeps_limits count starts targets limits axis (pos s0) (pos s1)
    (negsuc s2) axes within ends low0 high0 low1 high1 path =
    absurd (omega (arith, ints, path.above, line_limits_from count starts targets limits))

-- a step within the vmax of its path moves each axis within its own
pub line_keeps_speed : (count : ℕ) (starts targets : List ℤ) (limits : List Limits) (axis : ℕ)
    (before now : ℤ) → AreAxesLimits count limits → axis < count → pos 0 ≤ℤ before →
    before ≤ℤ pos (longest_way_of count starts targets) → pos 0 ≤ℤ now →
    now ≤ℤ pos (longest_way_of count starts targets) →
    pos (unsigned_abs (now -ℤ before)) ≤ℤ (path_limits_of count starts targets limits).vmax →
    pos (unsigned_abs (place_between (coordinate_of starts axis) (coordinate_of targets axis)
    (longest_way_of count starts targets) (unsigned_abs now)
    -ℤ place_between (coordinate_of starts axis) (coordinate_of targets axis)
    (longest_way_of count starts targets) (unsigned_abs before)))
    ≤ℤ (limits_at limits axis).vmax
line_keeps_speed count starts targets limits axis (pos s)
    (pos t) axes within low0 high0 low1 high1 path =
    places_speed count starts targets limits axis s t axes within (omega (arith, ints))
    (omega (arith, ints)) path
line_keeps_speed count starts targets limits axis
    (negsuc s) now axes within low0 high0 low1 high1 path = absurd (omega (arith, ints))
line_keeps_speed count starts targets limits axis (pos s)
    (negsuc t) axes within low0 high0 low1 high1 path = absurd (omega (arith, ints))
