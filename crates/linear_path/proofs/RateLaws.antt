-- The greatest rates of a path pass, and are limits.
-- for: path_limits
use Rattle.std.proofs.Common.{◌≡◌, ℕ, ◌+◌, ◌<◌, ◌≤◌, min, refl, sym, arith, ℤ, pos, unsigned_abs, List}
use Rattle.std.proofs.lemmas.Int.{ints}
use Rattle.motion_numbers.specs.declared.TheConstants.{MOST_STEP, MOST_WAY}
use Rattle.plc_types.specs.declared.limits.Limits.{Limits}
use Rattle.plc_types.specs.Limits.{AreLimits}
use Rattle.linear_path.specs.Line.{way_of, longest_way_of, path_limits_of, path_velocity_of, path_acceleration_of, path_deceleration_of}
use Rattle.linear_path.specs.Path.{standing_limits, limits_at, AreAxisLimits, AreAxesLimits}
use Rattle.linear_path.specs.Rates.{IsRateOf, AreGreatestRates, velocity_test, gain_test, loss_test}
use Rattle.linear_path.proofs.PartLaws.{eq_false}
use Rattle.linear_path.proofs.GreatestLaws.{greatest_is, greatest_first, greatest_more, greatest_holds}
use Rattle.linear_path.proofs.ShareLaws.{velocity_exact, velocity_falls, change_falls, change_more, change_none, change_one, velocity_one}

-- the next axis's rates join those of the axes so far
pub rates_more : (starts targets : List ℤ) (length : ℕ) (limits : List Limits)
    (n v a d v' a' d' v'' a'' d'' : ℕ) → AreGreatestRates starts targets length limits n v a d →
    IsRateOf v' (velocity_test starts targets length limits n) →
    IsRateOf a' (gain_test starts targets length limits n) →
    IsRateOf d' (loss_test starts targets length limits n) →
    v'' ≡ min v' v → a'' ≡ min a' a → d'' ≡ min d' d →
    AreGreatestRates starts targets length limits (n + 1) v'' a'' d''
rates_more starts targets length limits n v a d v' a' d' v'' a'' d'' so_far own_v own_a own_d v_is
    a_is d_is =
    record {
      velocity_is = greatest_more n (velocity_test starts targets length limits) v v' v''
          so_far.velocity_is own_v.within own_v.exact v_is;
      acceleration_is = greatest_more n (gain_test starts targets length limits) a a' a''
          so_far.acceleration_is own_a.within own_a.exact a_is;
      deceleration_is = greatest_more n (loss_test starts targets length limits) d d' d''
          so_far.deceleration_is own_d.within own_d.exact d_is;
    }

pub rates_first : (starts targets : List ℤ) (length : ℕ) (limits : List Limits) →
    AreGreatestRates starts targets length limits 0 MOST_STEP MOST_STEP MOST_STEP
rates_first starts targets length limits =
    record {
      velocity_is = greatest_first (velocity_test starts targets length limits);
      acceleration_is = greatest_first (gain_test starts targets length limits);
      deceleration_is = greatest_first (loss_test starts targets length limits);
    }

-- the sizes of an axis's limits
limit_sizes : (limits : Limits) → AreAxisLimits limits →
    (1 ≤ unsigned_abs limits.vmax) × (2 ≤ unsigned_abs limits.amax)
    × (unsigned_abs limits.amax ≤ unsigned_abs limits.dmax)
limit_sizes limits ok = (omega (arith, ints), omega (arith, ints), omega (arith, ints))

-- the rates of the definition are the greatest
pub path_rates_are : (count : ℕ) (starts targets : List ℤ) (length : ℕ) (limits : List Limits) →
    0 < length → AreAxesLimits count limits →
    AreGreatestRates starts targets length limits count
    (path_velocity_of count starts targets length limits)
    (path_acceleration_of count starts targets length limits)
    (path_deceleration_of count starts targets length limits)
unfolding path_velocity_of path_acceleration_of path_deceleration_of
path_rates_are count starts targets length limits some axes =
    record {
      velocity_is = greatest_holds count MOST_STEP (velocity_test starts targets length limits) refl
          (λ axis r s within order kept. velocity_falls (way_of starts targets axis) length
          (unsigned_abs (limits_at limits axis).vmax) r s some order kept)
          (λ axis within. (velocity_exact (way_of starts targets axis) length
          (unsigned_abs (limits_at limits axis).vmax) 0 some).1 (omega arith));
      acceleration_is = greatest_holds count MOST_STEP (gain_test starts targets length limits) refl
          (λ axis r s within order kept. (let sizes =
          limit_sizes (limits_at limits axis) (axes.each axis within) in
          change_falls (way_of starts targets axis) length
          (unsigned_abs (limits_at limits axis).amax) r s some
          (omega (arith, sizes)) order kept))
          (λ axis within. (let sizes = limit_sizes (limits_at limits axis)
          (axes.each axis within) in
          change_none (way_of starts targets axis) length
          (unsigned_abs (limits_at limits axis).amax) some (omega (arith, sizes))));
      deceleration_is = greatest_holds count MOST_STEP (loss_test starts targets length limits) refl
          (λ axis r s within order kept. (let sizes =
          limit_sizes (limits_at limits axis) (axes.each axis within) in
          change_falls (way_of starts targets axis) length
          (unsigned_abs (limits_at limits axis).dmax) r s some
          (omega (arith, sizes)) order kept))
          (λ axis within. (let sizes = limit_sizes (limits_at limits axis)
          (axes.each axis within) in
          change_none (way_of starts targets axis) length
          (unsigned_abs (limits_at limits axis).dmax) some (omega (arith, sizes))));
    }

-- rates that are the greatest are those of the definition
pub rates_of_the_path : (count : ℕ) (starts targets : List ℤ) (length : ℕ) (limits : List Limits)
    (v a d : ℕ) → AreGreatestRates starts targets length limits count v a d →
    (v ≡ path_velocity_of count starts targets length limits)
    × (a ≡ path_acceleration_of count starts targets length limits)
    × (d ≡ path_deceleration_of count starts targets length limits)
unfolding path_velocity_of path_acceleration_of path_deceleration_of
rates_of_the_path count starts targets length limits v a d are = (
  greatest_is count MOST_STEP (velocity_test starts targets length limits) v refl are.velocity_is,
  greatest_is count MOST_STEP (gain_test starts targets length limits) a refl are.acceleration_is,
  greatest_is count MOST_STEP (loss_test starts targets length limits) d refl are.deceleration_is,
)

-- a record of such sizes is in range
limits_of_sizes : (length v a d : ℕ) → length ≤ MOST_WAY → 1 ≤ v → v ≤ MOST_STEP → 1 ≤ a → a ≤ d →
    d ≤ MOST_STEP → AreLimits (record {
      lo = pos 0;
      hi = pos length;
      vmax = pos v;
      amax = pos a;
      dmax = pos d;
    })
limits_of_sizes length v a d small v_some v_most a_some a_within d_most =
    record {
      lo_in_range = omega (arith, ints);
      ordered = omega (arith, ints);
      hi_in_range = omega (arith, ints);
      vmax_positive = omega (arith, ints);
      vmax_in_range = omega (arith, ints);
      amax_positive = omega (arith, ints);
      amax_within_dmax = omega (arith, ints);
      dmax_in_range = omega (arith, ints);
    }

-- the greatest gain of speed is no more than the greatest loss
pub gains_within_losses : (count : ℕ) (starts targets : List ℤ) (length : ℕ) (limits : List Limits)
    (v a d : ℕ) → 0 < length → AreAxesLimits count limits →
    AreGreatestRates starts targets length limits count v a d → a ≤ d
gains_within_losses count starts targets length limits v a d some axes are =
    let a_most : a ≤ MOST_STEP = are.acceleration_is.within in
    are.deceleration_is.most a a_most (λ axis within. (let sizes =
    limit_sizes (limits_at limits axis) (axes.each axis within) in
    change_more (way_of starts targets axis) length (unsigned_abs (limits_at limits axis).amax)
    (unsigned_abs (limits_at limits axis).dmax) a some (omega (arith, sizes))
    (omega (arith, sizes))
    (are.acceleration_is.passes a axis (omega arith) within)))

-- the greatest rates of a path are limits of it
pub rates_are_limits : (count : ℕ) (starts targets : List ℤ) (length : ℕ) (limits : List Limits)
    (v a d : ℕ) → 0 < length → length ≤ MOST_WAY → AreAxesLimits count limits →
    ((axis : ℕ) → axis < count → way_of starts targets axis ≤ length) →
    AreGreatestRates starts targets length limits count v a d →
    AreLimits (record { lo = pos 0; hi = pos length; vmax = pos v; amax = pos a; dmax = pos d })
rates_are_limits count starts targets length limits v a d some small axes longest are =
    let v_some : 1 ≤ v = are.velocity_is.most 1 (omega arith)
    (λ axis within. (let sizes = limit_sizes (limits_at limits axis) (axes.each axis within) in
    velocity_one (way_of starts targets axis) length
    (unsigned_abs (limits_at limits axis).vmax) some (longest axis within)
    (omega (arith, sizes)))) in
    let a_some : 1 ≤ a = are.acceleration_is.most 1 (omega arith)
    (λ axis within. (let sizes = limit_sizes (limits_at limits axis) (axes.each axis within) in
    change_one (way_of starts targets axis) length (unsigned_abs (limits_at limits axis).amax) some
    (longest axis within) (omega (arith, sizes)))) in
    let v_most : v ≤ MOST_STEP = are.velocity_is.within in
    let a_most : a ≤ MOST_STEP = are.acceleration_is.within in
    let d_most : d ≤ MOST_STEP = are.deceleration_is.within in
    let a_within : a ≤ d = gains_within_losses count starts targets length limits v a d some axes
    are in
    limits_of_sizes length v a d small v_some v_most a_some a_within d_most

-- limits by their fields
abbrev pub limits_record : ℤ → ℤ → ℤ → ℤ → ℤ → Limits
limits_record lo hi vmax amax dmax =
    record { lo = lo; hi = hi; vmax = vmax; amax = amax; dmax = dmax }

-- a path of length 0 stands
pub standing_path : (count : ℕ) (starts targets : List ℤ) (limits : List Limits) →
    longest_way_of count starts targets ≡ 0 →
    path_limits_of count starts targets limits ≡ standing_limits
unfolding path_limits_of
standing_path count starts targets limits none = rw none refl

-- one with a length has its greatest rates
pub moving_path : (count : ℕ) (starts targets : List ℤ) (limits : List Limits) (length : ℕ) →
    length ≡ longest_way_of count starts targets → 0 < length →
    path_limits_of count starts targets limits
    ≡ record {
      lo = pos 0;
      hi = pos length;
      vmax = pos (path_velocity_of count starts targets length limits);
      amax = pos (path_acceleration_of count starts targets length limits);
      dmax = pos (path_deceleration_of count starts targets length limits);
    }
unfolding path_limits_of
moving_path count starts targets limits length is some =
    rw (← is, eq_false length 0 (λ e. omega arith)) refl

-- and so has a record of rates that are the greatest
pub moving_path_is : (count : ℕ) (starts targets : List ℤ) (limits : List Limits) (length v a d : ℕ)
    (h x y z : ℤ) → length ≡ longest_way_of count starts targets → 0 < length →
    AreGreatestRates starts targets length limits count v a d →
    h ≡ pos length → x ≡ pos v → y ≡ pos a → z ≡ pos d →
    limits_record (pos 0) h x y z ≡ path_limits_of count starts targets limits
moving_path_is count starts targets limits length v a d h x y z is some are h_is x_is y_is z_is =
    let rates = rates_of_the_path count starts targets length limits v a d are in
    rw (h_is, x_is, y_is, z_is, rates.0, rates.1, rates.2)
    (sym (moving_path count starts targets limits length is some))

pub limits_in_range_of : (count : ℕ) (starts targets : List ℤ) (limits : List Limits)
    (length v a d : ℕ) (h x y z : ℤ) → 0 < length → length ≤ MOST_WAY → AreAxesLimits count limits →
    ((axis : ℕ) → axis < count → way_of starts targets axis ≤ length) →
    AreGreatestRates starts targets length limits count v a d →
    h ≡ pos length → x ≡ pos v → y ≡ pos a → z ≡ pos d → AreLimits (limits_record (pos 0) h x y z)
limits_in_range_of count starts targets limits length v a d h x y z some small axes longest are h_is
    x_is y_is z_is =
    rw (h_is, x_is, y_is, z_is) (rates_are_limits count starts targets length limits v a d some
    small axes longest are)
