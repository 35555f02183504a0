-- The fastest speed that may follow a motion: where it leaves a kept motion, the motion it follows
-- is kept.
-- for: keeps, safe_speed
use Rattle.std.proofs.Common.{◌≡◌, ℕ, ◌+◌, ◌-◌, ◌*◌, ◌≤◌, min, Bool, IsTrue, ◌↔◌, false, Some, arith}
use Rattle.std.proofs.lemmas.Bool.{both_ways}
use Rattle.motion_numbers.specs.Run.{reach_of}
use Rattle.jerk_core.specs.declared.rates.JerkRates.{JerkRates}
use Rattle.jerk_core.specs.Braking.{braked_of, way_of}
use Rattle.jerk_core.specs.Rates.{AreJerkRates, IsKeptBy, IsLeftBy, IsSafeBy}
use Rattle.jerk_core.proofs.Brakes.{reach_within}
use Rattle.jerk_core.proofs.KeptMotions.{braked_safe, falls_within, lands_within, within_lands, tops_within, safe_below_fastest, safe_of_left, kept_before}

-- a motion that is kept in some room is kept in any that its way to rest fits
pub kept_in : (rates : JerkRates) (some room w v : ℕ) → IsKeptBy rates some w v → way_of rates.d rates.j w v ≤ room → IsKeptBy rates room w v
kept_in rates some room w v kept fits = record {
  speed = kept.speed;
  gains = kept.gains;
  loses = kept.loses;
  lands = kept.lands;
  tops = kept.tops;
  fits = fits;
}

-- the fastest speed is safe where the way behind it fits
pub fastest_safe : (rates : JerkRates) (some room w v x : ℕ) → AreJerkRates rates → IsKeptBy rates some w v →
    x ≡ min (2 * v + rates.j - w) (v + min rates.a (reach_of (rates.v - v) rates.j)) →
    (x ≤ room) × (way_of rates.d rates.j v x ≤ room - x) → IsSafeBy rates room w v x
fastest_safe rates some room w v x ok kept is fits =
    let low : IsSafeBy rates some w v (braked_of rates.d rates.j w v) =
    braked_safe rates.v rates.a rates.d rates.j some w v (omega (arith, ok.d_least)) (omega (arith, ok.j_least)) kept in
    let least : braked_of rates.d rates.j w v ≤ min (2 * v + rates.j - w) (v + min rates.a (reach_of (rates.v - v) rates.j)) =
    safe_below_fastest rates.v rates.a rates.d rates.j some w v (braked_of rates.d rates.j w v) (omega (arith, ok.j_least)) low in
    let landing : v ≤ braked_of rates.d rates.j w v + reach_of v rates.j =
    within_lands v (braked_of rates.d rates.j w v) rates.j (omega (arith, ok.j_least)) low.after.kept.lands in
    let falls : w ≤ v + rates.j + reach_of v rates.j = falls_within w v rates.j (omega (arith, ok.j_least)) kept.lands in
    let slow : v ≤ rates.v = kept.speed in
    let top = tops_within rates.v v x rates.j (omega (arith, ok.j_least)) slow (omega arith) in
    record {
      bends = omega (arith, low.bends);
      rises = omega (arith, reach_within v rates.j (omega (arith, ok.j_least)));
      after = record {
        within = fits.0;
        kept = record {
          speed = omega (arith, top);
          gains = omega arith;
          loses = omega (arith, low.after.kept.loses);
          lands = lands_within v x rates.j (omega (arith, ok.j_least)) (omega arith);
          tops = top;
          fits = fits.1;
        };
      };
    }

-- and then the motion that it follows is kept
pub fastest_kept : (rates : JerkRates) (some room w v x : ℕ) → AreJerkRates rates → IsKeptBy rates some w v → IsSafeBy rates room w v x → IsKeptBy rates room w v
fastest_kept rates some room w v x ok kept safe =
    kept_before rates.v rates.a rates.d rates.j room w v x (omega (arith, ok.d_least)) (omega (arith, ok.j_least)) kept.speed kept.gains kept.loses safe

-- no safe speed is above the fastest
pub below_fastest : (rates : JerkRates) (room w v x y : ℕ) → AreJerkRates rates →
    x ≡ min (2 * v + rates.j - w) (v + min rates.a (reach_of (rates.v - v) rates.j)) → IsSafeBy rates room w v y → y ≤ x
below_fastest rates room w v x y ok is safe =
    let top : y ≤ min (2 * v + rates.j - w) (v + min rates.a (reach_of (rates.v - v) rates.j)) =
    safe_below_fastest rates.v rates.a rates.d rates.j room w v y (omega (arith, ok.j_least)) safe in
    omega arith

-- braking is safe
pub braking_safe : (rates : JerkRates) (room w v b : ℕ) → AreJerkRates rates → IsKeptBy rates room w v → b ≡ braked_of rates.d rates.j w v → IsSafeBy rates room w v b
braking_safe rates room w v b ok kept is =
    rw is (braked_safe rates.v rates.a rates.d rates.j room w v (omega (arith, ok.d_least)) (omega (arith, ok.j_least)) kept)

-- what is left between braking and the fastest is safe
pub between_safe : (rates : JerkRates) (room w v b x top : ℕ) → AreJerkRates rates → IsKeptBy rates room w v → b ≡ braked_of rates.d rates.j w v →
    top ≡ min (2 * v + rates.j - w) (v + min rates.a (reach_of (rates.v - v) rates.j)) → b ≤ x → x ≤ top → IsLeftBy rates room v x → IsSafeBy rates room w v x
between_safe rates room w v b x top ok kept is fast above below left =
    safe_of_left rates.v rates.a rates.d rates.j room w v x (omega (arith, ok.d_least)) (omega (arith, ok.j_least)) kept (omega arith) (omega arith) left

-- what a test that failed says of a speed
pub speed_fails : (b : Bool) (rates : JerkRates) (room speed most : ℕ) → IsTrue b ↔ ((most ≤ room) × (way_of rates.d rates.j speed most ≤ room - most)) → b ≡ false →
    IsLeftBy rates room speed most → ⊥
speed_fails b rates room speed most iff off left = both_ways b off (iff.1 (left.within, left.kept.fits))

-- the value of an option
pub some_is : (a b : ℕ) → Some a ≡ Some b → b ≡ a
some_is a b is = cc
