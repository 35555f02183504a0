-- Numbers cut to bounds, by other names of the bounds.
-- for: nearest_safe, taken_steps_keep_for_ever
use Rattle.std.specs.Prelude.{Bool, false, int_lt}
use Rattle.std.proofs.lemmas.Bool.{or_parts}
use Rattle.motion_numbers.specs.Ranges.{is_outside}
use Rattle.std.proofs.Common.{◌≡◌, sym, ℕ, ◌≤◌, ℤ, pos, neg_ℤ, ◌+ℤ◌, ◌-ℤ◌, ◌≤ℤ◌, ◌<ℤ◌, unsigned_abs, ◌∙◌, ap, min, w64, FitsSigned, arith}
use Rattle.std.specs.Int.{int_min, int_max}
use Rattle.std.proofs.lemmas.Int.{ints, clamps}
use Rattle.plc_types.specs.declared.limits.Limits.{Limits}
use Rattle.plc_types.specs.Limits.{AreLimits}
use Rattle.kin_core.specs.Admissible.{IsKept, least_step_after, greatest_step_after}

-- the greatest step that may follow is small
pub greatest_small : (limits : Limits) (old step : ℤ) → AreLimits limits → unsigned_abs old ≤ 10000000000 → step ≡ int_min limits.vmax (greatest_step_after limits old) → unsigned_abs step ≤ 10000000000
greatest_small limits old step ok small is = omega (arith, ints, clamps)

-- and so is the least
pub least_small : (limits : Limits) (old step : ℤ) → AreLimits limits → unsigned_abs old ≤ 10000000000 → step ≡ int_max (neg_ℤ limits.vmax) (least_step_after limits old) → unsigned_abs step ≤ 10000000000
least_small limits old step ok small is = omega (arith, ints, clamps)

-- and one between them
pub cut_small : (low high wanted step : ℤ) → unsigned_abs low ≤ 10000000000 → unsigned_abs high ≤ 10000000000 → step ≡ int_max low (int_min high wanted) → unsigned_abs step ≤ 10000000000
cut_small low high wanted step small_low small_high is = omega (arith, ints, clamps)

-- a step upward, cut to the room above, is cut to the room on either side
pub cut_up : (below above r : ℕ) (step : ℤ) → pos 0 <ℤ step → r ≡ min (unsigned_abs step) above → pos r ≡ int_max (neg_ℤ (pos below)) (int_min (pos above) step)
cut_up below above r step up is = omega (arith, ints, clamps)

-- and a step downward, cut to the room below
pub cut_down : (below above r : ℕ) (step : ℤ) → step ≤ℤ pos 0 → r ≡ min (unsigned_abs step) below → (pos 0 -ℤ pos r) ≡ int_max (neg_ℤ (pos below)) (int_min (pos above) step)
cut_down below above r step down is = omega (arith, ints, clamps)

-- two cuts, one after the other, are one, where some number passes both
pub cut_twice : (a b c d wanted step : ℤ) → int_max a c ≤ℤ int_min b d → step ≡ int_max a (int_min b wanted) → int_max c (int_min d step) ≡ int_max (int_max a c) (int_min (int_min b d) wanted)
cut_twice a b c d wanted step order is = omega (arith, ints, clamps)

-- a number cut to the same ends
pub same_cut : (r low low' high high' wanted : ℤ) → r ≡ int_max low (int_min high wanted) → low ≡ low' → high ≡ high' → r ≡ int_max low' (int_min high' wanted)
same_cut r low low' high high' wanted is least greatest = is ∙ ap (λ z. int_max z (int_min high wanted)) least ∙ ap (λ z. int_max low' (int_min z wanted)) greatest

-- limits fit, and so does a step that they change
pub limit_fits : (limit : ℤ) → pos 1 ≤ℤ limit → limit ≤ℤ pos 10000000000 → FitsSigned w64 limit
limit_fits limit some most = omega (arith, ints)

pub rise_fits : (limit old : ℤ) → pos 1 ≤ℤ limit → limit ≤ℤ pos 10000000000 → unsigned_abs old ≤ 10000000000 → FitsSigned w64 (old +ℤ limit)
rise_fits limit old some most small = omega (arith, ints)

pub fall_fits : (limit old : ℤ) → pos 1 ≤ℤ limit → limit ≤ℤ pos 10000000000 → unsigned_abs old ≤ 10000000000 → FitsSigned w64 (old -ℤ limit)
fall_fits limit old some most small = omega (arith, ints)

pub opposite_fits : (limit : ℤ) → pos 1 ≤ℤ limit → limit ≤ℤ pos 10000000000 → FitsSigned w64 (neg_ℤ limit)
opposite_fits limit some most = omega (arith, ints)

-- amax is a limit too
pub amax_most : (limits : Limits) → AreLimits limits → limits.amax ≤ℤ pos 10000000000
amax_most limits ok = omega (arith, ints)

pub dmax_some : (limits : Limits) → AreLimits limits → pos 1 ≤ℤ limits.dmax
dmax_some limits ok = omega (arith, ints)

-- below the least of two bounds, by other names of them
pub least_of : (r m b a v w : ℤ) → r ≡ int_min v m → m ≡ int_min b a → a ≡ w → r ≡ int_min v (int_min b w)
least_of r m b a v w outer inner last = outer ∙ ap (int_min v) (inner ∙ ap (int_min b) last)

-- above the greatest of two bounds
pub greatest_of : (r m b a v w : ℤ) → r ≡ int_max v m → m ≡ int_max b a → a ≡ w → r ≡ int_max v (int_max b w)
greatest_of r m b a v w outer inner last = outer ∙ ap (int_max v) (inner ∙ ap (int_max b) last)

-- zero less a number is its opposite
pub opposite : (z : ℤ) → (pos 0 -ℤ z) ≡ neg_ℤ z
opposite z = omega (arith, ints)

-- the step of a kept pair fits
pub step_fits : (limits : Limits) (before now : ℤ) → AreLimits limits → IsKept limits before now → FitsSigned w64 (now -ℤ before)
step_fits limits before now ok kept = let slow : pos (unsigned_abs (now -ℤ before)) ≤ℤ limits.vmax = kept.speed in omega (arith, ints)

-- a number that is not outside lies between
pub within_of : (outside : Bool) (low z high : ℤ) → outside ≡ false → outside ≡ is_outside low z high → (low ≤ℤ z) × (z ≤ℤ high)
within_of outside low z high inside is =
    let parts = or_parts (int_lt z low) (int_lt high z) (sym is ∙ inside) in
    let above : int_lt z low ≡ false = parts.0 in
    let below : int_lt high z ≡ false = parts.1 in
    (omega (arith, ints), omega (arith, ints))

-- a step that goes on in the old one's direction may follow it
pub record Follows (limits : Limits) (old step : ℤ) : Type 0 where
  pub falls : least_step_after limits old ≤ℤ step
  pub rises : step ≤ℤ greatest_step_after limits old
  pub speed : pos (unsigned_abs step) ≤ℤ limits.vmax

pub follows_up : (limits : Limits) (old step : ℤ) → AreLimits limits → pos 0 ≤ℤ old → pos 0 ≤ℤ step → step ≤ℤ limits.vmax →
    (old -ℤ limits.dmax) ≤ℤ step → step ≤ℤ (old +ℤ limits.amax) → Follows limits old step
follows_up limits old step ok up ahead fast falls rises = record {
  falls = omega (arith, ints, clamps, ok);
  rises = omega (arith, ints, clamps, ok);
  speed = omega (arith, ints);
}

pub follows_down : (limits : Limits) (old step : ℤ) → AreLimits limits → old ≤ℤ pos 0 → neg_ℤ limits.vmax ≤ℤ step → step ≤ℤ pos 0 →
    (old -ℤ limits.amax) ≤ℤ step → step ≤ℤ (old +ℤ limits.dmax) → Follows limits old step
follows_down limits old step ok down fast ahead falls rises = record {
  falls = omega (arith, ints, clamps, ok);
  rises = omega (arith, ints, clamps, ok);
  speed = omega (arith, ints);
}

-- a step between two ends is not cut
pub not_cut : (low high step : ℤ) → low ≤ℤ step → step ≤ℤ high → step ≡ int_max low (int_min high step)
not_cut low high step above below = omega (arith, ints, clamps)

pub not_cut_by : (limits : Limits) (old step : ℤ) → Follows limits old step →
    step ≡ int_max (int_max (neg_ℤ limits.vmax) (least_step_after limits old)) (int_min (int_min limits.vmax (greatest_step_after limits old)) step)
not_cut_by limits old step f =
    not_cut _ _ step (omega (arith, ints, clamps, f.falls, f.speed)) (omega (arith, ints, clamps, f.rises, f.speed))
