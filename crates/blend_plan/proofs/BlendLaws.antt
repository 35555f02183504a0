-- Where a blend applies, its velocity, and what a crossing meets.
-- for: crossings_have_the_target_between, blends_without_steps_brake
use Rattle.std.proofs.Common.{◌≡◌, ◌↔◌, true, ◌&&◌, ◌||◌, int_le, int_lt, ℤ, pos, ◌-ℤ◌, ◌≤ℤ◌, ◌≤◌, unsigned_abs, arith, inl, inr}
use Rattle.std.specs.Int.{int_max}
use Rattle.std.proofs.lemmas.Bool.{and_parts, and_from, or_left, or_right}
use Rattle.std.proofs.lemmas.Int.{ints, clamps}
use Rattle.motion_numbers.specs.Run.{run_of}
use Rattle.command_pool.specs.declared.rates.Rates.{Rates}
use Rattle.blend_plan.specs.declared.modes.Blend.{Blend}
use Rattle.blend_plan.specs.declared.modes.Blend.TheVariants.{Low, Previous, Next, High}
use Rattle.blend_plan.specs.Blends.{LieAhead, BlendApplies, lie_ahead, blend_applies, blend_velocity_of}
use Rattle.blend_plan.specs.BlendStep.{PassesFirst}
use Rattle.blend_plan.specs.Sums.{rise_of}
use Rattle.blend_plan.proofs.BlendSizes.{either-says}
use Rattle.blend_plan.proofs.Slowings.{above-zero}
use Rattle.blend_plan.proofs.Speedings.{rise-ge}

-- what the test of two targets says
pub ahead-says : (l1 l2 old : ℤ) → lie_ahead l1 l2 old ≡ true → LieAhead l1 l2 old
ahead-says l1 l2 old h =
    let all = and_parts (int_le (pos 0) l1 && int_lt l1 l2) (int_le (pos 0) old) h in
    let two = and_parts (int_le (pos 0) l1) (int_lt l1 l2) all.0 in
    let near : int_le (pos 0) l1 ≡ true = two.0 in
    let order : int_lt l1 l2 ≡ true = two.1 in
    let forward : int_le (pos 0) old ≡ true = all.1 in
    record { first = omega (arith, ints); second = omega (arith, ints); old_step = omega (arith, ints) }

pub ahead-holds : (l1 l2 old : ℤ) → LieAhead l1 l2 old → lie_ahead l1 l2 old ≡ true
ahead-holds l1 l2 old h =
    let near : int_le (pos 0) l1 ≡ true = grind (arith, ints) in
    let order : int_lt l1 l2 ≡ true = grind (arith, ints) in
    let forward : int_le (pos 0) old ≡ true = grind (arith, ints) in
    and_from _ _ (and_from _ _ near order) forward

pub applies-by-test : (target1 target2 before now : ℤ) →
    (blend_applies target1 target2 before now ≡ true) ↔ BlendApplies target1 target2 before now
unfolding blend_applies
applies-by-test target1 target2 before now =
    (λ h. either-says _ _ h (λ up. inl (ahead-says _ _ _ up)) (λ down. inr (ahead-says _ _ _ down)), holds)
  where
    holds : BlendApplies target1 target2 before now →
        (lie_ahead (target1 -ℤ now) (target2 -ℤ now) (now -ℤ before)
        || lie_ahead (now -ℤ target1) (now -ℤ target2) (before -ℤ now)) ≡ true
    holds (inl up) = or_left _ _ (ahead-holds _ _ _ up)
    holds (inr down) = or_right _ _ (ahead-holds _ _ _ down)

pub velocity-least : (mode : Blend) (first second : ℤ) → pos 1 ≤ℤ first → pos 1 ≤ℤ second →
    pos 1 ≤ℤ blend_velocity_of mode first second
velocity-least Low first second p q = omega (arith, ints, clamps)
velocity-least Previous first second p q = p
velocity-least Next first second p q = q
velocity-least High first second p q = omega (arith, ints, clamps)

pub velocity-most : (mode : Blend) (first second : ℤ) → blend_velocity_of mode first second ≤ℤ int_max first second
velocity-most Low first second = omega (arith, ints, clamps)
velocity-most Previous first second = omega (arith, ints, clamps)
velocity-most Next first second = omega (arith, ints, clamps)
velocity-most High first second = omega (arith, ints, clamps)

-- a step at most vb that reaches the first target meets the second alternative where its run fits
pub crossing-passes : (l1 l2 vb u : ℤ) (first second : Rates) → pos 0 ≤ℤ l1 → l1 ≤ℤ u → u ≤ℤ vb →
    PassesFirst l1 l2 first second vb u ↔ (pos (run_of (unsigned_abs u) (unsigned_abs second.d)) ≤ℤ l2)
crossing-passes l1 l2 vb u first second way reached slow = (
  λ passes. passes.run,
  λ run. record {
    faster = inr (let rise : unsigned_abs vb ≤ rise_of (unsigned_abs u) (unsigned_abs vb) (unsigned_abs first.a) =
        rise-ge (unsigned_abs u) (unsigned_abs vb) (unsigned_abs first.a) in omega (arith, ints));
    velocity = omega (arith, ints, clamps);
    slowed = rw (above-zero (unsigned_abs u) (unsigned_abs vb) (unsigned_abs first.d) (omega (arith, ints))) way;
    run = run;
  },
)
