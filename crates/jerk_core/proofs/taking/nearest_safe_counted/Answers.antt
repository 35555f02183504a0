-- Upward the nearest step is taken, and downward its opposite.
use Rattle.std.proofs.Common.{◌≡◌, ◌≤◌, ℤ, neg_ℤ, ◌-ℤ◌, ◌≤ℤ◌, unsigned_abs, w64, FitsSigned, to_z-of_z, Bool, IsTrue, ◌↔◌, false, arith}
use Rattle.std.proofs.lemmas.Int.{ints}
use Rattle.std.proofs.lemmas.Bool.{both_ways}
use Rattle.motion_numbers.specs.Ranges.{IsStep}
use Rattle.jerk_core.specs.declared.limits.JerkLimits.{JerkLimits}
use Rattle.jerk_core.specs.declared.rates.JerkRates.{JerkRates}
use Rattle.jerk_core.specs.declared.motions.Motion.{Motion}
use Rattle.jerk_core.specs.Rates.{IsKeptBy}
use Rattle.jerk_core.specs.Admissible.{AreJerkLimits, IsKeptByJerk, IsTakenByJerk, rates_of}
use Rattle.jerk_core.specs.Taken.{IsSafeFrom, IsMotionUp, IsMotionDown}
use Rattle.jerk_core.proofs.Sides.{kept_motion_up, kept_motion_down, last_most, taken_up, taken_down}
use Rattle.jerk_core.proofs.taking.nearest_safe_counted.Goals as goal

-- the setpoints rise, or don't
not_both : (b : Bool) (P Q : Type 0) → IsTrue b ↔ (P × Q) → b ≡ false → P → Q → ⊥
not_both b P Q iff off p q = both_ways b off (iff.1 (p, q))

-- the motion upward is kept by the sizes of the limits
kept_up : (limits : JerkLimits) (rates : JerkRates) (first before now : ℤ) (motion : Motion) → AreJerkLimits limits → IsKeptByJerk limits first before now →
    rates ≡ rates_of limits → first ≤ℤ before → before ≤ℤ now → IsMotionUp limits first before now motion →
    IsKeptBy rates motion.ahead motion.last motion.speed
kept_up limits rates first before now motion ok kept same rises on counts = rw same (kept_motion_up limits first before now motion ok kept rises on counts)

-- and downward
kept_down : (limits : JerkLimits) (rates : JerkRates) (first before now : ℤ) (motion : Motion) → AreJerkLimits limits → IsKeptByJerk limits first before now →
    rates ≡ rates_of limits → (first ≤ℤ before → before ≤ℤ now → ⊥) → IsMotionDown limits first before now motion →
    IsKeptBy rates motion.ahead motion.last motion.speed
kept_down limits rates first before now motion ok kept same not_up counts = rw same (kept_motion_down limits first before now motion ok kept not_up counts)

-- the taken step upward, as the code has it
took_up : (limits : JerkLimits) (rates : JerkRates) (first before now wanted step result : ℤ) (motion : Motion) → AreJerkLimits limits → IsKeptByJerk limits first before now →
    rates ≡ rates_of limits → first ≤ℤ before → before ≤ℤ now → IsMotionUp limits first before now motion → result ≡ step → IsSafeFrom rates motion step →
    ((other : ℤ) → IsSafeFrom rates motion other → unsigned_abs (step -ℤ wanted) ≤ unsigned_abs (other -ℤ wanted)) →
    IsTakenByJerk limits first before now wanted result
took_up limits rates first before now wanted step result motion ok kept same rises on counts is safe nearest =
    rw is (taken_up limits first before now wanted step motion ok kept rises on counts (rw same at safe) (rw same at nearest))

-- and downward
took_down : (limits : JerkLimits) (rates : JerkRates) (first before now wanted step result back : ℤ) (motion : Motion) → AreJerkLimits limits → IsKeptByJerk limits first before now →
    rates ≡ rates_of limits → (first ≤ℤ before → before ≤ℤ now → ⊥) → IsMotionDown limits first before now motion → result ≡ neg_ℤ step → back ≡ neg_ℤ wanted →
    IsSafeFrom rates motion step →
    ((other : ℤ) → IsSafeFrom rates motion other → unsigned_abs (step -ℤ back) ≤ unsigned_abs (other -ℤ back)) →
    IsTakenByJerk limits first before now wanted result
took_down limits rates first before now wanted step result back motion ok kept same not_up counts is opposite safe nearest =
    rw is (taken_down limits first before now wanted step motion ok kept not_up counts (rw same at safe) (rw (opposite, same) at nearest))

pub nearest_ahead-requires-clause-kept : goal.nearest_ahead-requires-clause-kept
nearest_ahead-requires-clause-kept g c =
    let up = c.rises.ensures.0 c.if-rises.true in
    kept_up c.args.limits.now c.sizes-rates.result c.args.at.now.first c.args.at.now.before c.args.at.now.current c.upward.result c.requires.limits c.requires.kept
    c.sizes-rates.ensures.value up.0 up.1 c.upward.ensures.is

pub nearest_ahead-requires-else-rises-clause-kept : goal.nearest_ahead-requires-else-rises-clause-kept
nearest_ahead-requires-else-rises-clause-kept g c =
    kept_down c.args.limits.now c.sizes-rates.result c.args.at.now.first c.args.at.now.before c.args.at.now.current c.downward.result c.requires.limits c.requires.kept
    c.sizes-rates.ensures.value (not_both _ _ _ c.rises.ensures c.if-rises.false) c.downward.ensures.is

pub nearest_ahead-requires-else-rises-clause-last : goal.nearest_ahead-requires-else-rises-clause-last
nearest_ahead-requires-else-rises-clause-last g c =
    last_most c.sizes-rates.result c.downward.result.ahead c.downward.result.last c.downward.result.speed c.sizes-rates.ensures.ranges
    (nearest_ahead-requires-else-rises-clause-kept g c)

pub returns-then-rises-clause-taken : goal.returns-then-rises-clause-taken
returns-then-rises-clause-taken g c =
    let up = c.rises.ensures.0 c.if-rises.true in
    let fits : FitsSigned w64 c.nearest_ahead.result = record { sfits = c.nearest_ahead.type_inv } in
    took_up c.args.limits.now c.sizes-rates.result c.args.at.now.first c.args.at.now.before c.args.at.now.current c.args.wanted c.nearest_ahead.result _ c.upward.result
    c.requires.limits c.requires.kept c.sizes-rates.ensures.value up.0 up.1 c.upward.ensures.is (to_z-of_z fits) c.nearest_ahead.ensures.safe
    (λ other safe. let wanted_fits : FitsSigned w64 c.args.wanted = c.ranges.wanted in simp to_z-of_z at (c.nearest_ahead.ensures.nearest other safe))

pub returns-else-rises-clause-taken : goal.returns-else-rises-clause-taken
returns-else-rises-clause-taken g c =
    let fits : FitsSigned w64 c.nearest_ahead-else-rises.result = record { sfits = c.nearest_ahead-else-rises.type_inv } in
    let small : IsStep c.nearest_ahead-else-rises.result = c.nearest_ahead-else-rises.ensures.small in
    took_down c.args.limits.now c.sizes-rates.result c.args.at.now.first c.args.at.now.before c.args.at.now.current c.args.wanted c.nearest_ahead-else-rises.result _ _ c.downward.result
    c.requires.limits c.requires.kept c.sizes-rates.ensures.value (not_both _ _ _ c.rises.ensures c.if-rises.false) c.downward.ensures.is
    (omega (arith, ints)) (omega (arith, ints)) c.nearest_ahead-else-rises.ensures.safe c.nearest_ahead-else-rises.ensures.nearest
