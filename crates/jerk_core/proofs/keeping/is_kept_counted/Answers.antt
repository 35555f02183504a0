-- Setpoints are kept where their motion is.
use Rattle.std.proofs.Common.{◌≡◌, ◌↔◌, Bool, IsTrue, false, ℤ, ◌≤ℤ◌}
use Rattle.std.proofs.lemmas.Bool.{both_ways}
use Rattle.jerk_core.specs.declared.limits.JerkLimits.{JerkLimits}
use Rattle.jerk_core.specs.declared.rates.JerkRates.{JerkRates}
use Rattle.jerk_core.specs.declared.motions.Motion.{Motion}
use Rattle.jerk_core.specs.Rates.{IsKeptBy}
use Rattle.jerk_core.specs.Admissible.{AreJerkLimits, IsKeptByJerk, rates_of}
use Rattle.jerk_core.specs.Taken.{IsMotionUp, IsMotionDown}
use Rattle.jerk_core.proofs.Sides.{kept_motion_up, kept_motion_down, kept_by_motion_up, kept_by_motion_down}
use Rattle.jerk_core.proofs.keeping.is_kept_counted.Goals as goal

-- the setpoints rise, or don't
not_both : (b : Bool) (P Q : Type 0) → IsTrue b ↔ (P × Q) → b ≡ false → P → Q → ⊥
not_both b P Q iff off p q = both_ways b off (iff.1 (p, q))

-- upward
decides_up : (limits : JerkLimits) (rates : JerkRates) (first before now : ℤ) (motion : Motion) (b : Bool) → AreJerkLimits limits →
    limits.axis.lo ≤ℤ now → now ≤ℤ limits.axis.hi → rates ≡ rates_of limits → first ≤ℤ before → before ≤ℤ now →
    IsMotionUp limits first before now motion → IsTrue b ↔ IsKeptBy rates motion.ahead motion.last motion.speed →
    (IsTrue b → IsKeptByJerk limits first before now) × (IsKeptByJerk limits first before now → IsTrue b)
decides_up limits rates first before now motion b ok above below same rises on counts iff = (
  λ yes. kept_by_motion_up limits first before now motion ok above below counts (rw same at (iff.0 yes)),
  λ kept. iff.1 (rw same (kept_motion_up limits first before now motion ok kept rises on counts)),
)

-- downward
decides_down : (limits : JerkLimits) (rates : JerkRates) (first before now : ℤ) (motion : Motion) (b : Bool) → AreJerkLimits limits →
    limits.axis.lo ≤ℤ now → now ≤ℤ limits.axis.hi → rates ≡ rates_of limits → (first ≤ℤ before → before ≤ℤ now → ⊥) →
    IsMotionDown limits first before now motion → IsTrue b ↔ IsKeptBy rates motion.ahead motion.last motion.speed →
    (IsTrue b → IsKeptByJerk limits first before now) × (IsKeptByJerk limits first before now → IsTrue b)
decides_down limits rates first before now motion b ok above below same not_up counts iff = (
  λ yes. kept_by_motion_down limits first before now motion ok above below counts (rw same at (iff.0 yes)),
  λ kept. iff.1 (rw same (kept_motion_down limits first before now motion ok kept not_up counts)),
)

pub returns-then-rises-clause-value : goal.returns-then-rises-clause-value
returns-then-rises-clause-value g c =
    let within = c.is_within.ensures.0 c.if-not-is_within.false in
    let up = c.rises.ensures.0 c.if-rises.true in
    decides_up c.args.limits.now c.sizes.result c.args.at.now.first c.args.at.now.before c.args.at.now.current c.upward.result c.keeps_motion.result
    c.requires.limits within.0 within.1 c.sizes.ensures.value up.0 up.1 c.upward.ensures.is c.keeps_motion.ensures.value

pub returns-then-falls-clause-value : goal.returns-then-falls-clause-value
returns-then-falls-clause-value g c =
    let within = c.is_within.ensures.0 c.if-not-is_within.false in
    decides_down c.args.limits.now c.sizes-then-falls.result c.args.at.now.first c.args.at.now.before c.args.at.now.current c.downward.result c.keeps_motion-then-falls.result
    c.requires.limits within.0 within.1 c.sizes-then-falls.ensures.value (not_both _ _ _ c.rises.ensures c.if-rises.false) c.downward.ensures.is c.keeps_motion-then-falls.ensures.value
