-- The pair after the step can be stopped.
use Rattle.std.proofs.Common.{◌≡◌, ℤ, arith}
use Rattle.std.proofs.lemmas.Int.{ints}
use Rattle.kin_core.specs.Admissible.{IsKept}
use Rattle.plc_types.specs.declared.limits.Limits.{Limits}
use Rattle.group_core.proofs.moving.taken.Goals as goal

kept-as : (l : Limits) (b n x y : ℤ) → b ≡ x → n ≡ y → IsKept l b n → IsKept l x y
kept-as l b n x y e f k = rw (← e, ← f) k

pub returns-clause-kept : goal.returns-clause-kept
returns-clause-kept c =
    let lo = c.requires.motion.limits.lo_in_range in
    let hi = c.requires.motion.limits.hi_in_range in
    let above = c.requires.motion.kept.above in
    let below = c.requires.motion.kept.below in
    let small = c.nearest_safe.ensures.small in
    kept-as c.args.motion.now.limits _ _ _ _ (omega (arith, ints)) (omega (arith, ints)) c.nearest_safe.ensures.kept
