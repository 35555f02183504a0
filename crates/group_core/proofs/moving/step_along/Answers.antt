-- The place after the step is one of the path.
use Rattle.std.proofs.Common.{◌≡◌, arith, ap}
use Rattle.std.proofs.lemmas.Int.{ints}
use Rattle.plc_types.specs.declared.limits.Limits.{Limits}
use Rattle.group_core.proofs.moving.step_along.Goals as goal

pub stand_on-requires-clause-to_the_target : goal.stand_on-requires-clause-to_the_target
stand_on-requires-clause-to_the_target g c =
    let same : c.advance-ending.new.motion.limits.hi ≡ c.args.track.now.motion.limits.hi = ap (λ (l : Limits). l.hi) c.advance-ending.ensures.limits in
    let length = c.requires.length in
    let lo = c.advance-ending.ensures.kept.limits.lo_in_range in
    let hi = c.advance-ending.ensures.kept.limits.hi_in_range in
    let above = c.advance-ending.ensures.kept.kept.above in
    let below = c.advance-ending.ensures.kept.kept.below in
    omega (arith, ints, same, length, lo, hi, above, below)
