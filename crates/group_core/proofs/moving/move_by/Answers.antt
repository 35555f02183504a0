-- The pair after the step can be stopped.
use Rattle.std.proofs.Common.{◌≡◌, ℤ, pos, arith}
use Rattle.std.proofs.lemmas.Int.{ints}
use Rattle.group_core.specs.Tracks.{IsMotionKept}
use Rattle.plc_types.specs.Limits.{AreLimits}
use Rattle.kin_core.specs.Admissible.{IsKept}
use Rattle.plc_types.specs.declared.limits.Limits.{Limits}
use Rattle.group_core.proofs.moving.move_by.Goals as goal

motion-kept : (l : Limits) (b n x y : ℤ) → AreLimits l → l.lo ≡ pos 0 → IsKept l b n → x ≡ b → y ≡ n →
    IsMotionKept (record { limits = l; previous = x; place = y })
motion-kept l b n x y limits from k e f = record { limits = limits; from = from; kept = rw (e, f) k }

pub returns-clause-kept : goal.returns-clause-kept
returns-clause-kept c =
    let lo = c.requires.motion.limits.lo_in_range in
    let hi = c.requires.motion.limits.hi_in_range in
    let above = c.requires.motion.kept.above in
    let below = c.requires.motion.kept.below in
    let small = c.requires.step in
    motion-kept c.args.motion.now.limits _ _ _ _ c.requires.motion.limits c.requires.motion.from c.requires.kept (omega (arith, ints)) (omega (arith, ints))
