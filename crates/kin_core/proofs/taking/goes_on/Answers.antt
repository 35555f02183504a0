-- The step lies within what may follow, in the direction of the old one.
use Rattle.std.proofs.Common.{◌≡◌, pos, ◌+ℤ◌, ◌-ℤ◌, w64, FitsSigned, to_z-of_z, arith}
use Rattle.std.proofs.lemmas.Bool.{not-true}
use Rattle.std.proofs.lemmas.Int.{ints}
use Rattle.motion_numbers.specs.Ranges.{is_outside}
use Rattle.kin_core.proofs.Cuts.{follows_down, follows_up, within_of}
use Rattle.kin_core.proofs.taking.goes_on.Goals as goal

pub returns-then-not-is_outside : goal.returns-then-not-is_outside
returns-then-not-is_outside c = λ on.
    let l = c.args.limits.now in
    let old = c.args.old in
    let wanted = c.args.wanted in
    let old_fits : FitsSigned w64 old = c.ranges.old in
    let wanted_fits : FitsSigned w64 wanted = c.ranges.wanted in
    let vmax_fits : FitsSigned w64 l.vmax = omega (arith, ints) in
    let amax_fits : FitsSigned w64 l.amax = omega (arith, ints) in
    let dmax_fits : FitsSigned w64 l.dmax = omega (arith, ints) in
    let fall_fits : FitsSigned w64 (old -ℤ l.dmax) = omega (arith, ints) in
    let rise_fits : FitsSigned w64 (old +ℤ l.amax) = omega (arith, ints) in
    let fast_is : c.is_outside.result ≡ is_outside (pos 0) wanted l.vmax = simp to_z-of_z at c.is_outside.ensures in
    let near_is : c.is_outside-then-not-is_outside.result ≡ is_outside (old -ℤ l.dmax) wanted (old +ℤ l.amax) =
    simp to_z-of_z at c.is_outside-then-not-is_outside.ensures in
    let fast = within_of _ (pos 0) wanted l.vmax c.if-not-is_outside.true fast_is in
    let near = within_of _ (old -ℤ l.dmax) wanted (old +ℤ l.amax) (not-true _ on) near_is in
    let f = follows_up l old wanted c.requires.ranges (omega (arith, ints)) fast.0 fast.1 near.0 near.1 in
    ((f.falls, f.rises), f.speed)

pub returns-then-not-is_outside-2 : goal.returns-then-not-is_outside-2
returns-then-not-is_outside-2 c = λ on.
    let l = c.args.limits.now in
    let old = c.args.old in
    let wanted = c.args.wanted in
    let old_fits : FitsSigned w64 old = c.ranges.old in
    let wanted_fits : FitsSigned w64 wanted = c.ranges.wanted in
    let vmax_fits : FitsSigned w64 l.vmax = omega (arith, ints) in
    let amax_fits : FitsSigned w64 l.amax = omega (arith, ints) in
    let dmax_fits : FitsSigned w64 l.dmax = omega (arith, ints) in
    let most_fits : FitsSigned w64 (pos 0 -ℤ l.vmax) = omega (arith, ints) in
    let fall_fits : FitsSigned w64 (old -ℤ l.amax) = omega (arith, ints) in
    let rise_fits : FitsSigned w64 (old +ℤ l.dmax) = omega (arith, ints) in
    let fast_is : c.is_outside-else-old-ge0.result ≡ is_outside (pos 0 -ℤ l.vmax) wanted (pos 0) = simp to_z-of_z at c.is_outside-else-old-ge0.ensures in
    let near_is : c.is_outside-then-not-is_outside-2.result ≡ is_outside (old -ℤ l.amax) wanted (old +ℤ l.dmax) =
    simp to_z-of_z at c.is_outside-then-not-is_outside-2.ensures in
    let fast = within_of _ (pos 0 -ℤ l.vmax) wanted (pos 0) c.if-not-is_outside-2.true fast_is in
    let near = within_of _ (old -ℤ l.amax) wanted (old +ℤ l.dmax) (not-true _ on) near_is in
    let f = follows_down l old wanted c.requires.ranges (omega (arith, ints)) (omega (arith, ints, fast)) fast.1 near.0 near.1 in
    ((f.falls, f.rises), f.speed)
