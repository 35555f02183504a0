-- An axis that is driven has small numbers.
-- for: power, command, axes_stay_kept and others
use Rattle.std.proofs.Common.{arith}
use Rattle.std.proofs.lemmas.Int.{ints}
use Rattle.std.specs.Prelude.{pos}
use Rattle.motion_numbers.specs.declared.TheConstants.{MOST_STEP}
use Rattle.axis_core.specs.Kept.{IsMoving, IsSmall}
use Rattle.axis_core.specs.Ranges.{IsBetween}
use Rattle.axis_core.specs.declared.axis.Axis.{Axis}

-- its setpoint lies within its limits, and its step within its greatest velocity
pub small_of : (a : Axis) → IsMoving a → IsSmall a
small_of a m =
    let l = m.limits in
    let k = m.kept in
    let above = k.above in
    let below = k.below in
    let speed = k.speed in
    let lo = l.lo_in_range in
    let fast = l.vmax_in_range in
    let top = m.top in
    record { setpoint = omega (arith, ints); step = omega (arith, ints) }

-- its greatest deceleration is one to brake by
pub dmax_between : (a : Axis) → IsMoving a → IsBetween (pos 1) a.limits.dmax (pos MOST_STEP)
dmax_between a m =
    let l = m.limits in
    let least = l.amax_positive in
    let order = l.amax_within_dmax in
    record { above = omega (arith, ints); below = l.dmax_in_range }
