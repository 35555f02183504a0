-- Toward one limit the step is cut to the room there, and on the other side there is room for it.
use Rattle.std.proofs.Common.{◌≡◌, pos, ◌-ℤ◌, unsigned_abs, min, to_z, of_z, w64, FitsSigned, to_z-of_z, ◌∙◌, arith}
use Rattle.std.proofs.lemmas.Int.{ints}
use Rattle.motion_numbers.specs.Run.{reach_of}
use Rattle.kin_core.proofs.Cuts.{cut_up, cut_down}
use Rattle.kin_core.proofs.taking.step_with_room.Goals as goal

pub returns-then-step-gt0-clause-value : goal.returns-then-step-gt0-clause-value
returns-then-step-gt0-clause-value c =
    let step_fits : FitsSigned w64 c.args.step = c.ranges.step in
    let dmax_fits : FitsSigned w64 c.args.limits.now.dmax = omega (arith, ints) in
    let cur_fits : FitsSigned w64 c.args.cur = c.ranges.cur in
    let hi_fits : FitsSigned w64 c.args.limits.now.hi = omega (arith, ints) in
    let room_fits : FitsSigned w64 (c.args.limits.now.hi -ℤ c.args.cur) = omega (arith, ints) in
    let reach : c.greatest_ramp.result ≡ min (unsigned_abs c.args.step) (reach_of (unsigned_abs (c.args.limits.now.hi -ℤ c.args.cur)) (unsigned_abs c.args.limits.now.dmax)) =
    simp to_z-of_z at c.greatest_ramp.ensures.value in
    let same : to_z w64 c.greatest_ramp.result ≡ pos c.greatest_ramp.result = omega (arith, ints) in
    same ∙ cut_up _ _ _ c.args.step (omega (arith, ints)) reach

pub returns-else-step-gt0-clause-value : goal.returns-else-step-gt0-clause-value
returns-else-step-gt0-clause-value c =
    let step_fits : FitsSigned w64 c.args.step = c.ranges.step in
    let dmax_fits : FitsSigned w64 c.args.limits.now.dmax = omega (arith, ints) in
    let cur_fits : FitsSigned w64 c.args.cur = c.ranges.cur in
    let lo_fits : FitsSigned w64 c.args.limits.now.lo = omega (arith, ints) in
    let room_fits : FitsSigned w64 (c.args.cur -ℤ c.args.limits.now.lo) = omega (arith, ints) in
    let size : c.unsigned_abs.result ≡ unsigned_abs c.args.step = simp to_z-of_z at c.unsigned_abs.ensures.value in
    let reach : c.greatest_ramp-else-step-gt0.result ≡ min c.unsigned_abs.result (reach_of (unsigned_abs (c.args.cur -ℤ c.args.limits.now.lo)) (unsigned_abs c.args.limits.now.dmax)) =
    simp to_z-of_z at c.greatest_ramp-else-step-gt0.ensures.value in
    let same : to_z w64 (of_z w64 (pos 0 -ℤ to_z w64 c.greatest_ramp-else-step-gt0.result)) ≡ (pos 0 -ℤ pos c.greatest_ramp-else-step-gt0.result) = omega (arith, ints) in
    same ∙ cut_down _ _ _ c.args.step (omega (arith, ints)) (rw size at reach)
