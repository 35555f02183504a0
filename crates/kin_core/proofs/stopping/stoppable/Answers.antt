-- Only the way in the direction of the step is to be looked at.
use Rattle.std.proofs.Common.{◌-◌, ◌≤◌, ◌↔◌, IsTrue, ◌-ℤ◌, unsigned_abs, w64, FitsSigned, to_z-of_z, arith}
use Rattle.std.proofs.lemmas.Int.{ints}
use Rattle.motion_numbers.specs.Run.{run_of}
use Rattle.kin_core.proofs.Stops.{stoppable_up, stoppable_down}
use Rattle.kin_core.proofs.stopping.stoppable.Goals as goal

pub returns-then-prev-cur : goal.returns-then-prev-cur
returns-then-prev-cur c =
    let prev_fits : FitsSigned w64 c.args.prev = c.ranges.prev in
    let cur_fits : FitsSigned w64 c.args.cur = c.ranges.cur in
    let dmax_fits : FitsSigned w64 c.args.limits.now.dmax = omega (arith, ints) in
    let hi_fits : FitsSigned w64 c.args.limits.now.hi = omega (arith, ints) in
    let step_fits : FitsSigned w64 (c.args.cur -ℤ c.args.prev) = omega (arith, ints) in
    let room_fits : FitsSigned w64 (c.args.limits.now.hi -ℤ c.args.cur) = omega (arith, ints) in
    let value : IsTrue c.stops_within.result ↔ (run_of (unsigned_abs (c.args.cur -ℤ c.args.prev) - unsigned_abs c.args.limits.now.dmax) (unsigned_abs c.args.limits.now.dmax) ≤ unsigned_abs (c.args.limits.now.hi -ℤ c.args.cur)) =
    simp to_z-of_z at c.stops_within.ensures.value in
    let law = stoppable_up c.ways_to_rest.ensures c.args.limits.now c.args.prev c.args.cur c.requires.ranges c.requires.above c.requires.below c.requires.speed (omega (arith, ints)) in
    record { value = (λ true. law.0 (value.0 true), λ stoppable. value.1 (law.1 stoppable)) }

pub returns-else-prev-cur : goal.returns-else-prev-cur
returns-else-prev-cur c =
    let prev_fits : FitsSigned w64 c.args.prev = c.ranges.prev in
    let cur_fits : FitsSigned w64 c.args.cur = c.ranges.cur in
    let dmax_fits : FitsSigned w64 c.args.limits.now.dmax = omega (arith, ints) in
    let lo_fits : FitsSigned w64 c.args.limits.now.lo = omega (arith, ints) in
    let step_fits : FitsSigned w64 (c.args.prev -ℤ c.args.cur) = omega (arith, ints) in
    let room_fits : FitsSigned w64 (c.args.cur -ℤ c.args.limits.now.lo) = omega (arith, ints) in
    let value : IsTrue c.stops_within-else-prev-cur.result ↔ (run_of (unsigned_abs (c.args.prev -ℤ c.args.cur) - unsigned_abs c.args.limits.now.dmax) (unsigned_abs c.args.limits.now.dmax) ≤ unsigned_abs (c.args.cur -ℤ c.args.limits.now.lo)) =
    simp to_z-of_z at c.stops_within-else-prev-cur.ensures.value in
    let law = stoppable_down c.ways_to_rest.ensures c.args.limits.now c.args.prev c.args.cur c.requires.ranges c.requires.above c.requires.below c.requires.speed (omega (arith, ints)) in
    record { value = (λ true. law.0 (value.0 true), λ stoppable. value.1 (law.1 stoppable)) }
