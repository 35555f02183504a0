-- The step by the move's own rates is a step of the generator.
use Rattle.std.proofs.Common.{◌≡◌, ◌≤◌, pos, ◌≤ℤ◌, to_z, of_z, w64, FitsSigned, to_z-of_z, arith}
use Rattle.std.proofs.lemmas.Int.{ints}
use Rattle.motion_numbers.specs.Ranges.{IsPlace}
use Rattle.otg.specs.declared.generator.Otg.{Otg}
use Rattle.otg.specs.Open.{shifted_of}
use Rattle.otg.specs.Own.{HasTargetAbove, IsOwnMove}
use Rattle.otg.proofs.OwnMoves.{own_up, own_done, own_small, IsDoneOwn}
use Rattle.otg.proofs.own.steps_up.Goals as goal

-- the setpoint is a place
current_of : (otg : Otg) → IsOwnMove otg → HasTargetAbove otg → IsPlace otg.current
current_of otg own target =
    let most : IsPlace otg.hi = own.limits.places.hi_in_range in
    let least : IsPlace otg.lo = own.limits.places.lo_in_range in
    let above : otg.lo ≤ℤ otg.current = target.above in let toward : otg.current ≤ℤ otg.target = target.toward in let within : otg.target ≤ℤ otg.hi = target.within in
    omega (arith, ints)

pub above-requires-clause-speed : goal.above-requires-clause-speed
above-requires-clause-speed g c =
    own_small c.args.otg.now _ _ _ c.in-Some.speed (c.is_own_move.ensures.0 c.if-not-is_own_move.false) (c.speed_of_move.ensures.found c.in-Some.speed c.in-Some.is)

pub returns-clause-opened : goal.returns-clause-opened
returns-clause-opened g c = λ yes.
    let own : IsOwnMove c.args.otg.now = c.is_own_move.ensures.0 c.if-not-is_own_move.false in
    let here : IsPlace c.args.otg.now.current = current_of c.args.otg.now own (c.has_target_above.ensures.0 c.if-not-has_target_above.false) in
    let fits : FitsSigned w64 c.above.result = record { sfits = c.above.type_inv } in
    let same : to_z w64 (of_z w64 c.above.result) ≡ c.above.result = to_z-of_z fits in
    let is : c.shifted-next.result ≡ shifted_of c.args.otg.now c.above.result = rw same at c.shifted-next.ensures in
    let small : c.in-Some.speed ≤ 10000000000 = own_small c.args.otg.now _ _ _ c.in-Some.speed own (c.speed_of_move.ensures.found c.in-Some.speed c.in-Some.is) in
    let done : IsDoneOwn c.args.otg.now c.shifted-next.result =
    own_done c.args.otg.now c.shifted-next.result (pos c.in-Some.speed) c.above.result
    (own_up c.args.otg.now c.in-Some.speed own (c.rises.ensures.0 c.if-not-rises.false) (c.has_target_above.ensures.0 c.if-not-has_target_above.false)
    (c.speed_of_move.ensures.found c.in-Some.speed c.in-Some.is)) (omega (arith, ints, c.above.ensures)) is in
    (done.opened, done.opens)

pub returns-clause-step : goal.returns-clause-step
returns-clause-step g c = λ yes.
    let own : IsOwnMove c.args.otg.now = c.is_own_move.ensures.0 c.if-not-is_own_move.false in
    let here : IsPlace c.args.otg.now.current = current_of c.args.otg.now own (c.has_target_above.ensures.0 c.if-not-has_target_above.false) in
    let fits : FitsSigned w64 c.above.result = record { sfits = c.above.type_inv } in
    let same : to_z w64 (of_z w64 c.above.result) ≡ c.above.result = to_z-of_z fits in
    let is : c.shifted-next.result ≡ shifted_of c.args.otg.now c.above.result = rw same at c.shifted-next.ensures in
    let small : c.in-Some.speed ≤ 10000000000 = own_small c.args.otg.now _ _ _ c.in-Some.speed own (c.speed_of_move.ensures.found c.in-Some.speed c.in-Some.is) in
    let done : IsDoneOwn c.args.otg.now c.shifted-next.result =
    own_done c.args.otg.now c.shifted-next.result (pos c.in-Some.speed) c.above.result
    (own_up c.args.otg.now c.in-Some.speed own (c.rises.ensures.0 c.if-not-rises.false) (c.has_target_above.ensures.0 c.if-not-has_target_above.false)
    (c.speed_of_move.ensures.found c.in-Some.speed c.in-Some.is)) (omega (arith, ints, c.above.ensures)) is in
    done.step
