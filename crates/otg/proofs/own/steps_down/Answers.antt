-- The step by the move's own rates is a step of the generator.
use Rattle.std.proofs.Common.{◌≡◌, ◌≤◌, pos, neg_ℤ, ◌≤ℤ◌, to_z, of_z, w64, FitsSigned, to_z-of_z, arith}
use Rattle.std.proofs.lemmas.Int.{ints}
use Rattle.motion_numbers.specs.Ranges.{IsPlace}
use Rattle.otg.specs.declared.generator.Otg.{Otg}
use Rattle.otg.specs.Open.{shifted_of}
use Rattle.otg.specs.Own.{HasTargetBelow, IsOwnMove}
use Rattle.otg.proofs.OwnMoves.{own_down, own_done, own_small, IsDoneOwn}
use Rattle.otg.proofs.own.steps_down.Goals as goal

-- the setpoint is a place
current_of : (otg : Otg) → IsOwnMove otg → HasTargetBelow otg → IsPlace otg.current
current_of otg own target =
    let most : IsPlace otg.hi = own.limits.places.hi_in_range in
    let least : IsPlace otg.lo = own.limits.places.lo_in_range in
    let below : otg.current ≤ℤ otg.hi = target.below in let toward : otg.target ≤ℤ otg.current = target.toward in let within : otg.lo ≤ℤ otg.target = target.within in
    omega (arith, ints)

pub below-requires-clause-speed : goal.below-requires-clause-speed
below-requires-clause-speed g c =
    own_small c.args.otg.now _ _ _ c.in-Some.speed (c.is_own_move.ensures.0 c.if-not-is_own_move.false) (c.speed_of_move.ensures.found c.in-Some.speed c.in-Some.is)

pub returns-clause-opened : goal.returns-clause-opened
returns-clause-opened g c = λ yes.
    let own : IsOwnMove c.args.otg.now = c.is_own_move.ensures.0 c.if-not-is_own_move.false in
    let here : IsPlace c.args.otg.now.current = current_of c.args.otg.now own (c.has_target_below.ensures.0 c.if-not-has_target_below.false) in
    let fits : FitsSigned w64 c.below.result = record { sfits = c.below.type_inv } in
    let same : to_z w64 (of_z w64 c.below.result) ≡ c.below.result = to_z-of_z fits in
    let is : c.shifted-next.result ≡ shifted_of c.args.otg.now c.below.result = rw same at c.shifted-next.ensures in
    let small : c.in-Some.speed ≤ 10000000000 = own_small c.args.otg.now _ _ _ c.in-Some.speed own (c.speed_of_move.ensures.found c.in-Some.speed c.in-Some.is) in
    let done : IsDoneOwn c.args.otg.now c.shifted-next.result =
    own_done c.args.otg.now c.shifted-next.result (neg_ℤ (pos c.in-Some.speed)) c.below.result
    (own_down c.args.otg.now c.in-Some.speed own (c.falls.ensures.0 c.if-not-falls.false) (c.has_target_below.ensures.0 c.if-not-has_target_below.false)
    (c.speed_of_move.ensures.found c.in-Some.speed c.in-Some.is)) (omega (arith, ints, c.below.ensures)) is in
    (done.opened, done.opens)

pub returns-clause-step : goal.returns-clause-step
returns-clause-step g c = λ yes.
    let own : IsOwnMove c.args.otg.now = c.is_own_move.ensures.0 c.if-not-is_own_move.false in
    let here : IsPlace c.args.otg.now.current = current_of c.args.otg.now own (c.has_target_below.ensures.0 c.if-not-has_target_below.false) in
    let fits : FitsSigned w64 c.below.result = record { sfits = c.below.type_inv } in
    let same : to_z w64 (of_z w64 c.below.result) ≡ c.below.result = to_z-of_z fits in
    let is : c.shifted-next.result ≡ shifted_of c.args.otg.now c.below.result = rw same at c.shifted-next.ensures in
    let small : c.in-Some.speed ≤ 10000000000 = own_small c.args.otg.now _ _ _ c.in-Some.speed own (c.speed_of_move.ensures.found c.in-Some.speed c.in-Some.is) in
    let done : IsDoneOwn c.args.otg.now c.shifted-next.result =
    own_done c.args.otg.now c.shifted-next.result (neg_ℤ (pos c.in-Some.speed)) c.below.result
    (own_down c.args.otg.now c.in-Some.speed own (c.falls.ensures.0 c.if-not-falls.false) (c.has_target_below.ensures.0 c.if-not-has_target_below.false)
    (c.speed_of_move.ensures.found c.in-Some.speed c.in-Some.is)) (omega (arith, ints, c.below.ensures)) is in
    done.step
