-- The fastest speed, braking, or the greatest between them.
use Rattle.std.proofs.Common.{◌≡◌, ◌≤◌, arith}
use Rattle.jerk_core.specs.Braking.{way_of}
use Rattle.jerk_core.specs.Rates.{IsKeptBy, IsSafeBy}
use Rattle.jerk_core.proofs.SafeSpeeds.{kept_in, fastest_safe, fastest_kept, below_fastest, braking_safe, between_safe, speed_fails, some_is}
use Rattle.jerk_core.proofs.ahead.safe_speed.Goals as goal

pub returns-then-looks_ahead-clause-kept : goal.returns-then-looks_ahead-clause-kept
returns-then-looks_ahead-clause-kept g c = λ x is.
    let going : IsKeptBy c.args.rates.now (way_of c.args.rates.now.d c.args.rates.now.j c.args.last c.args.speed) c.args.last c.args.speed = c.can_go_on.ensures.0 c.if-not-can_go_on.false in
    let safe : IsSafeBy c.args.rates.now c.args.room c.args.last c.args.speed c.fastest-top.result =
    fastest_safe c.args.rates.now _ c.args.room c.args.last c.args.speed c.fastest-top.result c.requires.rates going c.fastest-top.ensures.value (c.looks_ahead.ensures.value.0 c.if-looks_ahead.true) in
    fastest_kept c.args.rates.now _ c.args.room c.args.last c.args.speed c.fastest-top.result c.requires.rates going safe

pub returns-then-looks_ahead-clause-safe : goal.returns-then-looks_ahead-clause-safe
returns-then-looks_ahead-clause-safe g c = λ x is.
    let going : IsKeptBy c.args.rates.now (way_of c.args.rates.now.d c.args.rates.now.j c.args.last c.args.speed) c.args.last c.args.speed = c.can_go_on.ensures.0 c.if-not-can_go_on.false in
    let safe : IsSafeBy c.args.rates.now c.args.room c.args.last c.args.speed c.fastest-top.result =
    fastest_safe c.args.rates.now _ c.args.room c.args.last c.args.speed c.fastest-top.result c.requires.rates going c.fastest-top.ensures.value (c.looks_ahead.ensures.value.0 c.if-looks_ahead.true) in
    rw (some_is _ _ is) safe

pub returns-then-looks_ahead-clause-greatest : goal.returns-then-looks_ahead-clause-greatest
returns-then-looks_ahead-clause-greatest g c = λ x y is other.
    rw (some_is _ _ is) (below_fastest c.args.rates.now c.args.room c.args.last c.args.speed c.fastest-top.result y c.requires.rates c.fastest-top.ensures.value other)

pub rest_fits-requires-clause-tops : goal.rest_fits-requires-clause-tops
rest_fits-requires-clause-tops g c =
    let going : IsKeptBy c.args.rates.now (way_of c.args.rates.now.d c.args.rates.now.j c.args.last c.args.speed) c.args.last c.args.speed = c.can_go_on.ensures.0 c.if-not-can_go_on.false in
    omega (arith, going.tops, c.requires.rates.v_most)

pub greatest_between-requires-clause-left : goal.greatest_between-requires-clause-left
greatest_between-requires-clause-left g c =
    let going : IsKeptBy c.args.rates.now (way_of c.args.rates.now.d c.args.rates.now.j c.args.last c.args.speed) c.args.last c.args.speed = c.can_go_on.ensures.0 c.if-not-can_go_on.false in
    let kept : IsKeptBy c.args.rates.now c.args.room c.args.last c.args.speed = kept_in c.args.rates.now _ c.args.room c.args.last c.args.speed going (c.rest_fits.ensures.value.0 c.if-not-rest_fits.false) in
    (braking_safe c.args.rates.now c.args.room c.args.last c.args.speed c.braked-least.result c.requires.rates kept c.braked-least.ensures.value).after

pub greatest_between-requires-clause-fails : goal.greatest_between-requires-clause-fails
greatest_between-requires-clause-fails g c =
    speed_fails c.looks_ahead.result c.args.rates.now c.args.room c.args.speed c.fastest-top.result c.looks_ahead.ensures.value c.if-looks_ahead.false

pub returns-then-top-least-clause-safe : goal.returns-then-top-least-clause-safe
returns-then-top-least-clause-safe g c = λ x is.
    let going : IsKeptBy c.args.rates.now (way_of c.args.rates.now.d c.args.rates.now.j c.args.last c.args.speed) c.args.last c.args.speed = c.can_go_on.ensures.0 c.if-not-can_go_on.false in
    let kept : IsKeptBy c.args.rates.now c.args.room c.args.last c.args.speed = kept_in c.args.rates.now _ c.args.room c.args.last c.args.speed going (c.rest_fits.ensures.value.0 c.if-not-rest_fits.false) in
    rw (some_is _ _ is) (braking_safe c.args.rates.now c.args.room c.args.last c.args.speed c.braked-least.result c.requires.rates kept c.braked-least.ensures.value)

pub returns-then-top-least-clause-greatest : goal.returns-then-top-least-clause-greatest
returns-then-top-least-clause-greatest g c = λ x y is other.
    let below : y ≤ c.fastest-top.result =
    below_fastest c.args.rates.now c.args.room c.args.last c.args.speed c.fastest-top.result y c.requires.rates c.fastest-top.ensures.value other in
    let same : x ≡ c.braked-least.result = some_is _ _ is in
    omega arith

pub returns-clause-safe : goal.returns-clause-safe
returns-clause-safe g c = λ x is.
    let going : IsKeptBy c.args.rates.now (way_of c.args.rates.now.d c.args.rates.now.j c.args.last c.args.speed) c.args.last c.args.speed = c.can_go_on.ensures.0 c.if-not-can_go_on.false in
    let kept : IsKeptBy c.args.rates.now c.args.room c.args.last c.args.speed = kept_in c.args.rates.now _ c.args.room c.args.last c.args.speed going (c.rest_fits.ensures.value.0 c.if-not-rest_fits.false) in
    rw (some_is _ _ is) (between_safe c.args.rates.now c.args.room c.args.last c.args.speed c.braked-least.result c.greatest_between.result c.fastest-top.result
    c.requires.rates kept c.braked-least.ensures.value c.fastest-top.ensures.value c.greatest_between.ensures.above c.greatest_between.ensures.below c.greatest_between.ensures.left)

pub returns-clause-greatest : goal.returns-clause-greatest
returns-clause-greatest g c = λ x y is other.
    rw (some_is _ _ is) (c.greatest_between.ensures.greatest y other.after
    (below_fastest c.args.rates.now c.args.room c.args.last c.args.speed c.fastest-top.result y c.requires.rates c.fastest-top.ensures.value other))
