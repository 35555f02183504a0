-- The safe speeds go from the braked one up to a greatest one within the changes of speed.
use Rattle.std.proofs.Common.{◌≡◌, ℕ, ◌+◌, ◌-◌, ◌*◌, ◌≤◌, min, arith}
use Rattle.motion_numbers.specs.Run.{reach_of}
use Rattle.jerk_core.specs.declared.rates.JerkRates.{JerkRates}
use Rattle.jerk_core.specs.Braking.{braked_of}
use Rattle.jerk_core.specs.Rates.{AreJerkRates, IsKeptBy, IsLeftBy, IsSafeBy}
use Rattle.jerk_core.proofs.KeptMotions.{braked_safe, safe_below_fastest, safe_of_left}
use Rattle.jerk_core.proofs.ahead.greatest_safe.Goals as goal

-- the braked speed is safe
braked : (rates : JerkRates) (room w v x : ℕ) → AreJerkRates rates → IsKeptBy rates room w v → x ≡ braked_of rates.d rates.j w v →
    IsSafeBy rates room w v x
braked rates room w v x ok kept is =
    rw is (braked_safe rates.v rates.a rates.d rates.j room w v (omega (arith, ok.d_least)) (omega (arith, ok.j_least)) kept)

-- a safe speed up to the greatest wanted one is within the top
within_top : (rates : JerkRates) (room w v x f top most : ℕ) → AreJerkRates rates → IsSafeBy rates room w v x → x ≤ most →
    f ≡ min (2 * v + rates.j - w) (v + min rates.a (reach_of (rates.v - v) rates.j)) → top ≡ min f most → x ≤ top
within_top rates room w v x f top most ok safe below is cut =
    let fastest : x ≤ min (2 * v + rates.j - w) (v + min rates.a (reach_of (rates.v - v) rates.j)) =
    safe_below_fastest rates.v rates.a rates.d rates.j room w v x (omega (arith, ok.j_least)) safe in
    omega arith

-- what is left within the top is safe
safe_of : (rates : JerkRates) (room w v x f top most least : ℕ) → AreJerkRates rates → IsKeptBy rates room w v → least ≡ braked_of rates.d rates.j w v →
    least ≤ x → x ≤ top → f ≡ min (2 * v + rates.j - w) (v + min rates.a (reach_of (rates.v - v) rates.j)) → top ≡ min f most →
    IsLeftBy rates room v x → IsSafeBy rates room w v x
safe_of rates room w v x f top most least ok kept least_is above below is cut left =
    safe_of_left rates.v rates.a rates.d rates.j room w v x (omega (arith, ok.d_least)) (omega (arith, ok.j_least)) kept
    (omega arith) (omega arith) left

pub greatest_left-requires-clause-left : goal.greatest_left-requires-clause-left
greatest_left-requires-clause-left g c =
    (braked c.args.rates.now c.args.room c.args.last c.args.speed c.braked-least.result c.requires.rates c.requires.kept c.braked-least.ensures.value).after

pub returns-then-top-least-clause-safe : goal.returns-then-top-least-clause-safe
returns-then-top-least-clause-safe g c =
    braked c.args.rates.now c.args.room c.args.last c.args.speed c.braked-least.result c.requires.rates c.requires.kept c.braked-least.ensures.value

pub returns-then-top-least-clause-greatest : goal.returns-then-top-least-clause-greatest
returns-then-top-least-clause-greatest g c = λ x safe most.
    let within : x ≤ c.min-top.result =
    within_top c.args.rates.now c.args.room c.args.last c.args.speed x c.fastest.result c.min-top.result c.args.most c.requires.rates safe most c.fastest.ensures.value c.min-top.ensures in
    omega arith

pub returns-else-top-least-clause-safe : goal.returns-else-top-least-clause-safe
returns-else-top-least-clause-safe g c =
    safe_of c.args.rates.now c.args.room c.args.last c.args.speed c.greatest_left.result c.fastest.result c.min-top.result c.args.most c.braked-least.result
    c.requires.rates c.requires.kept c.braked-least.ensures.value c.greatest_left.ensures.above c.greatest_left.ensures.below c.fastest.ensures.value
    c.min-top.ensures c.greatest_left.ensures.left

pub returns-else-top-least-clause-greatest : goal.returns-else-top-least-clause-greatest
returns-else-top-least-clause-greatest g c = λ x safe most.
    c.greatest_left.ensures.greatest x safe.after
    (within_top c.args.rates.now c.args.room c.args.last c.args.speed x c.fastest.result c.min-top.result c.args.most c.requires.rates safe most c.fastest.ensures.value c.min-top.ensures)
