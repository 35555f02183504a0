-- A motion that can go on is kept where its way to rest fits.
use Rattle.std.proofs.Common.{arith, refl}
use Rattle.std.proofs.lemmas.Bool.{both_ways}
use Rattle.jerk_core.specs.Braking.{way_of}
use Rattle.jerk_core.specs.Rates.{IsKeptBy}
use Rattle.jerk_core.proofs.SafeSpeeds.{kept_in}
use Rattle.jerk_core.proofs.ahead.keeps.Goals as goal

pub rest_fits-requires-clause-tops : goal.rest_fits-requires-clause-tops
rest_fits-requires-clause-tops g c =
    let going : IsKeptBy c.args.rates.now (way_of c.args.rates.now.d c.args.rates.now.j c.args.last c.args.speed) c.args.last c.args.speed = c.can_go_on.ensures.0 c.if-not-can_go_on.false in
    omega (arith, going.tops, c.requires.rates.v_most)

pub returns-then-not-can_go_on-clause-value : goal.returns-then-not-can_go_on-clause-value
returns-then-not-can_go_on-clause-value g c = (
  λ is. absurd (both_ways _ refl is),
  λ kept. absurd (both_ways _ c.if-not-can_go_on.true (c.can_go_on.ensures.1 (kept_in c.args.rates.now c.args.room _ c.args.last c.args.speed kept (omega arith)))),
)

pub returns-clause-value : goal.returns-clause-value
returns-clause-value g c = (
  λ fits. kept_in c.args.rates.now _ c.args.room c.args.last c.args.speed (c.can_go_on.ensures.0 c.if-not-can_go_on.false) (c.rest_fits.ensures.value.0 fits),
  λ kept. c.rest_fits.ensures.value.1 kept.fits,
)
