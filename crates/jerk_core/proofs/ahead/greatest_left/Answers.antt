-- Only the way is looked at between the least speed and the greatest, and what is left by one speed
-- is left by all below it.
use Rattle.std.proofs.Common.{inl, inr, ◌≡◌, ℕ, ◌+◌, ◌-◌, ◌<◌, ◌≤◌, Bool, IsTrue, ◌↔◌, false, arith}
use Rattle.std.proofs.lemmas.Bool.{cases_lt, both_ways}
use Rattle.motion_numbers.specs.Run.{reach_of}
use Rattle.jerk_core.specs.declared.rates.JerkRates.{JerkRates}
use Rattle.jerk_core.specs.Braking.{way_of}
use Rattle.jerk_core.specs.Rates.{AreJerkRates, IsLeftBy}
use Rattle.jerk_core.proofs.KeptMotions.{kept_after}
use Rattle.jerk_core.proofs.ahead.greatest_left.Goals as goal

-- a speed between the least and the greatest, whose way fits
left_between : (rates : JerkRates) (room speed least most x : ℕ) → AreJerkRates rates → speed ≤ rates.v → least ≤ x → x ≤ most →
    most ≤ speed + rates.a → most ≤ speed + reach_of (rates.v - speed) rates.j → IsLeftBy rates room speed least →
    (x ≤ room) × (way_of rates.d rates.j speed x ≤ room - x) → IsLeftBy rates room speed x
left_between rates room speed least most x ok slow above below gains tops low fits =
    kept_after rates.v rates.a rates.d rates.j room speed least x (omega (arith, ok.d_least)) (omega (arith, ok.j_least)) slow above
    (omega arith) (omega arith) low fits.0 fits.1

-- what fails isn't the least
below_most : (b : Bool) (rates : JerkRates) (room speed least most : ℕ) → least ≤ most → IsLeftBy rates room speed least →
    IsTrue b ↔ ((most ≤ room) × (way_of rates.d rates.j speed most ≤ room - most)) → b ≡ false → least < most
below_most b rates room speed least most order left iff off =
    elim (cases_lt least most) [
      | inl below ↦ below
      | inr same ↦ let is : most ≡ least = omega arith in absurd (both_ways b off (iff.1 (rw is (left.within, left.kept.fits))))
    ]

-- and leaves no kept motion
most_fails : (b : Bool) (rates : JerkRates) (room speed most : ℕ) → IsTrue b ↔ ((most ≤ room) × (way_of rates.d rates.j speed most ≤ room - most)) → b ≡ false →
    IsLeftBy rates room speed most → ⊥
most_fails b rates room speed most iff off left = both_ways b off (iff.1 (left.within, left.kept.fits))

pub returns-then-looks_ahead-clause-left : goal.returns-then-looks_ahead-clause-left
returns-then-looks_ahead-clause-left g c =
    left_between c.args.rates.now c.args.room c.args.speed c.args.least c.args.most c.args.most c.requires.rates c.requires.speed c.requires.order
    (omega arith) c.requires.gains c.requires.tops c.requires.left (c.looks_ahead.ensures.value.0 c.if-looks_ahead.true)

pub greatest_between-requires-clause-order : goal.greatest_between-requires-clause-order
greatest_between-requires-clause-order g c =
    below_most c.looks_ahead.result c.args.rates.now c.args.room c.args.speed c.args.least c.args.most c.requires.order c.requires.left c.looks_ahead.ensures.value c.if-looks_ahead.false

pub greatest_between-requires-clause-fails : goal.greatest_between-requires-clause-fails
greatest_between-requires-clause-fails g c =
    most_fails c.looks_ahead.result c.args.rates.now c.args.room c.args.speed c.args.most c.looks_ahead.ensures.value c.if-looks_ahead.false
