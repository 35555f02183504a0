-- Only the way is looked at between the least speed and the greatest, and what is left by one speed
-- is left by all below it.
use Rattle.std.proofs.Common.{inl, inr, ◌≡◌, ℕ, ◌+◌, ◌-◌, ◌<◌, ◌≤◌, arith}
use Rattle.std.proofs.lemmas.Bool.{cases_lt, both_ways}
use Rattle.motion_numbers.specs.Run.{reach_of}
use Rattle.jerk_core.specs.declared.rates.JerkRates.{JerkRates}
use Rattle.jerk_core.specs.Braking.{way_of}
use Rattle.jerk_core.specs.Rates.{AreJerkRates, IsLeftBy}
use Rattle.jerk_core.proofs.KeptMotions.{kept_after, kept_between}
use Rattle.jerk_core.proofs.Searching.{Spent, spent_none, spent_fits, spent_fails, spent_few}
use Rattle.jerk_core.proofs.ahead.greatest_between.Goals as goal

-- a speed between the least and the greatest, whose way fits
left_between : (rates : JerkRates) (room speed least most x : ℕ) → AreJerkRates rates → speed ≤ rates.v → least ≤ x → x ≤ most →
    most ≤ speed + rates.a → most ≤ speed + reach_of (rates.v - speed) rates.j → IsLeftBy rates room speed least →
    (x ≤ room) × (way_of rates.d rates.j speed x ≤ room - x) → IsLeftBy rates room speed x
left_between rates room speed least most x ok slow above below gains tops low fits =
    kept_after rates.v rates.a rates.d rates.j room speed least x (omega (arith, ok.d_least)) (omega (arith, ok.j_least)) slow above
    (omega arith) (omega arith) low fits.0 fits.1

-- no more looks than the code counts
looked_once : (way left now next start : ℕ) → next ≤ now + 1 → Spent way left (now + 1) start → Spent way left next start
looked_once way left now next start less spent = record {
  up = spent.up;
  down = spent.down;
  sum = omega (arith, spent.sum);
  gained = spent.gained;
  halved = spent.halved;
  few_up = spent.few_up;
  few_down = spent.few_down;
}

-- all speeds are small
small_span : (rates : JerkRates) (speed least most fails : ℕ) → AreJerkRates rates → speed ≤ rates.v → most ≤ speed + rates.a → fails ≤ most → fails ≤ least + 20000000000
small_span rates speed least most fails ok slow gains within = omega (arith, ok.v_most, ok.a_most)

pub loop-fails-init : goal.loop-fails-init
loop-fails-init g c =
    let none : c.args.least - c.args.least ≡ 0 = omega arith in
    record {
      order = c.requires.order;
      above = omega arith;
      within = omega arith;
      fitting = c.requires.left;
      spent = rw none (spent_none (c.args.most - c.args.least) c.args.looks.now
          (omega (arith, small_span c.args.rates.now c.args.speed c.args.least c.args.most c.args.most c.requires.rates c.requires.speed c.requires.gains (omega arith))));
      failing = c.requires.fails;
    }

pub loop-fails-preserved-then-looks_ahead : goal.loop-fails-preserved-then-looks_ahead
loop-fails-preserved-then-looks_ahead g c =
    let order : c.loop-fails.fits < c.loop-fails.fails = c.loop-fails.invariant.order in
    let above : c.args.least ≤ c.loop-fails.fits = c.loop-fails.invariant.above in
    record {
      order = omega (arith, c.between-middle.ensures.below);
      above = omega (arith, c.between-middle.ensures.above);
      within = c.loop-fails.invariant.within;
      fitting = left_between c.args.rates.now c.args.room c.args.speed c.args.least c.args.most
          c.between-middle.result c.requires.rates c.requires.speed
          (omega (arith, c.between-middle.ensures.above)) (omega (arith, c.between-middle.ensures.below, c.loop-fails.invariant.within))
          c.requires.gains c.requires.tops c.requires.left (c.looks_ahead.ensures.value.0 c.if-looks_ahead.true);
      failing = c.loop-fails.invariant.failing;
      spent = looked_once _ _ _ _ _ c.looks_ahead.ensures.cost
          (spent_fits c.args.least c.loop-fails.fits c.loop-fails.fails c.between-middle.result c.loop-fails.looks c.args.looks.now
          above (small_span c.args.rates.now c.args.speed c.args.least c.args.most c.loop-fails.fails c.requires.rates c.requires.speed c.requires.gains c.loop-fails.invariant.within)
          (omega arith) c.between-middle.ensures.value c.loop-fails.invariant.spent);
    }

pub returns-clause-greatest : goal.returns-clause-greatest
returns-clause-greatest g c = λ x left most. elim (cases_lt c.loop-fails.fits x) [
  | inr within ↦ within
  | inl over ↦ absurd (c.loop-fails.invariant.failing
      (kept_between c.args.rates.now.v c.args.rates.now.a c.args.rates.now.d c.args.rates.now.j c.args.room c.args.speed c.args.least
      c.loop-fails.fails x c.requires.rates.d_least (omega (arith, c.requires.rates.j_least))
      (omega (arith, c.loop-fails.invariant.above, c.loop-fails.invariant.order)) (omega arith) c.requires.left left))
]

pub loop-fails-preserved : goal.loop-fails-preserved
loop-fails-preserved g c = record {
  order = c.between-middle.ensures.above;
  above = c.loop-fails.invariant.above;
  within = omega (arith, c.between-middle.ensures.below, c.loop-fails.invariant.within);
  fitting = c.loop-fails.invariant.fitting;
  spent = looked_once _ _ _ _ _ c.looks_ahead.ensures.cost
      (spent_fails c.args.least c.loop-fails.fits c.loop-fails.fails c.between-middle.result c.loop-fails.looks c.args.looks.now
      (omega arith) c.between-middle.ensures.value c.loop-fails.invariant.spent);
  failing = λ left. both_ways c.looks_ahead.result c.if-looks_ahead.false (c.looks_ahead.ensures.value.1 (left.within, left.kept.fits));
}

pub returns-clause-cost : goal.returns-clause-cost
returns-clause-cost g c = spent_few (c.loop-fails.fits - c.args.least) (c.loop-fails.fails - c.loop-fails.fits) c.loop-fails.looks c.args.looks.now c.loop-fails.invariant.spent
