-- Three cases of the step ahead in closed form; it follows, unless the old step slowed is faster
-- or, where no step above the slowest fits the way, the slowest doesn't either.
use Rattle.std.proofs.Common.{◌≡◌, ◌∙◌, ap, ℕ, ◌+◌, ◌-◌, ◌≤◌, ◌<◌, min, max, ℤ, pos, ◌≤ℤ◌, arith, unsigned_abs, to_z, of_z, w64}
use Rattle.std.proofs.lemmas.Bool.{leb-true, le-leb}
use Rattle.std.proofs.lemmas.Int.{ints}
use Rattle.command_pool.specs.declared.rates.Rates.{Rates}
use Rattle.motion_numbers.specs.Run.{run_of, reach_of}
use Rattle.trapezoid_plan.specs.MoveStep.{MayFollow}
use Rattle.trapezoid_plan.proofs.StepsAhead.{step_ahead-fastest, step_ahead-slowest, step_ahead-reached}
use Rattle.trapezoid_plan.proofs.moves.step_ahead.Goals as goal

-- a size in its ranges may follow
follows-by : (rates : Rates) (v a d way speed u : ℕ) (step : ℤ) → step ≡ pos u → v ≡ unsigned_abs rates.v →
    a ≡ unsigned_abs rates.a → d ≡ unsigned_abs rates.d → pos 0 ≤ℤ rates.v → pos 0 ≤ℤ rates.a → pos 0 ≤ℤ rates.d →
    u ≤ v → speed - d ≤ u → u ≤ speed + a → run_of u d ≤ way → MayFollow rates (pos way) (pos speed) step
follows-by rates v a d way speed u step is p q t some_v some_a some_d slow smooth near fits =
    let size : unsigned_abs step ≡ u = omega (arith, ints) in
    let run : run_of (unsigned_abs step) (unsigned_abs rates.d) ≤ way = rw (size, ← t) fits in
    record {
      ahead = omega (arith, ints);
      velocity = omega (arith, ints);
      deceleration = omega (arith, ints);
      acceleration = omega (arith, ints);
      run = omega (arith, ints, run);
    }

pub returns-then-surely_fits-clause-value : goal.returns-then-surely_fits-clause-value
returns-then-surely_fits-clause-value g c =
    let fits : to_z w64 c.max.result ≡ pos c.max.result = omega (arith, ints) in
    fits ∙ ap pos (step_ahead-fastest c.ways_to_rest.ensures c.searches_find_the_greatest.ensures c.args.rates.now
    (unsigned_abs (to_z w64 (of_z w64 c.args.rates.now.v)))
    (unsigned_abs (to_z w64 (of_z w64 c.args.rates.now.a)))
    (unsigned_abs (to_z w64 (of_z w64 c.args.rates.now.d)))
    c.args.way c.args.speed c.min-fastest.result c.max.result
    (omega (arith, ints))
    (omega (arith, ints))
    (omega (arith, ints))
    (omega (arith, ints))
    c.min-fastest.ensures
    (c.surely_fits.ensures c.if-surely_fits.true)
    (omega (arith, c.max.ensures, c.saturating_sub-slowest.ensures)))

-- a step that may follow lies between the slowest and the fastest, and its run fits
pub record IsBetween (v a d way speed u : ℕ) : Type 0 where
  pub slowest : speed - d ≤ u
  pub fastest : u ≤ min v (speed + a)
  pub run : run_of u d ≤ way

between-by : (rates : Rates) (v a d way speed u : ℕ) (step : ℤ) → step ≡ pos u → v ≡ unsigned_abs rates.v →
    a ≡ unsigned_abs rates.a → d ≡ unsigned_abs rates.d → pos 0 ≤ℤ rates.v → pos 0 ≤ℤ rates.a → pos 0 ≤ℤ rates.d →
    MayFollow rates (pos way) (pos speed) step → IsBetween v a d way speed u
between-by rates v a d way speed u step is p q t some_v some_a some_d f =
    let size : unsigned_abs step ≡ u = omega (arith, ints) in
    let run : run_of (unsigned_abs step) (unsigned_abs rates.d) ≤ way = omega (arith, ints, f.run) in
    record {
      slowest = omega (arith, ints, f.deceleration);
      fastest = omega (arith, ints, f.velocity, f.acceleration);
      run = rw (← size, t) run;
    }

pub returns-then-surely_fits-clause-follows : goal.returns-then-surely_fits-clause-follows
returns-then-surely_fits-clause-follows g c = (
  λ h.
      let under : c.saturating_sub-slowest.result ≤ c.min-fastest.result = leb-true _ _ h in
      let size : c.max.result ≡ c.min-fastest.result = omega (arith, c.max.ensures, under) in
      follows-by c.args.rates.now
      (unsigned_abs (to_z w64 (of_z w64 c.args.rates.now.v)))
      (unsigned_abs (to_z w64 (of_z w64 c.args.rates.now.a)))
      (unsigned_abs (to_z w64 (of_z w64 c.args.rates.now.d)))
      c.args.way c.args.speed c.min-fastest.result _
      (omega (arith, ints, size))
      (omega (arith, ints))
      (omega (arith, ints))
      (omega (arith, ints))
      (omega (arith, ints))
      (omega (arith, ints))
      (omega (arith, ints))
      (omega (arith, c.min-fastest.ensures))
      (omega (arith, c.saturating_sub-slowest.ensures, under))
      (omega (arith, c.min-fastest.ensures))
      (c.surely_fits.ensures c.if-surely_fits.true),
  λ f.
      let between = between-by c.args.rates.now
      (unsigned_abs (to_z w64 (of_z w64 c.args.rates.now.v)))
      (unsigned_abs (to_z w64 (of_z w64 c.args.rates.now.a)))
      (unsigned_abs (to_z w64 (of_z w64 c.args.rates.now.d)))
      c.args.way c.args.speed c.max.result _
      (omega (arith, ints))
      (omega (arith, ints))
      (omega (arith, ints))
      (omega (arith, ints))
      (omega (arith, ints))
      (omega (arith, ints))
      (omega (arith, ints)) f in
      le-leb _ _ (omega (
        arith,
        c.max.ensures,
        c.min-fastest.ensures,
        c.saturating_sub-slowest.ensures,
        between.fastest,
      )),
)

pub returns-then-ramp_sum-way-clause-value : goal.returns-then-ramp_sum-way-clause-value
returns-then-ramp_sum-way-clause-value g c =
    let fits : to_z w64 c.saturating_sub-slowest.result ≡ pos c.saturating_sub-slowest.result = omega (arith, ints) in
    fits ∙ ap pos (step_ahead-slowest c.ways_to_rest.ensures c.searches_find_the_greatest.ensures c.args.rates.now
    (unsigned_abs (to_z w64 (of_z w64 c.args.rates.now.v)))
    (unsigned_abs (to_z w64 (of_z w64 c.args.rates.now.a)))
    (unsigned_abs (to_z w64 (of_z w64 c.args.rates.now.d)))
    c.args.way c.args.speed c.saturating_sub-slowest.result
    (omega (arith, ints))
    (omega (arith, ints))
    (omega (arith, ints))
    (omega (arith, ints))
    (rw (← c.saturating_sub-slowest.ensures, ← c.ramp_sum.ensures.value) (omega (arith, c.if-ramp_sum-way.true)))
    c.saturating_sub-slowest.ensures)

pub returns-else-ramp_sum-way-clause-value : goal.returns-else-ramp_sum-way-clause-value
returns-else-ramp_sum-way-clause-value g c =
    let fits : to_z w64 c.step_between.result ≡ pos c.step_between.result = omega (arith, ints, c.step_between.ensures.value) in
    fits ∙ ap pos (step_ahead-reached c.ways_to_rest.ensures c.searches_find_the_greatest.ensures c.args.rates.now
    (unsigned_abs (to_z w64 (of_z w64 c.args.rates.now.v)))
    (unsigned_abs (to_z w64 (of_z w64 c.args.rates.now.a)))
    (unsigned_abs (to_z w64 (of_z w64 c.args.rates.now.d)))
    c.args.way c.args.speed c.min-fastest.result c.step_between.result
    (omega (arith, ints))
    (omega (arith, ints))
    (omega (arith, ints))
    (omega (arith, ints))
    c.min-fastest.ensures
    (omega (arith, c.step_between.ensures.value, c.saturating_sub-slowest.ensures)))

pub returns-then-ramp_sum-way-clause-follows : goal.returns-then-ramp_sum-way-clause-follows
returns-then-ramp_sum-way-clause-follows g c = (
  λ h.
      let both = c.comes_to_rest.ensures.0 h in
      follows-by c.args.rates.now
      (unsigned_abs (to_z w64 (of_z w64 c.args.rates.now.v)))
      (unsigned_abs (to_z w64 (of_z w64 c.args.rates.now.a)))
      (unsigned_abs (to_z w64 (of_z w64 c.args.rates.now.d)))
      c.args.way c.args.speed c.saturating_sub-slowest.result _
      (omega (arith, ints))
      (omega (arith, ints))
      (omega (arith, ints))
      (omega (arith, ints))
      (omega (arith, ints))
      (omega (arith, ints))
      (omega (arith, ints))
      (omega (arith, c.min-fastest.ensures, both.0))
      (omega (arith, c.saturating_sub-slowest.ensures))
      (omega (arith, c.min-fastest.ensures, both.0))
      both.1,
  λ f.
      let between = between-by c.args.rates.now
      (unsigned_abs (to_z w64 (of_z w64 c.args.rates.now.v)))
      (unsigned_abs (to_z w64 (of_z w64 c.args.rates.now.a)))
      (unsigned_abs (to_z w64 (of_z w64 c.args.rates.now.d)))
      c.args.way c.args.speed c.saturating_sub-slowest.result _
      (omega (arith, ints))
      (omega (arith, ints))
      (omega (arith, ints))
      (omega (arith, ints))
      (omega (arith, ints))
      (omega (arith, ints))
      (omega (arith, ints)) f in
      c.comes_to_rest.ensures.1 (omega (arith, c.min-fastest.ensures, between.fastest), between.run),
)

pub returns-else-ramp_sum-way-clause-follows : goal.returns-else-ramp_sum-way-clause-follows
returns-else-ramp_sum-way-clause-follows g c =
    let some : 0 < unsigned_abs (to_z w64 (of_z w64 c.args.rates.now.d)) = omega (arith, ints) in
    let next : run_of (c.saturating_sub-slowest.result + 1) (unsigned_abs (to_z w64 (of_z w64 c.args.rates.now.d))) ≤ c.args.way =
    omega (arith, c.ramp_sum.ensures.value, c.if-ramp_sum-way.false) in
    let under : c.saturating_sub-slowest.result + 1 ≤ reach_of c.args.way (unsigned_abs (to_z w64 (of_z w64 c.args.rates.now.d))) =
    c.ways_to_rest.ensures.reach_greatest _ c.args.way (unsigned_abs (to_z w64 (of_z w64 c.args.rates.now.d))) some next in
    let is : c.step_between.result ≡ max (min c.min-fastest.result (reach_of c.args.way (unsigned_abs (to_z w64 (of_z w64 c.args.rates.now.d)))))
    c.saturating_sub-slowest.result = c.step_between.ensures.value in (
      λ h.
          let least : c.saturating_sub-slowest.result ≤ c.min-fastest.result = leb-true _ _ h in
          follows-by c.args.rates.now
          (unsigned_abs (to_z w64 (of_z w64 c.args.rates.now.v)))
          (unsigned_abs (to_z w64 (of_z w64 c.args.rates.now.a)))
          (unsigned_abs (to_z w64 (of_z w64 c.args.rates.now.d)))
          c.args.way c.args.speed c.step_between.result _
          (omega (arith, ints))
          (omega (arith, ints))
          (omega (arith, ints))
          (omega (arith, ints))
          (omega (arith, ints))
          (omega (arith, ints))
          (omega (arith, ints))
          (omega (arith, c.min-fastest.ensures, is, least, under))
          (omega (arith, c.saturating_sub-slowest.ensures, is))
          (omega (arith, c.min-fastest.ensures, is, least, under))
          (c.ways_to_rest.ensures.fits_below_reach _ c.args.way (unsigned_abs (to_z w64 (of_z w64 c.args.rates.now.d))) some (omega (arith, is, least, under))),
      λ f.
          let between = between-by c.args.rates.now
          (unsigned_abs (to_z w64 (of_z w64 c.args.rates.now.v)))
          (unsigned_abs (to_z w64 (of_z w64 c.args.rates.now.a)))
          (unsigned_abs (to_z w64 (of_z w64 c.args.rates.now.d)))
          c.args.way c.args.speed c.step_between.result _
          (omega (arith, ints))
          (omega (arith, ints))
          (omega (arith, ints))
          (omega (arith, ints))
          (omega (arith, ints))
          (omega (arith, ints))
          (omega (arith, ints)) f in
          le-leb _ _ (omega (
            arith,
            c.min-fastest.ensures,
            c.saturating_sub-slowest.ensures,
            is,
            between.slowest,
            between.fastest,
          )),
    )
