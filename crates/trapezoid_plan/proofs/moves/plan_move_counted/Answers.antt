-- Each branch is a case of the move step.
use Rattle.std.proofs.Common.{◌≡◌, ℕ, ℤ, pos, neg_ℤ, ◌<ℤ◌, ◌≤ℤ◌, unsigned_abs, arith, ◌∙◌, ap, sym, refl, inl, inr, to_z, of_z, w64, FitsSigned, to_z-of_z}
use Rattle.command_pool.specs.declared.rates.Rates.{Rates}
use Rattle.trapezoid_plan.specs.MoveStep.{HasMoveStep, HasStepAhead, MayFollow, step_ahead_of}
use Rattle.std.proofs.lemmas.Int.{ints}
use Rattle.command_pool.specs.Rates.{AreRates}
use Rattle.motion_numbers.specs.Laws.{AreWays, AreSearches}
use Rattle.trapezoid_plan.proofs.MoveSteps.{follow-sizes, sizes-follow, ahead-follows}
use Rattle.kin_core.specs.Toward.{toward_zero}
use Rattle.trapezoid_plan.proofs.StepsAhead.{move_step-forward, move_step-backward, move_step-slowed}
use Rattle.trapezoid_plan.proofs.moves.plan_move_counted.Goals as goal
use Rattle.trapezoid_plan.proofs.moves.plan_move_counted.Goals.{else-distance-gt0-via-then-distance-gt0+else-old-ge0, else-distance-gt0-via-else-distance-gt0, else-distance-lt0-via-then-distance-lt0+else-old-le0, else-distance-lt0-via-else-distance-lt0}

-- a step that may follow in sizes is one ahead
has-ahead : (rates : Rates) (x v u : ℤ) (l w : ℕ) → pos 0 <ℤ x → pos 0 ≤ℤ v → l ≡ unsigned_abs x →
    w ≡ unsigned_abs v → MayFollow rates (pos l) (pos w) u → HasStepAhead rates x v
has-ahead rates x v u l w p q s t f = record {
  way = p;
  forward = q;
  step = u;
  follows = record {
    ahead = f.ahead;
    velocity = f.velocity;
    deceleration = omega (arith, ints, f.deceleration);
    acceleration = omega (arith, ints, f.acceleration);
    run = omega (arith, ints, f.run);
  };
}

-- toward a target ahead only the first of the two can be
ahead-of : (rates : Rates) (x v : ℤ) → pos 0 <ℤ x → HasMoveStep rates x v → HasStepAhead rates x v
ahead-of rates x v p (inl a) = a
ahead-of rates x v p (inr b) =
    let back : pos 0 <ℤ neg_ℤ x = b.way in
    absurd (omega (arith, ints))

back-of : (rates : Rates) (x v : ℤ) → x <ℤ pos 0 → HasMoveStep rates x v → HasStepAhead rates (neg_ℤ x) (neg_ℤ v)
back-of rates x v p (inl a) =
    let forth : pos 0 <ℤ x = a.way in
    absurd (omega (arith, ints))
back-of rates x v p (inr b) = b

-- where the way and the step go apart, or there is no way, there is none
has-none : (rates : Rates) (x v : ℤ) → (pos 0 <ℤ x → pos 0 ≤ℤ v → ⊥) → (x <ℤ pos 0 → v ≤ℤ pos 0 → ⊥) →
    HasMoveStep rates x v → ⊥
has-none rates x v not_ahead not_behind (inl a) = not_ahead a.way a.forward
has-none rates x v not_ahead not_behind (inr b) =
    let way : pos 0 <ℤ neg_ℤ x = b.way in
    let forward : pos 0 ≤ℤ neg_ℤ v = b.forward in
    not_behind (omega (arith, ints)) (omega (arith, ints))

-- where some step may follow, the step ahead does
step-follows : AreWays → AreSearches → (rates : Rates) (x v : ℤ) (l w : ℕ) → AreRates rates → pos 0 <ℤ x →
    l ≡ unsigned_abs x → w ≡ unsigned_abs v → HasStepAhead rates x v →
    MayFollow rates (pos l) (pos w) (pos (step_ahead_of l w rates))
step-follows ways searches rates x v l w ok p q t has =
    let forward : pos 0 ≤ℤ v = has.forward in
    sizes-follow rates (pos l) (pos w) l w _ ok refl refl
    (rw (q, t) (ahead-follows ways searches rates (unsigned_abs x) (unsigned_abs v) (unsigned_abs has.step) ok
    (follow-sizes rates x v has.step ok (omega (arith, ints)) forward has.follows)))

pub returns-then-old-ge0-clause-value : goal.returns-then-old-ge0-clause-value
returns-then-old-ge0-clause-value g c =
    c.step_ahead.ensures.value ∙ move_step-forward _ _ _ _ _ _ (omega (arith, ints)) (omega (arith, ints))
    (omega (arith, ints, c.unsigned_abs.ensures.value))
    (omega (arith, ints, c.unsigned_abs-then-old-ge0.ensures.value)) refl

pub returns-then-old-ge0-clause-follows : goal.returns-then-old-ge0-clause-follows
returns-then-old-ge0-clause-follows g c =
    let l : c.unsigned_abs.result ≡ unsigned_abs c.args.distance = omega (arith, ints, c.unsigned_abs.ensures.value) in
    let w : c.unsigned_abs-then-old-ge0.result ≡ unsigned_abs c.args.old =
    omega (arith, ints, c.unsigned_abs-then-old-ge0.ensures.value) in (
      λ h. inl (has-ahead _ _ _ _ _ _ (omega (arith, ints)) (omega (arith, ints)) l w (c.step_ahead.ensures.follows.0 h)),
      λ has. c.step_ahead.ensures.follows.1
          (rw c.step_ahead.ensures.value (step-follows c.ways_to_rest.ensures c.searches_find_the_greatest.ensures
          c.args.rates.now c.args.distance c.args.old _ _ c.requires.rates (omega (arith, ints)) l w
          (ahead-of _ _ _ (omega (arith, ints)) has))),
    )

pub returns-then-old-le0-clause-value : goal.returns-then-old-le0-clause-value
returns-then-old-le0-clause-value g c =
    c.turned.ensures.step ∙ ap neg_ℤ c.step_ahead-then-old-le0.ensures.value
    ∙ move_step-backward _ _ _ _ _ _ (omega (arith, ints)) (omega (arith, ints))
    (omega (arith, ints, c.unsigned_abs-then-old-le0.ensures.value))
    (omega (arith, ints, c.unsigned_abs-then-old-le0-2.ensures.value)) refl

pub returns-then-old-le0-clause-follows : goal.returns-then-old-le0-clause-follows
returns-then-old-le0-clause-follows g c =
    let l : c.unsigned_abs-then-old-le0.result ≡ unsigned_abs (neg_ℤ c.args.distance) =
    omega (arith, ints, c.unsigned_abs-then-old-le0.ensures.value) in
    let w : c.unsigned_abs-then-old-le0-2.result ≡ unsigned_abs (neg_ℤ c.args.old) =
    omega (arith, ints, c.unsigned_abs-then-old-le0-2.ensures.value) in (
      λ h. inr (has-ahead _ _ _ _ _ _ (omega (arith, ints)) (omega (arith, ints)) l w
          (c.step_ahead-then-old-le0.ensures.follows.0 (sym c.turned.ensures.follows ∙ h))),
      λ has. c.turned.ensures.follows ∙ c.step_ahead-then-old-le0.ensures.follows.1
          (rw c.step_ahead-then-old-le0.ensures.value (step-follows c.ways_to_rest.ensures
          c.searches_find_the_greatest.ensures c.args.rates.now (neg_ℤ c.args.distance) (neg_ℤ c.args.old) _ _
          c.requires.rates (omega (arith, ints)) l w (back-of _ _ _ (omega (arith, ints)) has))),
    )

pub returns-else-distance-lt0-clause-value : goal.returns-else-distance-lt0-clause-value
returns-else-distance-lt0-clause-value g c =
    let old : FitsSigned w64 c.args.old = c.ranges.old in
    let d : FitsSigned w64 c.args.rates.now.d = omega (arith, ints) in
    let value : c.halt_step.result ≡ toward_zero c.args.old c.args.rates.now.d =
    simp to_z-of_z at c.halt_step.ensures.value in
    let fits : to_z w64 (of_z w64 c.halt_step.result) ≡ c.halt_step.result = omega (arith, ints) in
    move_step-slowed _ _ _ _
    (elim c.else-distance-gt0.branch [
      | else-distance-gt0-via-then-distance-gt0+else-old-ge0 w ↦ λ p q. omega (arith, ints)
      | else-distance-gt0-via-else-distance-gt0 w ↦ λ p q. omega (arith, ints)
    ])
    (elim c.else-distance-lt0.branch [
      | else-distance-lt0-via-then-distance-lt0+else-old-le0 w ↦ λ p q. omega (arith, ints)
      | else-distance-lt0-via-else-distance-lt0 w ↦ λ p q. omega (arith, ints)
    ])
    (fits ∙ value)

pub returns-else-distance-lt0-clause-follows : goal.returns-else-distance-lt0-clause-follows
returns-else-distance-lt0-clause-follows g c = (
  λ h. cc,
  λ has. absurd (has-none _ _ _
      (elim c.else-distance-gt0.branch [
        | else-distance-gt0-via-then-distance-gt0+else-old-ge0 w ↦ λ p q. omega (arith, ints)
        | else-distance-gt0-via-else-distance-gt0 w ↦ λ p q. omega (arith, ints)
      ])
      (elim c.else-distance-lt0.branch [
        | else-distance-lt0-via-then-distance-lt0+else-old-le0 w ↦ λ p q. omega (arith, ints)
        | else-distance-lt0-via-else-distance-lt0 w ↦ λ p q. omega (arith, ints)
      ])
      has),
)
