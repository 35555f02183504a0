-- The greatest step, or the old step slowed.
use Rattle.std.proofs.Common.{◌≡◌, arith, unsigned_abs, to_z, of_z, w64}
use Rattle.std.proofs.lemmas.Int.{ints}
use Rattle.blend_plan.proofs.BlendSizes.{blend-size-is}
use Rattle.blend_plan.proofs.sizes.step_size.Goals as goal

pub returns-then-saturating_sub-greatest-clause-value : goal.returns-then-saturating_sub-greatest-clause-value
returns-then-saturating_sub-greatest-clause-value g c =
    let d : unsigned_abs (to_z w64 (of_z w64 c.args.first.now.d)) ≡ unsigned_abs c.args.first.now.d =
    omega (arith, ints) in
    let e : unsigned_abs (to_z w64 (of_z w64 c.args.second.now.d)) ≡ unsigned_abs c.args.second.now.d =
    omega (arith, ints) in
    blend-size-is c.searches_find_the_greatest.ensures c.args.l1 c.args.l2 c.args.old c.args.first.now c.args.second.now c.args.vb c.greatest_step-greatest.result _
    (record {
      within = c.greatest_step-greatest.ensures.within;
      leads = c.greatest_step-greatest.ensures.leads;
      greatest = c.greatest_step-greatest.ensures.greatest;
    })
    (λ _. omega arith)
    (λ outside. absurd (omega (arith, d, e, outside, c.max-braking.ensures, c.saturating_sub.ensures, c.if-saturating_sub-greatest.true)))

pub returns-else-saturating_sub-greatest-clause-value : goal.returns-else-saturating_sub-greatest-clause-value
returns-else-saturating_sub-greatest-clause-value g c =
    let d : unsigned_abs (to_z w64 (of_z w64 c.args.first.now.d)) ≡ unsigned_abs c.args.first.now.d =
    omega (arith, ints) in
    let e : unsigned_abs (to_z w64 (of_z w64 c.args.second.now.d)) ≡ unsigned_abs c.args.second.now.d =
    omega (arith, ints) in
    blend-size-is c.searches_find_the_greatest.ensures c.args.l1 c.args.l2 c.args.old c.args.first.now c.args.second.now c.args.vb c.greatest_step-greatest.result _
    (record {
      within = c.greatest_step-greatest.ensures.within;
      leads = c.greatest_step-greatest.ensures.leads;
      greatest = c.greatest_step-greatest.ensures.greatest;
    })
    (λ inside. absurd (omega (arith, d, e, inside, c.max-braking.ensures, c.saturating_sub.ensures, c.if-saturating_sub-greatest.false)))
    (λ _. omega (arith, d, c.saturating_sub-else-saturating_sub-greatest.ensures))
