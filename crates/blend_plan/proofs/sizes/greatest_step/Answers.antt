-- The greatest step that passes, or the greater of the two greatest steps.
use Rattle.std.proofs.Common.{unsigned_abs, ◌+◌, arith}
use Rattle.std.proofs.lemmas.Int.{ints}
use Rattle.blend_plan.proofs.BlendSizes.{IsLeadingTop, leading-passing, leading-both}
use Rattle.blend_plan.proofs.sizes.greatest_step.Given.{Over}
use Rattle.blend_plan.proofs.sizes.greatest_step.Goals as goal

passing : (g : Over) (c : goal.Then-fastest-passing g) →
    IsLeadingTop c.args.l1 c.args.l2 c.args.first.now c.args.second.now c.args.vb
    (c.args.old + unsigned_abs c.args.first.now.a) c.greatest_passing-passing.result
passing g c =
    leading-passing c.args.l1 c.args.l2 c.args.first.now c.args.second.now c.args.vb _ c.min-fastest.result
    c.greatest_passing-passing.result
    (record {
      within = c.greatest_passing-passing.ensures.within;
      passes = c.greatest_passing-passing.ensures.passes;
      greatest = c.greatest_passing-passing.ensures.greatest;
    })
    (omega (arith, ints, c.min-fastest.ensures)) c.if-fastest-passing.true

pub returns-then-fastest-passing-clause-greatest : goal.returns-then-fastest-passing-clause-greatest
returns-then-fastest-passing-clause-greatest g c = (passing g c).greatest

pub returns-then-fastest-passing-clause-leads : goal.returns-then-fastest-passing-clause-leads
returns-then-fastest-passing-clause-leads g c = (passing g c).leads

either : (g : Over) (c : goal.After-max g) →
    IsLeadingTop c.args.l1 c.args.l2 c.args.first.now c.args.second.now c.args.vb
    (c.args.old + unsigned_abs c.args.first.now.a) c.max.result
either g c =
    leading-both c.ways_to_rest.ensures c.args.l1 c.args.l2 c.args.first.now c.args.second.now _ c.args.vb _ c.min-fastest.result
    c.greatest_passing-passing.result c.reach_up_to.result c.max.result
    (record {
      within = c.greatest_passing-passing.ensures.within;
      passes = c.greatest_passing-passing.ensures.passes;
      greatest = c.greatest_passing-passing.ensures.greatest;
    })
    (omega (arith, ints))
    (omega (arith, ints))
    (omega (arith, ints, c.min-fastest.ensures)) c.reach_up_to.ensures.value c.max.ensures

pub returns-else-fastest-passing-clause-within : goal.returns-else-fastest-passing-clause-within
returns-else-fastest-passing-clause-within g c = (either g c).within

pub returns-else-fastest-passing-clause-leads : goal.returns-else-fastest-passing-clause-leads
returns-else-fastest-passing-clause-leads g c = (either g c).leads

pub returns-else-fastest-passing-clause-greatest : goal.returns-else-fastest-passing-clause-greatest
returns-else-fastest-passing-clause-greatest g c = (either g c).greatest
