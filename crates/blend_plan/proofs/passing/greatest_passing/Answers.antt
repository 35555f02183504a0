-- The greatest step that passes, by the order of the two velocities.
use Rattle.std.proofs.Common.{◌+◌, arith, refl, unsigned_abs, to_z, of_z, w64}
use Rattle.std.proofs.lemmas.Int.{ints}
use Rattle.blend_plan.proofs.BlendSizes.{IsPassingTop, passing-top, passing-slow, passing-short, passing-fast}
use Rattle.blend_plan.proofs.passing.greatest_passing.Given.{Over}
use Rattle.blend_plan.proofs.passing.greatest_passing.Goals as goal

slow : (g : Over) (c : goal.After-slowed_up_to g) →
    IsPassingTop c.args.l1 c.args.l2 c.args.first.now c.args.second.now c.args.vb
    (c.args.old + unsigned_abs c.args.first.now.a) c.slowed_up_to.result
slow g c =
    passing-top c.args.l1 c.args.l2 c.args.first.now c.args.second.now
    (unsigned_abs (to_z w64 (of_z w64 c.args.first.now.v)))
    (unsigned_abs (to_z w64 (of_z w64 c.args.first.now.a)))
    (unsigned_abs (to_z w64 (of_z w64 c.args.first.now.d)))
    (unsigned_abs (to_z w64 (of_z w64 c.args.second.now.d)))
    c.args.vb c.args.old c.slowed_up_to.result
    (omega (arith, ints))
    (omega (arith, ints))
    (omega (arith, ints))
    (omega (arith, ints))
    (passing-slow c.ways_to_rest.ensures _ _ _ _ c.args.l1 c.args.l2 c.args.vb _ c.reach_up_to-stopping.result c.slowed_up_to.result
    (omega (arith, ints)) c.if-vb-v.true (rw (c.reach_up_to-stopping.ensures.value, c.min-fastest.ensures, c.max.ensures) refl)
    c.slowed_up_to.ensures.below c.slowed_up_to.ensures.slowed c.slowed_up_to.ensures.greatest)

pub returns-then-vb-v-clause-within : goal.returns-then-vb-v-clause-within
returns-then-vb-v-clause-within g c = (slow g c).within

pub returns-then-vb-v-clause-passes : goal.returns-then-vb-v-clause-passes
returns-then-vb-v-clause-passes g c = (slow g c).passes

pub returns-then-vb-v-clause-greatest : goal.returns-then-vb-v-clause-greatest
returns-then-vb-v-clause-greatest g c = (slow g c).greatest

short : (g : Over) (c : goal.Then-stopping-v g) →
    IsPassingTop c.args.l1 c.args.l2 c.args.first.now c.args.second.now c.args.vb
    (c.args.old + unsigned_abs c.args.first.now.a) c.reach_up_to-stopping.result
short g c =
    passing-top c.args.l1 c.args.l2 c.args.first.now c.args.second.now
    (unsigned_abs (to_z w64 (of_z w64 c.args.first.now.v)))
    (unsigned_abs (to_z w64 (of_z w64 c.args.first.now.a)))
    (unsigned_abs (to_z w64 (of_z w64 c.args.first.now.d)))
    (unsigned_abs (to_z w64 (of_z w64 c.args.second.now.d)))
    c.args.vb c.args.old c.reach_up_to-stopping.result
    (omega (arith, ints))
    (omega (arith, ints))
    (omega (arith, ints))
    (omega (arith, ints))
    (passing-short c.ways_to_rest.ensures _ _ _ _ c.args.l1 c.args.l2 c.args.vb _ c.reach_up_to-stopping.result
    (omega (arith, ints)) c.if-vb-v.false (rw (c.reach_up_to-stopping.ensures.value, c.min-fastest.ensures, c.max.ensures) refl) c.if-stopping-v.true)

pub returns-then-stopping-v-clause-within : goal.returns-then-stopping-v-clause-within
returns-then-stopping-v-clause-within g c = (short g c).within

pub returns-then-stopping-v-clause-passes : goal.returns-then-stopping-v-clause-passes
returns-then-stopping-v-clause-passes g c = (short g c).passes

pub returns-then-stopping-v-clause-greatest : goal.returns-then-stopping-v-clause-greatest
returns-then-stopping-v-clause-greatest g c = (short g c).greatest

fast : (g : Over) (c : goal.After-greatest_risen g) →
    IsPassingTop c.args.l1 c.args.l2 c.args.first.now c.args.second.now c.args.vb
    (c.args.old + unsigned_abs c.args.first.now.a) c.greatest_risen.result
fast g c =
    passing-top c.args.l1 c.args.l2 c.args.first.now c.args.second.now
    (unsigned_abs (to_z w64 (of_z w64 c.args.first.now.v)))
    (unsigned_abs (to_z w64 (of_z w64 c.args.first.now.a)))
    (unsigned_abs (to_z w64 (of_z w64 c.args.first.now.d)))
    (unsigned_abs (to_z w64 (of_z w64 c.args.second.now.d)))
    c.args.vb c.args.old c.greatest_risen.result
    (omega (arith, ints))
    (omega (arith, ints))
    (omega (arith, ints))
    (omega (arith, ints))
    (passing-fast c.ways_to_rest.ensures _ _ _ _ c.args.l1 c.args.l2 c.args.vb _ c.reach_up_to-stopping.result c.greatest_risen.result
    (omega (arith, ints)) c.if-vb-v.false (rw (c.reach_up_to-stopping.ensures.value, c.min-fastest.ensures, c.max.ensures) refl)
    c.greatest_risen.ensures.above c.greatest_risen.ensures.below
    c.greatest_risen.ensures.risen c.greatest_risen.ensures.greatest)

pub returns-else-stopping-v-clause-within : goal.returns-else-stopping-v-clause-within
returns-else-stopping-v-clause-within g c = (fast g c).within

pub returns-else-stopping-v-clause-passes : goal.returns-else-stopping-v-clause-passes
returns-else-stopping-v-clause-passes g c = (fast g c).passes

pub returns-else-stopping-v-clause-greatest : goal.returns-else-stopping-v-clause-greatest
returns-else-stopping-v-clause-greatest g c = (fast g c).greatest
