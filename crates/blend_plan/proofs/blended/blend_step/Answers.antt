-- The blend step is the one that the definition asks for.
use Rattle.std.proofs.Common.{◌≡◌, FitsSigned, w64, to_z-of_z, arith}
use Rattle.std.proofs.lemmas.Int.{ints}
use Rattle.blend_plan.specs.BlendStep.{blend_step_of}
use Rattle.blend_plan.proofs.BlendSteps.{is-blend-step}
use Rattle.blend_plan.proofs.blended.blend_step.Goals as goal

pub returns-clause-definition : goal.returns-clause-definition
returns-clause-definition c =
    let l1 : FitsSigned w64 c.args.l1 = c.ranges.l1 in
    let l2 : FitsSigned w64 c.args.l2 = c.ranges.l2 in
    let old : FitsSigned w64 c.args.old = c.ranges.old in
    let vb : FitsSigned w64 c.args.vb = c.ranges.vb in
    let value : c.blend_from.result.0 ≡ blend_step_of c.args.l1 c.args.l2 c.args.old c.args.first.now c.args.second.now c.args.vb =
    simp to_z-of_z at c.blend_from.ensures.value in
    rw value (is-blend-step c.searches_find_the_greatest.ensures c.steps_fall_toward_zero.ensures c.args.l1 c.args.l2 c.args.old c.args.first.now c.args.second.now c.args.vb (record {
      first_rates = c.requires.first_rates;
      second_rates = c.requires.second_rates;
      first_target = c.requires.first_target;
      second_target = omega (arith, ints);
      forward = c.requires.forward;
      velocity = omega (arith, ints);
    }))

pub returns-clause-crosses : goal.returns-clause-crosses
returns-clause-crosses c =
    let l1 : FitsSigned w64 c.args.l1 = c.ranges.l1 in
    let l2 : FitsSigned w64 c.args.l2 = c.ranges.l2 in
    let vb : FitsSigned w64 c.args.vb = c.ranges.vb in
    simp to_z-of_z at c.blend_from.ensures.crosses
