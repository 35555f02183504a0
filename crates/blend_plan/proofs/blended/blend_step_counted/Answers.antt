-- The size of the step is that of the definition.
use Rattle.std.proofs.Common.{◌≡◌, pos, unsigned_abs, arith, ◌∙◌, ap, to_z, w64, FitsSigned, to_z-of_z}
use Rattle.std.proofs.lemmas.Int.{ints}
use Rattle.blend_plan.specs.BlendStep.{blend_size_of, blend_step_of}
use Rattle.blend_plan.proofs.blended.blend_step_counted.Goals as goal

pub returns-clause-value : goal.returns-clause-value
unfolding blend_step_of
returns-clause-value g c =
    let l1 : c.unsigned_abs-way1.result ≡ unsigned_abs c.args.l1 = omega (arith, ints, c.unsigned_abs-way1.ensures.value) in
    let l2 : c.unsigned_abs-way2.result ≡ unsigned_abs c.args.l2 = omega (arith, ints, c.unsigned_abs-way2.ensures.value) in
    let old : c.unsigned_abs-speed.result ≡ unsigned_abs c.args.old = omega (arith, ints, c.unsigned_abs-speed.ensures.value) in
    let vb : c.unsigned_abs-passing.result ≡ unsigned_abs c.args.vb = omega (arith, ints, c.unsigned_abs-passing.ensures.value) in
    let fits : to_z w64 c.step_size-step.result ≡ pos c.step_size-step.result = omega (arith, ints) in
    let value : c.step_size-step.result ≡ blend_size_of (unsigned_abs c.args.l1) (unsigned_abs c.args.l2)
    (unsigned_abs c.args.old) c.args.first.now c.args.second.now (unsigned_abs c.args.vb) =
    rw (l1, l2, old, vb) at c.step_size-step.ensures.value in
    fits ∙ ap pos value

pub returns-clause-crosses : goal.returns-clause-crosses
returns-clause-crosses g c =
    let l1 : FitsSigned w64 c.args.l1 = c.ranges.l1 in
    let l2 : FitsSigned w64 c.args.l2 = c.ranges.l2 in
    let vb : FitsSigned w64 c.args.vb = c.ranges.vb in
    simp to_z-of_z at c.crosses.ensures.definition
