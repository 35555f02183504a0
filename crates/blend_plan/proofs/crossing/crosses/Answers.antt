-- The run sum decides for a step that reaches the first target.
use Rattle.std.proofs.Common.{◌≡◌, true, int_le, pos, ◌≤ℤ◌, unsigned_abs, arith, ◌∙◌, ap, sym, to_z, of_z, w64, FitsSigned, to_z-of_z}
use Rattle.std.specs.Int.{w128}
use Rattle.std.proofs.lemmas.Int.{ints}
use Rattle.motion_numbers.specs.Run.{run_of}
use Rattle.blend_plan.specs.BlendStep.{crosses_at}
use Rattle.blend_plan.proofs.Crossings.{crosses-last, crosses-defined}
use Rattle.blend_plan.proofs.crossing.crosses.Goals as goal
use Rattle.blend_plan.proofs.crossing.crosses.Goals.{then-step-vb, else-step-vb}

-- what the first two tests say
reaches : (c : goal.After-run_sum) → (c.args.step ≤ℤ c.args.vb) × (c.args.l1 ≤ℤ c.args.step)
reaches c =
    elim c.if-step-vb.branch [
      | then-step-vb w ↦
          let reached : int_le (to_z w64 (of_z w64 c.args.l1)) (to_z w64 (of_z w64 c.args.step)) ≡ true =
          sym w.value-is ∙ c.if-l1-step.true in
          let l1 : to_z w64 (of_z w64 c.args.l1) ≡ c.args.l1 = omega (arith, ints) in
          let vb : to_z w64 (of_z w64 c.args.vb) ≡ c.args.vb = omega (arith, ints) in
          let step : to_z w64 (of_z w64 c.args.step) ≡ c.args.step = omega (arith, ints) in
          let slow : int_le c.args.step c.args.vb ≡ true = rw (step, vb) at w.if-step-vb.true in
          let far : int_le c.args.l1 c.args.step ≡ true = rw (l1, step) at reached in
          (omega (arith, ints), omega (arith, ints))
      | else-step-vb w ↦ absurd (let fails = w.if-step-vb.false in let is = w.value-is in let holds = c.if-l1-step.true in cc)
    ]

decided : (c : goal.After-run_sum) →
    int_le (to_z w128 (of_z w128 c.run_sum.result)) (to_z w128 (of_z w128 (to_z w64 (of_z w64 c.args.l2))))
    ≡ crosses_at c.args.l1 c.args.l2 c.args.second.now c.args.vb c.args.step
decided c =
    let order : (c.args.step ≤ℤ c.args.vb) × (c.args.l1 ≤ℤ c.args.step) = reaches c in
    let slow : c.args.step ≤ℤ c.args.vb = order.0 in
    let reached : c.args.l1 ≤ℤ c.args.step = order.1 in
    let step : FitsSigned w64 c.args.step = c.ranges.step in
    let d : FitsSigned w64 c.args.second.now.d = omega (arith, ints) in
    let forward : pos 0 ≤ℤ to_z w64 (of_z w64 c.args.step) = omega (arith, ints) in
    let value : c.run_sum.result ≡ pos (run_of (unsigned_abs c.args.step) (unsigned_abs c.args.second.now.d)) =
    simp to_z-of_z at (c.run_sum.ensures.ahead forward) in
    let whole : to_z w128 (of_z w128 c.run_sum.result) ≡ c.run_sum.result = omega (arith, ints) in
    let way : to_z w128 (of_z w128 (to_z w64 (of_z w64 c.args.l2))) ≡ c.args.l2 = omega (arith, ints) in
    ap (λ m. int_le m (to_z w128 (of_z w128 (to_z w64 (of_z w64 c.args.l2)))))
    (whole ∙ value)
    ∙ ap (λ m. int_le (pos (run_of (unsigned_abs c.args.step) (unsigned_abs c.args.second.now.d))) m) way
    ∙ crosses-last c.args.l1 c.args.l2 c.args.second.now c.args.vb c.args.step slow reached

pub returns-then-l1-step-clause-value : goal.returns-then-l1-step-clause-value
returns-then-l1-step-clause-value c = decided c

pub returns-then-l1-step-clause-definition : goal.returns-then-l1-step-clause-definition
returns-then-l1-step-clause-definition c = crosses-defined _ _ _ _ _ _ (decided c)
