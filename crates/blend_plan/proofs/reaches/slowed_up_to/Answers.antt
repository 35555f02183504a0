-- A step that need not slow, or whose whole run fits, slows within the way.
use Rattle.std.proofs.Common.{◌≤◌, arith, sym, ◌∙◌}
use Rattle.std.proofs.lemmas.Bool.{leb-true}
use Rattle.blend_plan.proofs.Slowings.{above-zero, above-run, above-mono}
use Rattle.blend_plan.proofs.reaches.slowed_up_to.Goals as goal
use Rattle.blend_plan.proofs.reaches.slowed_up_to.Goals.{then-most-to, else-most-to}

pub returns-then-ramp_sum-way-clause-slowed : goal.returns-then-ramp_sum-way-clause-slowed
returns-then-ramp_sum-way-clause-slowed g c =
    elim c.if-most-to.branch [
      | then-most-to w ↦ omega (arith, above-zero c.args.most c.args.to c.args.d w.if-most-to.true)
      | else-most-to w ↦ (let fits : w.ramp_sum.result ≤ c.args.way = leb-true _ _ (sym w.value-is ∙ c.if-ramp_sum-way.true) in
          omega (arith, above-run c.args.most c.args.to c.args.d, w.ramp_sum.ensures.value))
    ]

pub returns-else-ramp_sum-way-clause-slowed : goal.returns-else-ramp_sum-way-clause-slowed
returns-else-ramp_sum-way-clause-slowed g c =
    omega (arith, c.greatest_slowed.ensures.slowed, above-mono c.min.result c.greatest_slowed.result c.args.to c.args.d c.requires.least_fall (omega (arith, c.min.ensures)))
