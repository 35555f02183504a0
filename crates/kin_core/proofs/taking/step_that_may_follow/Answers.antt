-- The two ends fit, so the wanted step is cut to them.
use Rattle.std.proofs.Common.{◌≡◌, neg_ℤ, to_z, of_z, w64, FitsSigned, to_z-of_z, ◌∙◌, ap}
use Rattle.std.specs.Int.{int_min, int_max}
use Rattle.kin_core.specs.Admissible.{least_step_after, greatest_step_after}
use Rattle.kin_core.proofs.Cuts.{same_cut, cut_small, not_cut_by}
use Rattle.kin_core.proofs.taking.step_that_may_follow.Goals as goal

-- the wanted step, cut to the ends as the calls gave them
cut : (c : goal.After-max) → to_z w64 (of_z w64 c.max.result) ≡ int_max c.least_step.result (int_min c.greatest_step.result c.args.wanted)
cut c =
    let wanted_fits : FitsSigned w64 c.args.wanted = c.ranges.wanted in
    let least_fits : FitsSigned w64 c.least_step.result = record { sfits = c.least_step.type_inv } in
    let greatest_fits : FitsSigned w64 c.greatest_step.result = record { sfits = c.greatest_step.type_inv } in
    let min_fits : FitsSigned w64 c.min.result = record { sfits = c.min.type_inv } in
    let max_fits : FitsSigned w64 c.max.result = record { sfits = c.max.type_inv } in
    let under : c.min.result ≡ int_min c.greatest_step.result c.args.wanted = simp to_z-of_z at c.min.ensures.value in
    let over : c.max.result ≡ int_max c.least_step.result c.min.result = simp to_z-of_z at c.max.ensures.value in
    to_z-of_z max_fits ∙ over ∙ ap (int_max c.least_step.result) under

pub returns-else-goes_on-clause-value : goal.returns-else-goes_on-clause-value
returns-else-goes_on-clause-value c =
    let old_fits : FitsSigned w64 c.args.old = c.ranges.old in
    let low : c.least_step.result ≡ int_max (neg_ℤ c.args.limits.now.vmax) (least_step_after c.args.limits.now c.args.old) = simp to_z-of_z at c.least_step.ensures.value in
    let high : c.greatest_step.result ≡ int_min c.args.limits.now.vmax (greatest_step_after c.args.limits.now c.args.old) = simp to_z-of_z at c.greatest_step.ensures.value in
    same_cut _ _ _ _ _ _ (cut c) low high

pub returns-else-goes_on-clause-small : goal.returns-else-goes_on-clause-small
returns-else-goes_on-clause-small c = cut_small c.least_step.result c.greatest_step.result c.args.wanted _ c.least_step.ensures.small c.greatest_step.ensures.small (cut c)

pub returns-then-goes_on-clause-value : goal.returns-then-goes_on-clause-value
returns-then-goes_on-clause-value c =
    let wanted_fits : FitsSigned w64 c.args.wanted = c.ranges.wanted in
    let old_fits : FitsSigned w64 c.args.old = c.ranges.old in
    let on = simp to_z-of_z at (c.goes_on.ensures c.if-goes_on.true) in
    to_z-of_z wanted_fits ∙ not_cut_by c.args.limits.now c.args.old c.args.wanted (record { falls = on.0.0; rises = on.0.1; speed = on.1 })
