-- The differences fit, so what is compared is what the definition compares.
use Rattle.std.proofs.Common.{pos, neg_ℤ, ◌-ℤ◌, w64, FitsSigned, to_z-of_z, ◌∙◌}
use Rattle.std.specs.Int.{int_min}
use Rattle.kin_core.proofs.Cuts.{limit_fits, fall_fits, opposite_fits, opposite, amax_most, dmax_some, greatest_of, least_small}
use Rattle.kin_core.proofs.taking.least_step.Goals as goal

pub returns-clause-value : goal.returns-clause-value
returns-clause-value c =
    let ok = c.requires.ranges in
    let old_fits : FitsSigned w64 c.args.old = c.ranges.old in
    let amax_fits : FitsSigned w64 c.args.limits.now.amax = limit_fits _ ok.amax_positive (amax_most _ ok) in
    let dmax_fits : FitsSigned w64 c.args.limits.now.dmax = limit_fits _ (dmax_some _ ok) ok.dmax_in_range in
    let vmax_fits : FitsSigned w64 c.args.limits.now.vmax = limit_fits _ ok.vmax_positive ok.vmax_in_range in
    let opposite_is_fit : FitsSigned w64 (neg_ℤ c.args.limits.now.vmax) = opposite_fits _ ok.vmax_positive ok.vmax_in_range in
    let faster_fits : FitsSigned w64 (c.args.old -ℤ c.args.limits.now.amax) = fall_fits _ _ ok.amax_positive (amax_most _ ok) c.requires.old_in_range in
    let slower_fits : FitsSigned w64 (c.args.old -ℤ c.args.limits.now.dmax) = fall_fits _ _ (dmax_some _ ok) ok.dmax_in_range c.requires.old_in_range in
    let min_fits : FitsSigned w64 c.min-by_speeding_up.result = record { sfits = c.min-by_speeding_up.type_inv } in
    let max_fits : FitsSigned w64 c.max.result = record { sfits = c.max.type_inv } in
    let all_fits : FitsSigned w64 c.max-2.result = record { sfits = c.max-2.type_inv } in
    to_z-of_z all_fits ∙ greatest_of _ c.max.result (c.args.old -ℤ c.args.limits.now.dmax) c.min-by_speeding_up.result (neg_ℤ c.args.limits.now.vmax) (int_min (c.args.old -ℤ c.args.limits.now.amax) (pos 0))
    (simp (to_z-of_z, opposite) at c.max-2.ensures.value) (simp to_z-of_z at c.max.ensures.value) (simp to_z-of_z at c.min-by_speeding_up.ensures.value)

pub returns-clause-small : goal.returns-clause-small
returns-clause-small c = least_small c.args.limits.now c.args.old _ c.requires.ranges c.requires.old_in_range (returns-clause-value c)
