-- The sums fit, so what is compared is what the definition compares.
use Rattle.std.proofs.Common.{pos, ◌+ℤ◌, w64, FitsSigned, to_z-of_z, ◌∙◌}
use Rattle.std.specs.Int.{int_max}
use Rattle.kin_core.proofs.Cuts.{limit_fits, rise_fits, amax_most, dmax_some, least_of, greatest_small}
use Rattle.kin_core.proofs.taking.greatest_step.Goals as goal

pub returns-clause-value : goal.returns-clause-value
returns-clause-value c =
    let ok = c.requires.ranges in
    let old_fits : FitsSigned w64 c.args.old = c.ranges.old in
    let amax_fits : FitsSigned w64 c.args.limits.now.amax = limit_fits _ ok.amax_positive (amax_most _ ok) in
    let dmax_fits : FitsSigned w64 c.args.limits.now.dmax = limit_fits _ (dmax_some _ ok) ok.dmax_in_range in
    let vmax_fits : FitsSigned w64 c.args.limits.now.vmax = limit_fits _ ok.vmax_positive ok.vmax_in_range in
    let faster_fits : FitsSigned w64 (c.args.old +ℤ c.args.limits.now.amax) = rise_fits _ _ ok.amax_positive (amax_most _ ok) c.requires.old_in_range in
    let slower_fits : FitsSigned w64 (c.args.old +ℤ c.args.limits.now.dmax) = rise_fits _ _ (dmax_some _ ok) ok.dmax_in_range c.requires.old_in_range in
    let max_fits : FitsSigned w64 c.max-by_speeding_up.result = record { sfits = c.max-by_speeding_up.type_inv } in
    let min_fits : FitsSigned w64 c.min.result = record { sfits = c.min.type_inv } in
    let all_fits : FitsSigned w64 c.min-2.result = record { sfits = c.min-2.type_inv } in
    to_z-of_z all_fits ∙ least_of _ c.min.result (c.args.old +ℤ c.args.limits.now.dmax) c.max-by_speeding_up.result c.args.limits.now.vmax (int_max (c.args.old +ℤ c.args.limits.now.amax) (pos 0))
    (simp to_z-of_z at c.min-2.ensures.value) (simp to_z-of_z at c.min.ensures.value) (simp to_z-of_z at c.max-by_speeding_up.ensures.value)

pub returns-clause-small : goal.returns-clause-small
returns-clause-small c = greatest_small c.args.limits.now c.args.old _ c.requires.ranges c.requires.old_in_range (returns-clause-value c)
