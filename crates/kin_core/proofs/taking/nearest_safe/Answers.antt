-- The two cuts, one after the other, give the taken step, of which all is known.
use Rattle.std.proofs.Common.{◌-ℤ◌, to_z, of_z, w64, FitsSigned, to_z-of_z, ◌∙◌}
use Rattle.kin_core.proofs.Cuts.{step_fits}
use Rattle.kin_core.proofs.SafeSteps.{IsNearestSafe, nearest_of_taken, taken_by_cuts}
use Rattle.kin_core.proofs.taking.nearest_safe.Goals as goal

pub returns-clause-value : goal.returns-clause-value
returns-clause-value c =
    let prev_fits : FitsSigned w64 c.args.prev = c.ranges.prev in
    let cur_fits : FitsSigned w64 c.args.cur = c.ranges.cur in
    let wanted_fits : FitsSigned w64 c.args.wanted = c.ranges.wanted in
    let old_fits : FitsSigned w64 (c.args.cur -ℤ c.args.prev) = step_fits _ _ _ c.requires.ranges c.requires.kept in
    let cut_fits : FitsSigned w64 c.step_that_may_follow-step.result = record { sfits = c.step_that_may_follow-step.type_inv } in
    let result_fits : FitsSigned w64 c.step_with_room.result = record { sfits = c.step_with_room.type_inv } in
    to_z-of_z result_fits ∙ taken_by_cuts c.ways_to_rest.ensures c.args.limits.now c.args.prev c.args.cur c.args.wanted c.step_that_may_follow-step.result c.step_with_room.result c.requires.ranges c.requires.kept
    (simp to_z-of_z at c.step_that_may_follow-step.ensures.value) (simp to_z-of_z at c.step_with_room.ensures.value)

nearest : (c : goal.After-step_with_room) → IsNearestSafe c.args.limits.now c.args.prev c.args.cur c.args.wanted (to_z w64 (of_z w64 c.step_with_room.result))
nearest c = nearest_of_taken c.ways_to_rest.ensures c.args.limits.now c.args.prev c.args.cur c.args.wanted _ c.requires.ranges c.requires.kept (returns-clause-value c)

pub returns-clause-taken : goal.returns-clause-taken
returns-clause-taken c = (nearest c).taken

pub returns-clause-admissible : goal.returns-clause-admissible
returns-clause-admissible c = (nearest c).admissible

pub returns-clause-kept : goal.returns-clause-kept
returns-clause-kept c = (nearest c).kept

pub returns-clause-exact : goal.returns-clause-exact
returns-clause-exact c = (nearest c).exact
