-- The counted step's answer.
use Rattle.std.proofs.Common.{FitsSigned, w64, to_z-of_z}
use Rattle.blend_plan.proofs.blended.blend_from.Goals as goal

pub returns-clause-crosses : goal.returns-clause-crosses
returns-clause-crosses g c =
    let l1 : FitsSigned w64 c.args.l1 = c.ranges.l1 in
    let l2 : FitsSigned w64 c.args.l2 = c.ranges.l2 in
    let vb : FitsSigned w64 c.args.vb = c.ranges.vb in
    simp to_z-of_z at c.blend_step_counted.ensures.crosses
