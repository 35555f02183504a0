-- An axis at opening.
use Rattle.std.proofs.Common.{sym, subst}
use Rattle.axis_core.specs.AxisKept.{IsAxisKept}
use Rattle.axis_core.specs.declared.axis.Axis.{Axis}
use Rattle.axis_core.proofs.KeptPowers.{opened-kept}
use Rattle.axis_core.proofs.one_axis.AxisCore.open.Goals as goal

pub invariant_of-result : goal.invariant_of-result
invariant_of-result c =
    let P : Axis → Type 0 = IsAxisKept in
    subst P (sym c.opened.ensures) (opened-kept c.standing_is_kept.ensures.kept c.setpoints_have_counts.ensures c.args.def.now c.requires)
