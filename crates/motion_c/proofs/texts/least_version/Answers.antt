-- The first version that can hold a machine.
use Rattle.std.proofs.Common.{◌≡◌, All, refl, sym, subst, false}
use Rattle.plc_types.specs.declared.axis.AxisDef.{AxisDef}
use Rattle.motion_c.proofs.Versions.{fits-one, fits-two}
use Rattle.motion_c.proofs.texts.least_version.Goals as goal

pub returns-then-brake_as_they_speed_up-clause-version :
    goal.returns-then-brake_as_they_speed_up-clause-version
returns-then-brake_as_they_speed_up-clause-version c =
    fits-one c.trace_version.result c.args.config.now c.trace_version.ensures.version
    (subst (All (λ (d : AxisDef). d.limits.dmax ≡ d.limits.amax)) c.axes.ensures.axes (c.if-brake_as_they_speed_up.ensures.0 refl))

pub returns-else-brake_as_they_speed_up-clause-version :
    goal.returns-else-brake_as_they_speed_up-clause-version
returns-else-brake_as_they_speed_up-clause-version c =
    fits-two _ c.trace_version-else-brake_as_they_speed_up.result c.args.config.now
    c.trace_version-else-brake_as_they_speed_up.ensures.version
    (λ one alike. let bad = c.if-brake_as_they_speed_up.ensures.1
    (subst (All (λ (d : AxisDef). d.limits.dmax ≡ d.limits.amax)) (sym c.axes.ensures.axes) alike) in cc)
    (λ three. cc)
