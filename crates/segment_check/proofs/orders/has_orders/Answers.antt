-- The parts are those of the axis.
use Rattle.std.proofs.Common.{◌≡◌, ◌∙◌, Some, ap, sym}
use Rattle.std.specs.Option.{option_copied}
use Rattle.std.specs.Prelude.{slice_get}
use Rattle.std.proofs.lemmas.Option.{get_or_from_slice_get}
use Rattle.axis_core.specs.declared.axis.Axis.{Axis}
use Rattle.motion_kernel.proofs.Lists.{get_is}
use Rattle.motion_kernel.specs.Machine.{no_axis}
use Rattle.segment_check.proofs.AskedOrders.{orders_by}
use Rattle.segment_check.proofs.orders.has_orders.Goals as goal

pub returns-in-Some : goal.returns-in-Some
returns-in-Some c =
    let axes = c.args.start.now.axes in
    let at : slice_get axes c.args.number ≡ Some c.in-Some.now.now = sym c.axis.ensures ∙ ap option_copied c.in-Some.is in
    let is = get_or_from_slice_get axes c.args.number c.in-Some.now.now no_axis at in
    orders_by c.args.config.now c.args.number _ _ _ _ _
    (sym (ap (λ (a : Axis). a.active) is)) (sym (ap (λ (a : Axis). a.hold) is)) c.has_parts.ensures

pub returns-in-None : goal.returns-in-None
returns-in-None c =
    absurd (let there = get_is c.args.start.now.axes c.args.number no_axis c.requires.there in
    let gone = sym c.axis.ensures ∙ ap option_copied c.in-None.is in cc)
