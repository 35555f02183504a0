-- The look is that of the axis in the machine.
use Rattle.std.proofs.Common.{◌≡◌, ◌∙◌, ap, arith, ◌<◌, length, w64, FitsSigned, to_z-of_z}
use Rattle.std.proofs.lemmas.Int.{ints}
use Rattle.std.proofs.lemmas.List.{get_or_default}
use Rattle.axis_core.specs.declared.axis.Axis.{Axis}
use Rattle.motion_history.specs.Setup.{Setup}
use Rattle.motion_kernel.specs.looks.Around.{around_of}
use Rattle.motion_kernel.specs.looks.AxisLooks.{axis_look, end_asked, place_asked}
use Rattle.motion_kernel.specs.looks.Masters.{follow_of, master_of}
use Rattle.motion_kernel.specs.Machine.{axis_at}
use Rattle.motion_kernel.specs.Seen.{machine_of}
use Rattle.motion_kernel.specs.calls.Telling.{is_held}
use Rattle.motion_kernel.specs.declared.masters.Master.{Master}
use Rattle.motion_kernel.proofs.axis_looks.axis_look.Goals as goal

pub returns : goal.returns
unfolding axis_look
returns c =
    let m = machine_of c.args.parts.now in
    let s = c.args.layout.now in
    let around = around_of c.args.around.now in
    let there : c.args.axis < length m.axes = let e = c.requires.sized.axes in let t = c.requires.there in omega arith in
    let a : c.index-core.result.now ≡ axis_at m c.args.axis = c.index-core.ensures ∙ get_or_default m.axes c.args.axis _ _ there in
    let f : c.follow_of.result ≡ follow_of (axis_at m c.args.axis).active = c.follow_of.ensures ∙ ap (λ (x : Axis). follow_of x.active) a in
    let tables = c.tables.ensures ∙ ap (λ (t : Setup). t.tables) c.config.ensures.config in
    let master : c.master_of-master.result ≡ master_of (follow_of (axis_at m c.args.axis).active) s.tables around.pairs =
    c.master_of-master.ensures.master ∙ (λ i. master_of (f i) (tables i) around.pairs) in
    let near : FitsSigned w64 c.master_of-master.result.cam = let n = c.master_of-master.ensures.near in omega (arith, ints, n) in
    let cam = to_z-of_z near ∙ ap (λ (x : Master). x.cam) master in
    let place = c.place_asked.ensures ∙ ap (λ o. place_asked o around.steps) c.membership-at.ensures.at in
    let ends = c.end_asked.ensures ∙ ap (λ o. end_asked o around.steps) c.membership-at.ensures.at in
    let hold = c.stop_owner.ensures ∙ ap (λ (x : Axis). x.hold) a in
    let held = c.is_held.ensures ∙ (λ i. is_held (c.as_slice.ensures.value i) (hold i)) in
    λ i. record {
      input = c.answer_at.ensures i;
      master = (master i).pair;
      cam = cam i;
      cam_ended = (master i).ended;
      path = place i;
      path_ends = ends i;
      stop_held = held i;
    }
