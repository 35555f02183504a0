-- One axis after another leaves its path.
use Rattle.std.proofs.Common.{◌≡◌, ◌∙◌, ap, sym, arith, length, ◌<◌, drop, ◌+◌, false, slice_set, subst}
use Rattle.std.proofs.lemmas.List.{get_or_default, length-set}
use Rattle.motion_kernel.specs.calls.Calls.{axes_led, axis_led}
use Rattle.motion_kernel.specs.Machine.{Machine, axis_at}
use Rattle.motion_kernel.specs.members.Members.{member_at}
use Rattle.motion_kernel.specs.kept.Ready.{RestOnPaths}
use Rattle.motion_kernel.specs.Seen.{machine_of}
use Rattle.motion_kernel.proofs.calls.Leading.{led_step, one_led, rest_led}
use Rattle.motion_kernel.proofs.leading.lead_all_off.Goals as goal

pub loop-axis-preserved : goal.loop-axis-preserved
loop-axis-preserved c =
    let m = machine_of c.loop-axis.parts in
    let members = c.args.members.now in
    let k = c.loop-axis.axis-index in
    let n = member_at members k in
    let v = c.loop-axis.invariant in
    let there : n < length m.axes = let t = c.requires.there k c.loop-axis-test.true in let l = v.long in omega arith in
    let axis : c.lead_off.new.axis ≡ axis_led false (axis_at m n) =
    c.lead_off.ensures ∙ ap (axis_led false) (c.index_mut.ensures.value ∙ get_or_default m.axes n _ _ there) in
    let made : record m { axes = slice_set m.axes n c.lead_off.new.axis } ≡ one_led false n m = λ i. record m { axes = slice_set m.axes n (axis i) } in
    let P : Machine → Type 0 = λ x. RestOnPaths x members in
    record {
      led = ap (axes_led false (drop (k + 1) members)) made ∙ sym (led_step false members k m c.loop-axis-test.true) ∙ v.led;
      long = length-set m.axes _ _ ∙ v.long;
      rest = subst P (sym made) (rest_led m members k c.loop-axis-test.true v.rest);
    }
