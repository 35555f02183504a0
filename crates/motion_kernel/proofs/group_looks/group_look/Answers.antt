-- The look is that of the group's axes and its hold.
use Rattle.std.proofs.Common.{◌≡◌, ◌∙◌, ap, arith, sym, length, ◌<◌}
use Rattle.std.proofs.lemmas.List.{length-map}
use Rattle.group_core.specs.declared.group.GroupOnPath.{GroupOnPath}
use Rattle.linear_path.specs.declared.line.LinePath.{LinePath}
use Rattle.motion_kernel.specs.looks.GroupLooks.{with_members}
use Rattle.motion_kernel.specs.Machine.{PlacedGroup}
use Rattle.motion_kernel.specs.Seen.{machine_of, placed}
use Rattle.motion_kernel.specs.calls.Telling.{is_held}
use Rattle.group_core.specs.declared.look.GroupLook.{GroupLook}
use Rattle.motion_kernel.proofs.looks.GroupLooks.{group_here, look_is, seen_count}
use Rattle.motion_kernel.proofs.group_looks.group_look.Goals as goal

pub returns-clause-look : goal.returns-clause-look
returns-clause-look c =
    let m = machine_of c.args.parts.now in
    let gs = c.args.parts.now.groups.items in
    let long = length-map gs placed in
    let there : c.args.group < length gs = let e = c.requires.sized.groups in let t = c.requires.there in omega (arith, long) in
    c.look_at_all.ensures ∙ ap (with_members _ _ _) c.look_at_none-look.ensures
    ∙ look_is c.args.layout.now m c.args.group c.args.error c.members_of-members.result.now c.as_slice-2.result.now c.is_held-stop_held.result c.stop_owner-hold.result
    c.members_of-members.ensures.members c.as_slice-2.ensures.value
    (c.stop_owner-hold.ensures ∙ ap (λ (g : GroupOnPath LinePath). g.group.hold) c.index.ensures ∙ sym (ap (λ (g : PlacedGroup). g.group.hold) (group_here gs c.args.group _ there)))
    (c.is_held-stop_held.ensures ∙ ap (λ is. is_held is c.stop_owner-hold.result) c.as_slice.ensures.value)

pub returns-clause-few : goal.returns-clause-few
returns-clause-few c =
    let n = seen_count (length c.members_of-members.result.now) c.as_slice-2.result.now c.members_of-members.result.now c.look_at_none-look.result in
    let e : c.look_at_none-look.result.count ≡ length c.members_of-members.result.now = ap (λ (l : GroupLook). l.count) c.look_at_none-look.ensures in
    let f = c.members_of-members.ensures.few in
    rw (c.look_at_all.ensures, n, e) f
