-- One axis after another is seen.
use Rattle.std.proofs.Common.{◌≡◌, ◌∙◌, sym}
use Rattle.motion_kernel.proofs.looks.GroupLooks.{seen_none, seen_more}
use Rattle.std.proofs.lemmas.List.{get_or_default}
use Rattle.motion_kernel.specs.looks.GroupLooks.{with_member}
use Rattle.motion_kernel.specs.Machine.{axis_among}
use Rattle.motion_kernel.specs.members.Members.{member_at}
use Rattle.motion_kernel.proofs.group_looks.look_at_all.Goals as goal

pub loop-place-init : goal.loop-place-init
loop-place-init c = record { seen = sym (seen_none _ _ _) }

pub loop-place-preserved : goal.loop-place-preserved
loop-place-preserved c =
    let place = c.loop-place.place in
    let axis : c.index-axes-axis.result ≡ axis_among c.args.axes.now (member_at c.args.members.now place) =
    c.index-axes-axis.is ∙ get_or_default c.args.axes.now _ _ _ (c.requires.there place c.loop-place-test.true) in
    record { seen = c.look_at.ensures ∙ (λ i. with_member place (axis i) (c.loop-place.invariant.seen i)) ∙ sym (seen_more place _ _ _) }
