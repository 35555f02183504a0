-- One axis after another is looked for.
use Rattle.std.proofs.Common.{◌≡◌, ◌∙◌, ap, ◌∷◌, [], ◌++◌, Option}
use Rattle.motion_kernel.specs.declared.memberships.Membership.{Membership}
use Rattle.motion_kernel.specs.members.Members.{membership_from, membership_of}
use Rattle.motion_kernel.proofs.members.Laid.{found_more}
use Rattle.motion_kernel.proofs.layout.memberships_in.Goals as goal

pub loop-axis-preserved : goal.loop-axis-preserved
loop-axis-preserved c =
    let found : c.membership_of.result ≡ membership_of c.args.config.now c.loop-axis.axis =
    c.membership_of.ensures ∙ ap (membership_from c.loop-axis.axis 0) c.groups.ensures in
    let items : c.push.new.self.items ≡ c.loop-axis.memberships.items ++ membership_of c.args.config.now c.loop-axis.axis ∷ [] =
    c.in_ok-push.ensures.items ∙ ap (λ (o : Option Membership). c.loop-axis.memberships.items ++ o ∷ []) found in
    record { so_far = rw items (found_more c.args.config.now c.loop-axis.axis c.loop-axis.memberships.items c.loop-axis.invariant.so_far) }
