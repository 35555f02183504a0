-- The group is the one that was found.
use Rattle.std.proofs.Common.{ap, ◌∙◌}
use Rattle.motion_kernel.specs.Machine.{PlacedGroup, no_group}
use Rattle.motion_kernel.specs.Seen.{placed}
use Rattle.motion_kernel.proofs.Lists.{get_is}
use Rattle.kernel_invariants.proofs.Groups.{there_is}
use Rattle.kernel_invariants.proofs.machine.members.is_member_at.Goals as goal

pub is_member-requires : goal.is_member-requires
is_member-requires c = λ p e.
    c.requires.lines p (ap (λ (g : PlacedGroup). g.path) (there_is c.args.start.now c.args.at.group (placed c.in-Some.on.now) c.in-Some.ensures) ∙ e)

pub returns-in-Some : goal.returns-in-Some
returns-in-Some c = λ x same alone.
    let found = there_is c.args.start.now c.args.at.group (placed c.in-Some.on.now) c.in-Some.ensures in
    rw found (c.is_member.ensures x same alone)

pub returns-in-None : goal.returns-in-None
returns-in-None c = λ x same alone.
    absurd (let there = get_is c.args.start.now.groups c.args.at.group no_group c.requires.there in let gone = c.in-None.ensures in cc)
