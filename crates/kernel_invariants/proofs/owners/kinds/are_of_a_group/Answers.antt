-- The parts are those of the group.
use Rattle.std.proofs.Common.{◌≡◌, ◌+◌, ap, length, refl, sym}
use Rattle.command_pool.specs.Waiting.{queue_of}
use Rattle.kernel_invariants.proofs.Groups.{there_is}
use Rattle.kernel_invariants.proofs.OfBlocks.{by_parts}
use Rattle.kernel_invariants.specs.declared.owners.commands.Owners.{Owners}
use Rattle.motion_kernel.proofs.Lists.{get_is}
use Rattle.motion_kernel.specs.Machine.{PlacedGroup, no_group}
use Rattle.motion_kernel.specs.Seen.{placed}
use Rattle.motion_kernel.specs.owners.Blocks.{command_state_at}
use Rattle.motion_kernel.specs.owners.Objects.{a_group}
use Rattle.kernel_invariants.proofs.owners.kinds.are_of_a_group.Goals as goal

pub returns-in-Some : goal.returns-in-Some
returns-in-Some c =
    let size = c.requires.sized.axes in
    let told = c.axes.ensures.axes in
    let there : length c.axes.result.now + c.args.group ≡ length c.args.start.now.axes + c.args.group = rw (told, size) refl in
    let is = there_is c.args.start.now c.args.group (placed c.in-Some.on.now) c.in-Some.ensures in
    by_parts c.args.config.now (command_state_at c.args.start.now (a_group c.args.group)) _ _ _ _
    (sym (ap (λ (g : PlacedGroup). g.group.active) is)) (ap (λ (o : Owners). o.reset) c.group_owners-owners.ensures)
    (ap (queue_of c.args.start.now.queues) there) c.are_of.ensures

pub returns-in-None : goal.returns-in-None
returns-in-None c =
    absurd (let there = get_is c.args.start.now.groups c.args.group no_group c.requires.there in let gone = c.in-None.ensures in cc)
