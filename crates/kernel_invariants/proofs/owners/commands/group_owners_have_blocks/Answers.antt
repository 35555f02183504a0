-- Both parts are the whole.
use Rattle.std.proofs.Common.{◌≡◌, ◌+◌, ap, length, refl}
use Rattle.command_pool.specs.Waiting.{queue_of}
use Rattle.kernel_invariants.proofs.OwnedParts.{not_whole, whole_by_parts}
use Rattle.motion_kernel.specs.owners.Blocks.{command_state_at}
use Rattle.motion_kernel.specs.owners.Objects.{a_group}
use Rattle.kernel_invariants.proofs.owners.commands.group_owners_have_blocks.Goals as goal

pub returns-then-have_blocks : goal.returns-then-have_blocks
returns-then-have_blocks c =
    let size = c.requires.sized.axes in
    let told = c.axes.ensures.axes in
    let there : length c.axes.result.now + c.args.number ≡ length c.args.start.now.axes + c.args.number = rw (told, size) refl in
    whole_by_parts c.args.config.now (a_group c.args.number) (command_state_at c.args.start.now (a_group c.args.number)) _ _ _ c.group_owners.ensures (ap (queue_of c.args.start.now.queues) there)
    (c.have_blocks.ensures.0 c.if-have_blocks.true) c.have_all_blocks.ensures

pub returns-else-have_blocks : goal.returns-else-have_blocks
returns-else-have_blocks c =
    not_whole c.args.config.now (a_group c.args.number) (command_state_at c.args.start.now (a_group c.args.number)) _ _ c.group_owners.ensures c.if-have_blocks.false
    c.have_blocks.ensures
