-- Both parts are the whole.
use Rattle.std.proofs.Common.{refl}
use Rattle.kernel_invariants.proofs.OwnedParts.{not_whole, whole_by_parts}
use Rattle.motion_kernel.specs.owners.Blocks.{command_state_at}
use Rattle.motion_kernel.specs.owners.Objects.{an_axis}
use Rattle.kernel_invariants.proofs.owners.commands.axis_owners_have_blocks.Goals as goal

pub returns-then-have_blocks : goal.returns-then-have_blocks
returns-then-have_blocks c =
    whole_by_parts c.args.config.now (an_axis c.args.number) (command_state_at c.args.start.now (an_axis c.args.number)) _ _ _ c.axis_owners.ensures refl
    (c.have_blocks.ensures.0 c.if-have_blocks.true) c.have_all_blocks.ensures

pub returns-else-have_blocks : goal.returns-else-have_blocks
returns-else-have_blocks c =
    not_whole c.args.config.now (an_axis c.args.number) (command_state_at c.args.start.now (an_axis c.args.number)) _ _ c.axis_owners.ensures c.if-have_blocks.false
    c.have_blocks.ensures
