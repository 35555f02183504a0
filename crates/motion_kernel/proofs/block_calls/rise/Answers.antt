-- The instance is one of the configuration's.
use Rattle.motion_kernel.proofs.owners.commands.Events.{there_where}
use Rattle.motion_kernel.proofs.block_calls.rise.Goals as goal

pub call_group-requires-clause-instance : goal.call_group-requires-clause-instance
call_group-requires-clause-instance c = there_where c.args.layout.now.blocks c.args.instance c.args.block.now c.requires.block

pub call_axis-requires-clause-instance : goal.call_axis-requires-clause-instance
call_axis-requires-clause-instance c = there_where c.args.layout.now.blocks c.args.instance c.args.block.now c.requires.block
