-- Taking Execute leaves all commands where they are.
use Rattle.std.proofs.Common.{arith}
use Rattle.std.specs.Prelude.{slice_set}
use Rattle.motion_kernel.specs.Seen.{machine_of}
use Rattle.motion_kernel.proofs.owners.Alone.{other_instances}
use Rattle.motion_kernel.proofs.owners.commands.Events.{there_where}
use Rattle.motion_kernel.proofs.block_calls.make.Goals as goal

pub index_mut-instance-requires : goal.index_mut-instance-requires
index_mut-instance-requires c =
    let there = there_where c.args.layout.now.blocks c.args.call.now.instance c.args.call.now.block.now c.requires.block in
    let size = c.requires.sized.instances in
    omega arith

pub ask-requires-clause-owners : goal.ask-requires-clause-owners
ask-requires-clause-owners c =
    let m = machine_of c.args.parts.now in
    other_instances c.args.layout.now m (slice_set m.instances c.args.call.now.instance c.on_call-edge.new.self) c.requires.owners
