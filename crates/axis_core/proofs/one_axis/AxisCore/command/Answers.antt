-- A command on the axis of a core.
use Rattle.axis_core.proofs.KeptPowers.{core-of}
use Rattle.axis_core.proofs.one_axis.AxisCore.command.Goals as goal

pub command-requires-clause-kept : goal.command-requires-clause-kept
command-requires-clause-kept c = core-of c.args.self.now _ c.self.view_is c.self.invariant c.requires.queue
