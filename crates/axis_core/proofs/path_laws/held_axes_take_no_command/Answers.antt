-- An axis that a group holds.
use Rattle.axis_core.proofs.HeldLaws.{held-alone}
use Rattle.axis_core.proofs.path_laws.held_axes_take_no_command.Goals as goal

pub returns : goal.returns
returns c = held-alone
