-- Events are few.
use Rattle.state_events.proofs.axis.Few as axis
use Rattle.state_events.proofs.group.Few as group
use Rattle.state_events.proofs.laws.events_are_few.Goals as goal

pub returns-clause-axes : goal.returns-clause-axes
returns-clause-axes c = record { command = axis.command_few; power = axis.power_few; path = axis.path_few; cycle = axis.cycle_few }

pub returns-clause-groups : goal.returns-clause-groups
returns-clause-groups c = record { command = group.command_few; power_off = group.off_few; cycle = group.cycle_few; reset = group.reset_few }
