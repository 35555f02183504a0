-- A group keeps its axes.
use Rattle.group_core.proofs.AxesLaws.{command-axes, cycle-axes, detach-axes, off-axes, reset-axes}
use Rattle.group_core.proofs.path_laws.groups_keep_their_axes.Goals as goal

pub returns : goal.returns
returns c = record { command = command-axes; power_off = off-axes; detach = detach-axes; cycle = cycle-axes; reset = reset-axes }
