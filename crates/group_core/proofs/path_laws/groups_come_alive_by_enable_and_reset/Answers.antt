-- When the axes of a group stand within their limits.
use Rattle.group_core.proofs.LiveLaws.{command-live, cycle-live, enable-live, off-dead, reset-live}
use Rattle.group_core.proofs.path_laws.groups_come_alive_by_enable_and_reset.Goals as goal

pub returns : goal.returns
returns c = record { command = command-live; only_enable = enable-live; power_off = off-dead; cycle = cycle-live; reset = reset-live }
