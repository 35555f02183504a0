-- A group changes its state by its events.
use Rattle.state_events.proofs.group.Events.{commands-by, detached-stays, off-by, resets-by, steps-by}
use Rattle.state_events.proofs.laws.groups_change_by_their_events.Goals as goal

pub returns : goal.returns
returns c = record {
  command = commands-by;
  power_off = off-by;
  detach = detached-stays;
  cycle = steps-by;
  reset = resets-by;
}
