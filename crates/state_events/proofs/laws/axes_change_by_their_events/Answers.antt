-- An axis changes its state by its events.
use Rattle.axis_core.proofs.KeptMoves.{Laws}
use Rattle.state_events.proofs.axis.Calls.{commands-by, detached-stays, on-path-by, powers-by}
use Rattle.state_events.proofs.axis.Cycles.{cycles-by}
use Rattle.state_events.proofs.laws.axes_change_by_their_events.Goals as goal
use Rattle.state_events.proofs.laws.axes_change_by_their_events.Goals.{After-offsets_are_small}

laws : After-offsets_are_small → Laws
laws c = record {
  taken = c.taken_steps_keep.ensures.kept;
  slower = c.braking_steps_are_only_cut.ensures.slower;
  standing = c.standing_is_kept.ensures.kept;
  counts = c.setpoints_have_counts.ensures;
  homing = c.homing_keeps_counts.ensures;
  read_back = c.counts_are_read_back.ensures.count;
  near = c.counts_are_read_back.ensures.distance;
  offsets = c.offsets_are_small.ensures;
}

pub returns : goal.returns
returns c = record {
  command = commands-by;
  power = powers-by;
  path = on-path-by;
  detach = detached-stays;
  cycle = λ look d k brought. cycles-by (laws c) look d brought k;
}
