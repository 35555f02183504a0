-- What is known of each move by itself.
use Rattle.axis_core.proofs.BlendsKept.{move-kept}
use Rattle.axis_core.proofs.blend_laws.moves_go_by_their_laws.Goals as goal

pub returns : goal.returns
returns c = record {
  heading = record {
    toward = λ limits rates target before now goes. c.moves_head_for_their_targets.ensures.toward limits rates target before now goes.limits_ok goes.rates_ok goes.within goes.kept;
    heads = λ limits rates target before now goes. c.moves_head_for_their_targets.ensures.heads limits rates target before now goes.limits_ok goes.rates_ok goes.within goes.kept;
    kept = move-kept c.taken_steps_keep.ensures;
  };
  arrives = λ limits rates target before now goes room. c.moves_arrive_in_time.ensures limits rates target before now goes.limits_ok room goes.rates_ok goes.within goes.kept;
  grows = c.cycles_bounds_grow.ensures;
  forward = λ limits rates target before now goes. c.moves_that_head_away_brake.ensures.forward limits rates target before now goes.limits_ok goes.rates_ok goes.within goes.kept;
  backward = λ limits rates target before now goes. c.moves_that_head_away_brake.ensures.backward limits rates target before now goes.limits_ok goes.rates_ok goes.within goes.kept;
}
