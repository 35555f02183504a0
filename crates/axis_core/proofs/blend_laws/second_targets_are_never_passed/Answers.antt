-- The lemmas on the second move.
use Rattle.axis_core.specs.BlendGiven.{AreHeading, AreCrossings}
use Rattle.axis_core.proofs.BlendsKept.{move-kept}
use Rattle.axis_core.proofs.SecondMoves.{crossing-heads, never-passes}
use Rattle.axis_core.proofs.blend_laws.second_targets_are_never_passed.Goals as goal

pub returns : goal.returns
returns c =
    let heading : AreHeading = record {
      toward = λ limits rates target before now goes. c.moves_head_for_their_targets.ensures.toward limits rates target before now goes.limits_ok goes.rates_ok goes.within goes.kept;
      heads = λ limits rates target before now goes. c.moves_head_for_their_targets.ensures.heads limits rates target before now goes.limits_ok goes.rates_ok goes.within goes.kept;
      kept = move-kept c.taken_steps_keep.ensures;
    } in
    let crossings : AreCrossings = record {
      upward = c.crossings_are_told_by_test.ensures.upward;
      downward = c.crossings_are_told_by_test.ensures.downward;
    } in
    λ n limits target1 target2 earlier before now vb second limits_ok second_ok within kept applies crossed.
    never-passes heading n limits second target2 before now
    (record { limits_ok = limits_ok; rates_ok = second_ok; within = within; kept = kept })
    (crossing-heads c.ways_to_rest.ensures crossings target1 target2 earlier before now vb second second_ok applies crossed)
