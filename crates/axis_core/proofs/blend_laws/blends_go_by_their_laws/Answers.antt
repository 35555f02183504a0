-- What is known of each blend.
use Rattle.axis_core.proofs.BlendsKept.{blend-kept}
use Rattle.axis_core.proofs.blend_laws.blends_go_by_their_laws.Goals as goal

pub returns : goal.returns
returns c = record {
  by_test = c.blends_apply_by_test.ensures;
  settles = λ limits target1 target2 before now first second vb go. c.blends_settle.ensures limits target1 target2 before now vb first second go.limits_ok go.first_ok go.second_ok go.within go.kept;
  brakes = λ limits target1 target2 before now first second vb go. c.blends_without_steps_brake.ensures limits target1 target2 before now vb first second go.limits_ok go.first_ok go.second_ok go.within go.kept;
  persists = λ limits target1 target2 before now first second vb go. c.blends_go_on_until_they_cross.ensures.persists limits target1 target2 before now vb first second go.limits_ok go.first_ok go.second_ok go.within go.kept;
  crosses = λ limits target1 target2 before now first second vb go. c.blends_go_on_until_they_cross.ensures.crosses limits target1 target2 before now vb first second go.limits_ok go.first_ok go.second_ok go.within go.kept;
  upward = λ limits target1 target2 before now first second vb go. c.blends_never_turn_back.ensures.upward limits target1 target2 before now vb first second go.limits_ok go.first_ok go.second_ok go.within go.kept;
  downward = λ limits target1 target2 before now first second vb go. c.blends_never_turn_back.ensures.downward limits target1 target2 before now vb first second go.limits_ok go.first_ok go.second_ok go.within go.kept;
  kept = blend-kept c.taken_steps_keep.ensures;
}
