-- Each event carries a blended move on, or ends it.
use Rattle.axis_core.proofs.BlendedLaws.{BlendsEnd, blending-commanded, blending-cycled, blending-detached, blending-powered, blends-under-way, crosses-under-way}
use Rattle.axis_core.proofs.course_laws.blended_moves_end_in_time.Goals as goal

law : (c : goal.After-blend_velocities_are_of_the_moves) → BlendsEnd
law c = record {
  least = c.blend_velocities_are_of_the_moves.ensures.least;
  most = c.blend_velocities_are_of_the_moves.ensures.most;
  tested = c.blends_apply_by_test.ensures;
  crosses = c.first_moves_end.ensures.crosses;
  in_time = c.first_moves_end.ensures.in_time;
}

pub returns : goal.returns
returns c = record {
  crosses = crosses-under-way (law c);
  ends = blends-under-way (law c);
  command = blending-commanded;
  power = blending-powered;
  detach = blending-detached;
  cycle = blending-cycled c.blends_apply_by_test.ensures;
}
