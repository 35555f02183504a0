-- The laws are lemmas on plain points.
use Rattle.follow_plan.proofs.CamLaws.{before_the_first, between_two, behind_the_last, at_a_point, in_the_range}
use Rattle.follow_plan.proofs.laws.cam_positions_lie_between_points.Goals as goal

pub returns-clause-before : goal.returns-clause-before
returns-clause-before c = before_the_first

pub returns-clause-between : goal.returns-clause-between
returns-clause-between c = between_two

pub returns-clause-behind : goal.returns-clause-behind
returns-clause-behind c = behind_the_last

pub returns-clause-at_points : goal.returns-clause-at_points
returns-clause-at_points c = at_a_point

pub returns-clause-in_range : goal.returns-clause-in_range
returns-clause-in_range c = in_the_range
