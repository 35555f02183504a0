-- The lemmas on crossings by direction.
use Rattle.blend_plan.proofs.BlendSettles.{crossed-says-up, crossed-says-down}
use Rattle.blend_plan.proofs.endings.crossings_are_told_by_test.Goals as goal

pub returns-clause-upward : goal.returns-clause-upward
returns-clause-upward c = crossed-says-up

pub returns-clause-downward : goal.returns-clause-downward
returns-clause-downward c = crossed-says-down
