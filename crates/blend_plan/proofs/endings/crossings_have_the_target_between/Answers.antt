-- The lemmas on a step that crosses.
use Rattle.blend_plan.proofs.BlendSettles.{crossing-speed, crossing-between}
use Rattle.blend_plan.proofs.endings.crossings_have_the_target_between.Goals as goal

pub returns-clause-speed : goal.returns-clause-speed
returns-clause-speed c = crossing-speed

pub returns-clause-between : goal.returns-clause-between
returns-clause-between c = crossing-between
