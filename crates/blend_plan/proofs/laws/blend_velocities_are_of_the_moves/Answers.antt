-- The lemmas on the four modes.
use Rattle.blend_plan.proofs.BlendLaws.{velocity-least, velocity-most}
use Rattle.blend_plan.proofs.laws.blend_velocities_are_of_the_moves.Goals as goal

pub returns-clause-least : goal.returns-clause-least
returns-clause-least c = velocity-least

pub returns-clause-most : goal.returns-clause-most
returns-clause-most c = velocity-most
