-- The lemma on steps that reach the first target.
use Rattle.blend_plan.proofs.BlendLaws.{crossing-passes}
use Rattle.blend_plan.proofs.laws.crossings_pass_the_first_target.Goals as goal

pub returns : goal.returns
returns c = crossing-passes
