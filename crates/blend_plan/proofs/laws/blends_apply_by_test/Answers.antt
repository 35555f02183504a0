-- The lemma on the test.
use Rattle.blend_plan.proofs.BlendLaws.{applies-by-test}
use Rattle.blend_plan.proofs.laws.blends_apply_by_test.Goals as goal

pub returns : goal.returns
returns c = applies-by-test
