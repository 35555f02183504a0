-- The law of on-ness.
use Rattle.switch_text.proofs.OnLaws.{as_said}
use Rattle.switch_text.proofs.laws.on_is_as_said.Goals as goal

pub returns : goal.returns
returns c = as_said
