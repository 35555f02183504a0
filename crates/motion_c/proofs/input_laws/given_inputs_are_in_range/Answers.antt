-- What is in range makes inputs of the kind, and the other way round.
use Rattle.motion_c.proofs.InRange.{inputs-of, range-of}
use Rattle.motion_c.proofs.input_laws.given_inputs_are_in_range.Goals as goal

pub returns : goal.returns
returns c = λ kind axes g mode given. (range-of kind axes g mode, inputs-of kind axes g mode given)
