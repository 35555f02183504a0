-- The lemmas on cases.
use Rattle.kin_core.proofs.TowardZero.{toward_zero-ahead, toward_zero-turned}
use Rattle.kin_core.proofs.laws.steps_fall_toward_zero.Goals as goal

pub returns : goal.returns
returns c = record { ahead = toward_zero-ahead; turned = toward_zero-turned }
