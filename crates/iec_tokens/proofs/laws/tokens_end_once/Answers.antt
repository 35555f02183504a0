use Rattle.iec_tokens.specs.Tokens.{tokens_of}
use Rattle.iec_tokens.proofs.Endings.{ended}
use Rattle.iec_tokens.proofs.laws.tokens_end_once.Goals as goal

pub returns : goal.returns
unfolding tokens_of
returns c = λ text. ended text 0 _
