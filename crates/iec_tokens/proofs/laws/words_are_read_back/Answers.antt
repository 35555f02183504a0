use Rattle.iec_tokens.proofs.Written.{signs, units, words}
use Rattle.iec_tokens.proofs.laws.words_are_read_back.Goals as goal

pub returns : goal.returns
returns c = record { words = words; signs = signs; units = units }
