use Rattle.fixed_units.proofs.Spelled.{reading_of-spelled, spelled-reading_of}
use Rattle.fixed_units.proofs.laws.reads_what_is_spelled.Goals as goal

pub returns : goal.returns
returns c = λ text units. (spelled-reading_of text units, λ h. reading_of-spelled text units h.0 h.1)
