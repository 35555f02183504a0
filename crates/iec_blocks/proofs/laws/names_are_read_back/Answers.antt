use Rattle.iec_blocks.proofs.NameLemmas.{read_back}
use Rattle.iec_blocks.proofs.laws.names_are_read_back.Goals as goal

pub returns : goal.returns
returns c standard = read_back standard
