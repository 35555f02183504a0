use Rattle.iec_grammar.proofs.Final.{final}
use Rattle.iec_grammar.proofs.laws.faults_are_final.Goals as goal

pub returns : goal.returns
returns c = final
