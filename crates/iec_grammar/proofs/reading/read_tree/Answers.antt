-- What is read is the tree of the text.
use Rattle.iec_grammar.proofs.Exact.{exact_of}
use Rattle.iec_grammar.proofs.reading.read_tree.Goals as goal

pub returns-clause-exact : goal.returns-clause-exact
returns-clause-exact c = exact_of c.args.text.now _ c.in_ok-reading.ensures (c.tokens_end_once.ensures c.args.text.now)
