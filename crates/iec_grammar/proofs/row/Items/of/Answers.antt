-- The items stand in front, and then those behind.
use Rattle.iec_grammar.proofs.ItemLemmas.{both_kept}
use Rattle.iec_grammar.proofs.row.Items.of.Goals as goal

pub returns : goal.returns
returns c = both_kept c.args.first.now c.args.behind.now _ _ _ _ c.copy_from_slice.ensures.after c.copy_from_slice-2.ensures.after
