-- What is found is the first of this name.
use Rattle.std.proofs.Common.{◌∙◌, rules, tests}
use Rattle.std.proofs.lemmas.Iterator.{YieldsList-from_slice}
use Rattle.std.proofs.lemmas.Iterator.Search.{find_from_yields_List}
use Rattle.iec_tree.specs.Elementary.{elementary_named, is_written}
use Rattle.iec_tree.specs.declared.elementary.TheConstants.{ELEMENTARY}
use Rattle.iec_tree.proofs.elementary.elementary_named.Goals as goal

pub returns : goal.returns
unfolding elementary_named
returns c =
    c.copied.ensures
    ∙ find_from_yields_List (is_written c.args.name.now) _ _ _ c.find.ensures.ran (YieldsList-from_slice ELEMENTARY c.iter.ensures.rest) (λ x b q k. search (rules, tests))
