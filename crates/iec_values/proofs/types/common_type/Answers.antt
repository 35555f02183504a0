-- What is found is the first type to which all widen.
use Rattle.std.proofs.Common.{◌∙◌, rules, tests}
use Rattle.std.proofs.lemmas.Iterator.{YieldsList-from_slice}
use Rattle.std.proofs.lemmas.Iterator.Search.{find_from_yields_List}
use Rattle.std.specs.List.{list_all}
use Rattle.iec_tree.specs.declared.elementary.TheConstants.{ELEMENTARY}
use Rattle.iec_values.specs.Types.{common_of, widens}
use Rattle.iec_values.proofs.types.common_type.Goals as goal

pub returns : goal.returns
unfolding common_of
returns c =
    c.copied.ensures
    ∙ find_from_yields_List (λ t. list_all (λ s. widens s t) c.args.types.now) _ _ _ c.find.ensures.ran (YieldsList-from_slice ELEMENTARY c.iter.ensures.rest) (λ x b q k. search (rules, tests))
