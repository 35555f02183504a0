-- What is found is the first of this name.
use Rattle.std.proofs.Common.{◌∙◌, rules, tests}
use Rattle.std.specs.Str.{str_eq_ignore_ascii_case}
use Rattle.std.proofs.lemmas.Iterator.{YieldsList-from_slice}
use Rattle.std.proofs.lemmas.Iterator.Search.{find_from_yields_List}
use Rattle.iec_tree.specs.Standard.{standard_named, standard_text}
use Rattle.iec_tree.specs.declared.standard.TheConstants.{STANDARD}
use Rattle.iec_tree.proofs.standard.standard_named.Goals as goal

pub returns : goal.returns
unfolding standard_named
returns c =
    c.copied.ensures
    ∙ find_from_yields_List (λ x. str_eq_ignore_ascii_case (standard_text x) c.args.name.now) _ _ _ c.find.ensures.ran (YieldsList-from_slice STANDARD c.iter.ensures.rest) (λ x b q k. search (rules, tests))
