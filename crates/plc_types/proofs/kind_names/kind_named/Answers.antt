-- The kind that is found is the first of this name.
use Rattle.std.proofs.Common.{◌∙◌, rules, tests}
use Rattle.std.specs.Str.{bytes_eq}
use Rattle.std.proofs.lemmas.Iterator.{YieldsList-from_slice}
use Rattle.std.proofs.lemmas.Iterator.Search.{find_from_yields_List}
use Rattle.plc_types.specs.KindNames.{kind_name, kind_named}
use Rattle.plc_types.specs.declared.kind_names.TheConstants.{KINDS}
use Rattle.plc_types.proofs.kind_names.kind_named.Goals as goal

pub returns : goal.returns
unfolding kind_named
returns c =
    c.copied.ensures
    ∙ find_from_yields_List (λ x. bytes_eq (kind_name x) c.args.name.now) _ _ _ c.find.ensures.ran (YieldsList-from_slice KINDS c.iter.ensures.rest) (λ x b q k. search (rules, tests))
