-- The mode that is found is the first of this name.
use Rattle.std.proofs.Common.{◌∙◌, rules, tests}
use Rattle.std.specs.Str.{bytes_eq}
use Rattle.std.proofs.lemmas.Iterator.{YieldsList-from_slice}
use Rattle.std.proofs.lemmas.Iterator.Search.{find_from_yields_List}
use Rattle.plc_types.specs.KindNames.{mode_name, mode_named}
use Rattle.plc_types.specs.declared.kind_names.TheConstants.{MODES}
use Rattle.plc_types.proofs.kind_names.mode_named.Goals as goal

pub returns : goal.returns
unfolding mode_named
returns c =
    c.copied.ensures
    ∙ find_from_yields_List (λ x. bytes_eq (mode_name x) c.args.name.now) _ _ _ c.find.ensures.ran (YieldsList-from_slice MODES c.iter.ensures.rest) (λ x b q k. search (rules, tests))
