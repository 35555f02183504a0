-- The flag that is found is the first of this name.
use Rattle.std.proofs.Common.{◌∙◌, rules, tests}
use Rattle.std.specs.Str.{bytes_eq}
use Rattle.std.proofs.lemmas.Iterator.{YieldsList-from_slice}
use Rattle.std.proofs.lemmas.Iterator.Search.{find_from_yields_List}
use Rattle.plc_types.specs.Flags.{flag_name, flag_named, flags}
use Rattle.plc_types.proofs.flag.flag_named.Goals as goal

pub returns : goal.returns
unfolding flag_named
returns c =
    c.copied.ensures
    ∙ find_from_yields_List (λ f. bytes_eq (flag_name f) c.args.name.now) _ _ _ c.find.ensures.ran (YieldsList-from_slice flags c.iter.ensures.rest) (λ x b q k. search (rules, tests))
