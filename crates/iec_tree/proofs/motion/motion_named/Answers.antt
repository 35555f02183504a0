-- What is found is the first of this name.
use Rattle.std.proofs.Common.{◌∙◌, rules, tests}
use Rattle.std.specs.Str.{str_eq_ignore_ascii_case}
use Rattle.std.proofs.lemmas.Iterator.{YieldsList-from_slice}
use Rattle.std.proofs.lemmas.Iterator.Search.{find_from_yields_List}
use Rattle.iec_tree.specs.Motion.{motion_named, motion_text, without_prefix}
use Rattle.iec_tree.specs.declared.motion.TheConstants.{MOTION}
use Rattle.iec_tree.proofs.motion.motion_named.Goals as goal

pub returns : goal.returns
unfolding motion_named
returns c =
    c.copied.ensures
    ∙ find_from_yields_List (λ x. str_eq_ignore_ascii_case (motion_text x) (without_prefix c.args.name.now)) _ _ _ c.find.ensures.ran (YieldsList-from_slice MOTION c.iter.ensures.rest) (λ x b q k. search (rules, tests))
