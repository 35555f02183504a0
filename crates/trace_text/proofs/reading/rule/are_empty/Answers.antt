-- Each field is tested.
use Rattle.std.proofs.Common.{◌∙◌, rules, tests}
use Rattle.std.proofs.lemmas.Iterator.{YieldsList-from_slice}
use Rattle.std.proofs.lemmas.Iterator.Search.{all_from_yields_List}
use Rattle.trace_text.specs.reading.Rules.{are_empty, is_empty}
use Rattle.line_text.proofs.Texts.{list_all-texts}
use Rattle.trace_text.proofs.reading.rule.are_empty.Goals as goal

pub returns : goal.returns
unfolding are_empty
returns c =
    all_from_yields_List (λ w. is_empty w.now) _ _ _ c.all.ensures.ran (YieldsList-from_slice c.args.fields.now c.iter.ensures.rest) (λ x b q k. search (rules, tests))
    ∙ list_all-texts is_empty c.args.fields.now
