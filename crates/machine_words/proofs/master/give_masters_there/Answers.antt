-- Each word is tested.
use Rattle.std.proofs.Common.{◌∙◌, rules, tests}
use Rattle.std.proofs.lemmas.Iterator.{YieldsList-from_slice}
use Rattle.std.proofs.lemmas.Iterator.Search.{all_from_yields_List}
use Rattle.machine_words.specs.Inputs.{is_master_there}
use Rattle.line_text.proofs.Texts.{list_all-texts}
use Rattle.machine_words.proofs.master.give_masters_there.Goals as goal

pub returns : goal.returns
returns c =
    all_from_yields_List (λ w. is_master_there c.args.machine.now w.now) _ _ _ c.all.ensures.ran (YieldsList-from_slice c.args.words.now c.iter.ensures.rest) (λ x b q k. search (rules, tests))
    ∙ list_all-texts (is_master_there c.args.machine.now) c.args.words.now
