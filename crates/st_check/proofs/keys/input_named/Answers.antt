-- The input that is found is the first that has the word.
use Rattle.std.proofs.Common.{◌∙◌, rules, tests}
use Rattle.std.specs.Str.{bytes_eq}
use Rattle.std.proofs.lemmas.Iterator.{YieldsList-from_slice}
use Rattle.std.proofs.lemmas.Iterator.Search.{find_from_yields_List}
use Rattle.st_check.specs.Keys.{input_named, inputs, word_of}
use Rattle.st_check.proofs.keys.input_named.Goals as goal

pub returns : goal.returns
unfolding input_named
returns c =
    c.copied.ensures
    ∙ find_from_yields_List (λ x. bytes_eq (word_of x) c.args.word.now) _ _ _ c.find.ensures.ran (YieldsList-from_slice inputs c.iter.ensures.rest) (λ x b q k. search (rules, tests))
