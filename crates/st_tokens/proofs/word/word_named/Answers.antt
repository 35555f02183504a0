-- The word that is found is the first that is written so.
use Rattle.std.proofs.Common.{◌∙◌, rules, tests}
use Rattle.std.specs.Str.{bytes_eq}
use Rattle.std.proofs.lemmas.Iterator.{YieldsList-from_slice}
use Rattle.std.proofs.lemmas.Iterator.Search.{find_from_yields_List}
use Rattle.st_tokens.specs.Words.{word_named, word_text}
use Rattle.st_tokens.specs.declared.word.TheConstants.{WORDS}
use Rattle.st_tokens.proofs.word.word_named.Goals as goal

pub returns : goal.returns
unfolding word_named
returns c =
    c.copied.ensures
    ∙ find_from_yields_List (λ x. bytes_eq (word_text x) c.args.text.now) _ _ _ c.find.ensures.ran (YieldsList-from_slice WORDS c.iter.ensures.rest) (λ x b q k. search (rules, tests))
