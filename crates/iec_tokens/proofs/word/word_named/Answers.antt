-- The word that is found is the first that is written so.
use Rattle.std.proofs.Common.{◌∙◌, rules, tests}
use Rattle.std.specs.Str.{str_eq_ignore_ascii_case}
use Rattle.std.proofs.lemmas.Iterator.{YieldsList-from_slice}
use Rattle.std.proofs.lemmas.Iterator.Search.{find_from_yields_List}
use Rattle.iec_tokens.specs.Words.{word_named, word_text}
use Rattle.iec_tokens.specs.declared.word.TheConstants.{WORDS}
use Rattle.iec_tokens.proofs.word.word_named.Goals as goal

pub returns : goal.returns
unfolding word_named
returns c =
    c.copied.ensures
    ∙ find_from_yields_List (λ x. str_eq_ignore_ascii_case (word_text x) c.args.text.now) _ _ _ c.find.ensures.ran (YieldsList-from_slice WORDS c.iter.ensures.rest) (λ x b q k. search (rules, tests))
