-- The kind that is found is the first of this name.
use Rattle.std.proofs.Common.{◌∙◌, rules, tests}
use Rattle.std.specs.Str.{bytes_eq}
use Rattle.std.proofs.lemmas.Iterator.{YieldsList-from_slice}
use Rattle.std.proofs.lemmas.Iterator.Search.{find_from_yields_List}
use Rattle.trace_text.specs.reading.Kinds.{kind_of, kind_text, kinds}
use Rattle.trace_text.proofs.reading.kind.kind_among.Goals as goal

pub returns : goal.returns
unfolding kind_of
returns c =
    c.copied.ensures
    ∙ find_from_yields_List (λ x. bytes_eq (kind_text x) c.args.first.now) _ _ _ c.find.ensures.ran (YieldsList-from_slice kinds c.iter.ensures.rest) (λ x b q k. search (rules, tests))
