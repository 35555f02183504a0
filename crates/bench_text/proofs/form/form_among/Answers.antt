-- The form that is found is the first of this word.
use Rattle.std.proofs.Common.{◌∙◌, rules, tests}
use Rattle.std.specs.Str.{bytes_eq}
use Rattle.std.proofs.lemmas.Iterator.{YieldsList-from_slice}
use Rattle.std.proofs.lemmas.Iterator.Search.{find_from_yields_List}
use Rattle.bench_text.specs.Forms.{form_of, forms, word_of}
use Rattle.bench_text.proofs.form.form_among.Goals as goal

pub returns : goal.returns
unfolding form_of
returns c =
    c.copied.ensures
    ∙ find_from_yields_List (λ f. bytes_eq (word_of f) c.args.first.now) _ _ _ c.find.ensures.ran (YieldsList-from_slice forms c.iter.ensures.rest) (λ x b q k. search (rules, tests))
