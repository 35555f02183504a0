-- The sign that is found is the first at the front.
use Rattle.std.proofs.Common.{◌∙◌, rules, tests}
use Rattle.std.specs.Prelude.{nat_eq}
use Rattle.std.specs.List.{starts_with}
use Rattle.std.proofs.lemmas.Iterator.{YieldsList-from_slice}
use Rattle.std.proofs.lemmas.Iterator.Search.{find_from_yields_List}
use Rattle.iec_tokens.specs.Signs.{sign_at, sign_text}
use Rattle.iec_tokens.specs.declared.sign.TheConstants.{SIGNS}
use Rattle.iec_tokens.proofs.sign.sign_at.Goals as goal

pub returns : goal.returns
unfolding sign_at
returns c =
    c.copied.ensures
    ∙ find_from_yields_List (λ x. starts_with nat_eq c.args.text.now (sign_text x)) _ _ _ c.find.ensures.ran (YieldsList-from_slice SIGNS c.iter.ensures.rest) (λ x b q k. search (rules, tests))
