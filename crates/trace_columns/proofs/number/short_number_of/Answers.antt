-- The digits are those of the number that the field is.
use Rattle.std.specs.Prelude.{◌≡◌, IfSome, pos, Some, ◌∷◌}
use Rattle.std.proofs.Common.{◌∙◌, ap, sym, subst, arith, w64, to_z}
use Rattle.std.proofs.lemmas.Int.{ints}
use Rattle.trace_columns.specs.Columns.{wide_number_of}
use Rattle.trace_columns.proofs.ShortLaws.{negatives-back, short-back}
use Rattle.trace_columns.proofs.number.short_number_of.Goals as goal

pub returns-in_ok-digits_of : goal.returns-in_ok-digits_of
returns-in_ok-digits_of c =
    let begins : c.args.text.now ≡ 45 ∷ c.in_ok-first.size.now = rw (← c.if-first-eq45.true) c.in_ok-first.ensures.cases.0 in
    subst (λ t. IfSome c.negative.result (λ z. Some z ≡ wide_number_of t)) (sym begins)
    (negatives-back c.negative.result c.in_ok-first.size.now c.in_ok-digits_of.field-0 c.in_ok-digits_of.ensures.spelled c.in_ok-digits_of.ensures.small
    c.negative.ensures.some c.negative.ensures.least)

pub returns-in_ok-digits_of-2 : goal.returns-in_ok-digits_of-2
returns-in_ok-digits_of-2 c =
    let small = c.in_ok-digits_of-2.ensures.small in
    let same : to_z w64 c.in_ok-digits_of-2.field-0 ≡ pos c.in_ok-digits_of-2.field-0 = omega (arith, ints, small) in
    ap Some same ∙ short-back c.args.text.now c.in_ok-digits_of-2.field-0 c.in_ok-digits_of-2.ensures.spelled small
