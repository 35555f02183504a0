-- The number that was parsed is the one that is spelled.
use Rattle.std.specs.Prelude.{None, Some, true, false}
use Rattle.std.specs.Fmt.{signed_decimal}
use Rattle.std.specs.Str.{bytes_eq}
use Rattle.std.proofs.Common.{◌∙◌, sym, subst, w64, FitsSigned, to_z-of_z, ◌≡◌}
use Rattle.trace_columns.specs.Columns.{wide_number_of}
use Rattle.trace_columns.proofs.NumberLaws.{parsed-fits, wide-misspelled, wide-no_text, wide-parsed, wide-unparsed}
use Rattle.trace_columns.proofs.number.parsed_number_of.Goals as goal

pub returns-in_default : goal.returns-in_default
returns-in_default c = wide-no_text c.args.text.now c.in_default.ensures.cases.0

pub returns-in_default-parse : goal.returns-in_default-parse
returns-in_default-parse c =
    subst (λ t. None ≡ wide_number_of t) c.in-Ok.ensures.cases.0 (wide-unparsed _ c.parse.result _ c.parse.ensures.value.0 c.in_default-parse.is)

pub returns-then-is_spelled : goal.returns-then-is_spelled
returns-then-is_spelled c =
    let fits : FitsSigned w64 c.in-Ok-parse.number = parsed-fits c.in-Ok.word.now c.parse.result _ c.parse.ensures.value.0 c.in-Ok-parse.is in
    let spelled : bytes_eq (signed_decimal c.in-Ok-parse.number) c.args.text.now ≡ true =
    rw (to_z-of_z fits) at (sym c.is_spelled.ensures ∙ c.if-is_spelled.true) in
    rw (to_z-of_z fits) (subst (λ t. bytes_eq (signed_decimal c.in-Ok-parse.number) t ≡ true → Some c.in-Ok-parse.number ≡ wide_number_of t) c.in-Ok.ensures.cases.0
    (wide-parsed c.in-Ok.word.now c.parse.result _ c.parse.ensures.value.0 c.in-Ok-parse.is) spelled)

pub returns-else-is_spelled : goal.returns-else-is_spelled
returns-else-is_spelled c =
    let fits : FitsSigned w64 c.in-Ok-parse.number = parsed-fits c.in-Ok.word.now c.parse.result _ c.parse.ensures.value.0 c.in-Ok-parse.is in
    let spelled : bytes_eq (signed_decimal c.in-Ok-parse.number) c.args.text.now ≡ false =
    rw (to_z-of_z fits) at (sym c.is_spelled.ensures ∙ c.if-is_spelled.false) in
    subst (λ t. bytes_eq (signed_decimal c.in-Ok-parse.number) t ≡ false → None ≡ wide_number_of t) c.in-Ok.ensures.cases.0
    (wide-misspelled c.in-Ok.word.now c.parse.result _ c.parse.ensures.value.0 c.in-Ok-parse.is) spelled
