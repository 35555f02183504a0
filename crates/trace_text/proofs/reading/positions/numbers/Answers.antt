-- Each step reads one more.
use Rattle.std.proofs.Common.{◌≡◌, arith, of_z, to_z, w64}
use Rattle.std.proofs.lemmas.Int.{ints}
use Rattle.std.proofs.lemmas.Result.{err_from_is_err_and}
use Rattle.line_text.specs.Texts.{texts}
use Rattle.trace_text.specs.reading.Items.{number}
use Rattle.line_text.proofs.Each.{read-more, read-stops, word_at}
use Rattle.trace_text.proofs.reading.positions.numbers.Goals as goal

pub returns-in_err-number : goal.returns-in_err-number
returns-in_err-number c =
    let p = err_from_is_err_and c.from_residual.result c.from_residual.ensures.1 in
    let cut = word_at c.args.fields.now c.loop-field.field-index c.loop-field-test.true in
    rw (p.1, p.2) (read-stops number (texts c.args.fields.now) c.loop-field.field-index _ _ _ cut c.in_err-number.ensures.value c.loop-field.invariant)

pub loop-field-preserved : goal.loop-field-preserved
loop-field-preserved c =
    let cut = word_at c.args.fields.now c.loop-field.field-index c.loop-field-test.true in
    let small = c.in_ok-number.ensures.small in
    let same : to_z w64 (of_z w64 c.in_ok-number.number) ≡ c.in_ok-number.number = omega (arith, ints, small) in
    rw (c.in-Ok.ensures.items, same) (read-more number (texts c.args.fields.now) c.loop-field.field-index _ _ _ cut c.in_ok-number.ensures.value c.loop-field.invariant)
