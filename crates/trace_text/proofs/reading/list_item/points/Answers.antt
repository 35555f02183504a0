-- Each step reads one more.
use Rattle.std.proofs.lemmas.Result.{err_from_is_err_and}
use Rattle.line_text.specs.Texts.{texts}
use Rattle.trace_text.specs.reading.Items.{point}
use Rattle.line_text.proofs.Each.{read-more, read-stops, word_at}
use Rattle.trace_text.proofs.reading.list_item.points.Goals as goal

pub returns-in_err-point : goal.returns-in_err-point
returns-in_err-point c =
    let p = err_from_is_err_and c.from_residual.result c.from_residual.ensures.1 in
    let cut = word_at c.args.fields.now c.loop-field.field-index c.loop-field-test.true in
    rw (p.1, p.2) (read-stops point (texts c.args.fields.now) c.loop-field.field-index _ _ _ cut c.in_err-point.ensures c.loop-field.invariant)

pub loop-field-preserved : goal.loop-field-preserved
loop-field-preserved c =
    let cut = word_at c.args.fields.now c.loop-field.field-index c.loop-field-test.true in
    rw c.in-Ok.ensures.items (read-more point (texts c.args.fields.now) c.loop-field.field-index _ _ _ cut c.in_ok-point.ensures c.loop-field.invariant)
