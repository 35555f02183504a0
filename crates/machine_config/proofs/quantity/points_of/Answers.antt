-- Each step reads one more.
use Rattle.std.proofs.lemmas.Result.{err_from_is_err_and}
use Rattle.line_text.specs.Texts.{texts}
use Rattle.machine_config.specs.Quantities.{point_of}
use Rattle.line_text.proofs.Each.{read-more, read-stops, word_at}
use Rattle.machine_config.proofs.quantity.points_of.Goals as goal

pub returns-in_err-point : goal.returns-in_err-point
returns-in_err-point c =
    let p = err_from_is_err_and c.from_residual.result c.from_residual.ensures.1 in
    let cut = word_at c.args.words.now c.loop-word.word-index c.loop-word-test.true in
    rw (p.1, p.2) (read-stops point_of (texts c.args.words.now) c.loop-word.word-index _ _ _ cut c.in_err-point.ensures c.loop-word.invariant)

pub loop-word-preserved : goal.loop-word-preserved
loop-word-preserved c =
    let cut = word_at c.args.words.now c.loop-word.word-index c.loop-word-test.true in
    rw c.in-Ok.ensures.items (read-more point_of (texts c.args.words.now) c.loop-word.word-index _ _ _ cut c.in_ok-point.ensures c.loop-word.invariant)
