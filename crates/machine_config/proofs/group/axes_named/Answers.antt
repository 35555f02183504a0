-- Each step reads one more.
use Rattle.std.proofs.lemmas.Result.{err_from_is_err_and}
use Rattle.line_text.specs.Texts.{texts}
use Rattle.machine_words.specs.Names.{axis_named}
use Rattle.machine_config.specs.RuleNumbers.{wrong_name}
use Rattle.line_text.proofs.Each.{read-more, read-stops, word_at}
use Rattle.machine_config.proofs.group.axes_named.Goals as goal

pub returns-in_err-axis : goal.returns-in_err-axis
returns-in_err-axis c =
    let p = err_from_is_err_and c.from_residual.result c.from_residual.ensures.1 in
    let cut = word_at c.args.names.now c.loop-name.name-index c.loop-name-test.true in
    rw (p.1, p.2) (read-stops (axis_named wrong_name c.args.config.now) (texts c.args.names.now) c.loop-name.name-index _ _ _ cut c.in_err-axis.ensures c.loop-name.invariant)

pub loop-name-preserved : goal.loop-name-preserved
loop-name-preserved c =
    let cut = word_at c.args.names.now c.loop-name.name-index c.loop-name-test.true in
    rw c.in-Ok.ensures.items (read-more (axis_named wrong_name c.args.config.now) (texts c.args.names.now) c.loop-name.name-index _ _ _ cut c.in_ok-axis.ensures c.loop-name.invariant)
