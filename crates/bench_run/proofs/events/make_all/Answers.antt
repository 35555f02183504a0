-- Line after line, or up to the one that ends the run.
use Rattle.std.proofs.lemmas.Result.{err_from_is_err_and}
use Rattle.bench_run.proofs.RunLaws.{a-line-left, goes-on, stops}
use Rattle.bench_run.proofs.events.make_all.Goals as goal

pub returns-in_err-make_line-clause-made : goal.returns-in_err-make_line-clause-made
returns-in_err-make_line-clause-made c =
    let p = err_from_is_err_and c.from_residual.result c.from_residual.ensures.1 in
    rw (p.1, p.2) (stops _ c.loop-line.kernel.kernel c.make_line.new.kernel.kernel _ _ _ _ _ c.in_err-make_line.field-0.0
    (a-line-left _ _ _ _ c.loop-line.line-index _ _ c.loop-line-test.true c.loop-line.invariant)
    c.in_err-make_line.ensures.made)

pub loop-line-preserved : goal.loop-line-preserved
loop-line-preserved c =
    goes-on _ c.loop-line.kernel.kernel c.make_line.new.kernel.kernel _ _ _ _ _
    (a-line-left _ _ _ _ c.loop-line.line-index _ _ c.loop-line-test.true c.loop-line.invariant)
    c.make_line.ensures.config c.in_ok-make_line.ensures.made c.make_line.ensures.going
