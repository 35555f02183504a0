-- This many cycles, or up to the one that ends the run.
use Rattle.std.specs.Prelude.{[], ◌∷◌}
use Rattle.std.proofs.Common.{◌∙◌}
use Rattle.std.proofs.lemmas.Result.{err_from_is_err_and}
use Rattle.bench_run.specs.Run.{a_cycle}
use Rattle.bench_run.proofs.RunLaws.{a-cycle-left, goes-on, one-made, stops}
use Rattle.bench_run.proofs.events.make_cycles.Goals as goal

pub returns-in_err-make_cycle-clause-made : goal.returns-in_err-make_cycle-clause-made
returns-in_err-make_cycle-clause-made c =
    let p = err_from_is_err_and c.from_residual.result c.from_residual.ensures.1 in
    rw (p.1, p.2) (stops _ c.loop.kernel.kernel c.make_cycle.new.kernel.kernel _ _ (a_cycle ∷ []) _ _ c.in_err-make_cycle.field-0.0
    (a-cycle-left _ _ _ c.args.count c.loop.counter _ c.loop-test.true c.loop.invariant)
    (c.in_err-make_cycle.ensures.made ∙ one-made _ _ _))

pub loop-preserved : goal.loop-preserved
loop-preserved c =
    goes-on _ c.loop.kernel.kernel c.make_cycle.new.kernel.kernel _ _ (a_cycle ∷ []) _ _
    (a-cycle-left _ _ _ c.args.count c.loop.counter _ c.loop-test.true c.loop.invariant)
    c.make_cycle.ensures.config (c.in_ok-make_cycle.ensures.made ∙ one-made _ _ _) c.make_cycle.ensures.going
