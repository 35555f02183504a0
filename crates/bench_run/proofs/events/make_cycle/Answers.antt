-- There is a cycle and room for it, or it ends the run.
use Rattle.std.specs.Prelude.{Ok, Err}
use Rattle.std.proofs.Common.{◌∙◌, refl}
use Rattle.std.proofs.lemmas.Result.{err_from_is_err_and}
use Rattle.bench_run.specs.Run.{a_cycle}
use Rattle.bench_run.proofs.RunLaws.{made-by}
use Rattle.bench_run.specs.Going.{run_at}
use Rattle.bench_run.proofs.events.make_cycle.Goals as goal

pub returns-in_err-room_for-clause-made : goal.returns-in_err-room_for-clause-made
returns-in_err-room_for-clause-made c =
    let p = err_from_is_err_and c.from_residual.result c.from_residual.ensures.1 in
    rw (p.1, p.2) (made-by _ a_cycle (run_at c.args.kernel.now.kernel c.args.drives.now (Ok tt)) (Err c.in_err-room_for.field-0.0) refl
    c.in_err-room_for.ensures.value)

pub returns-clause-made : goal.returns-clause-made
returns-clause-made c =
    c.cycle_once.ensures.made ∙ made-by _ a_cycle (run_at c.args.kernel.now.kernel c.args.drives.now (Ok tt))
    (Ok tt) refl c.in_ok-room_for.ensures.value
