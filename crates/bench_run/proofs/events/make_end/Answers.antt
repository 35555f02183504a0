-- There is room for the end, or it ends the run.
use Rattle.std.specs.Prelude.{Ok, Err}
use Rattle.std.proofs.Common.{◌∙◌, refl, ap}
use Rattle.std.proofs.lemmas.Result.{err_from_is_err_and}
use Rattle.hot_standby.specs.Primaries.{Primary}
use Rattle.bench_run.specs.Run.{an_end}
use Rattle.bench_run.proofs.RunLaws.{made-by}
use Rattle.bench_run.specs.Going.{run_at}
use Rattle.bench_run.proofs.events.make_end.Goals as goal

pub returns-in_err-room_for-clause-made : goal.returns-in_err-room_for-clause-made
returns-in_err-room_for-clause-made c = λ drives.
    let p = err_from_is_err_and c.from_residual.result c.from_residual.ensures.1 in
    rw (p.1, p.2) (made-by _ (an_end c.args.task) (run_at c.args.kernel.now.kernel drives (Ok tt)) (Err c.in_err-room_for.field-0.0)
    refl c.in_err-room_for.ensures.value)

pub returns-clause-made : goal.returns-clause-made
returns-clause-made c = λ drives.
    ap (λ (p : Primary). run_at p.kernel drives (Ok tt)) c.end.ensures
    ∙ made-by _ (an_end c.args.task) (run_at c.args.kernel.now.kernel drives (Ok tt)) (Ok tt) refl
    c.in_ok-room_for.ensures.value
