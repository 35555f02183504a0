-- There is room for the call, or it ends the run.
use Rattle.std.specs.Prelude.{Ok, Err, List, ◌∷◌, ◌++◌, []}
use Rattle.std.proofs.Common.{◌∙◌, refl, ap}
use Rattle.std.proofs.lemmas.Result.{err_from_is_err_and}
use Rattle.plc_types.specs.declared.outputs.Outputs.{Outputs}
use Rattle.motion_history.specs.Entries.{Entry, call}
use Rattle.motion_history.specs.Setup.{Setup}
use Rattle.hot_standby.specs.Primaries.{Primary}
use Rattle.bench_run.specs.Run.{Run, a_call}
use Rattle.bench_run.proofs.RunLaws.{made-by, task-at}
use Rattle.bench_run.specs.Going.{run_at}
use Rattle.bench_run.proofs.events.make_call.Goals as goal

pub returns-in_err-room_for-clause-made : goal.returns-in_err-room_for-clause-made
returns-in_err-room_for-clause-made c = λ drives.
    let p = err_from_is_err_and c.from_residual.result c.from_residual.ensures.1 in
    rw (p.1, p.2) (made-by _ (a_call c.args.instance c.args.inputs.now) (run_at c.args.kernel.now.kernel drives (Ok tt))
    (Err c.in_err-room_for.field-0.0) refl c.in_err-room_for.ensures.value)

pub call-requires-clause-task : goal.call-requires-clause-task
call-requires-clause-task c =
    task-at _ _ c.args.instance _
    (c.blocks-2.ensures ∙ ap (λ (s : Setup). s.blocks) c.config.ensures) c.requires.call.there

pub returns-clause-made : goal.returns-clause-made
returns-clause-made c = λ drives.
    let history = c.args.kernel.now.kernel.history in
    let made = ap (λ (p : Primary). p.kernel.history) c.call.ensures.after
    ∙ ap (λ (o : Outputs). history ++ call c.args.instance c.args.inputs.now o ∷ [])
    c.call.ensures.reply in
    let run : List Entry → Run = λ h. record { history = h; drives = drives; ending = Ok tt } in
    ap run made
    ∙ made-by _ (a_call c.args.instance c.args.inputs.now) (run_at c.args.kernel.now.kernel drives (Ok tt))
    (Ok tt) refl c.in_ok-room_for.ensures.value
