-- The file was read, or it was said why there is no text.
use Rattle.std.proofs.Common.{ap}
use Rattle.motion_cli.proofs.FileLaws.{none-ended, text-ended}
use Rattle.motion_cli.proofs.serve.serve_file.Goals as goal

pub returns-in-Ok : goal.returns-in-Ok
returns-in-Ok g c =
    text-ended _ _ (record { job = c.args.work.job; name = c.args.name.now }) _ _ _ _ _ _
    c.most_bytes.ensures
    (ap (λ o. record { count = g.K.Sink.count o; told = g.K.Sink.told o }) c.in-Ok.ensures.silent)
    c.in-Ok.ensures.text c.do_job.ensures

pub returns-in-Err : goal.returns-in-Err
returns-in-Err g c =
    none-ended _ _ (record { job = c.args.work.job; name = c.args.name.now }) _ _ _ _
    c.most_bytes.ensures c.in-Err.ensures.none
