-- The files give a plant, which is run, or none.
use Rattle.std.proofs.Common.{ap, inl, sym}
use Rattle.std.proofs.lemmas.List.{append-nil}
use Rattle.run_job.proofs.HeadlineLaws.{ended}
use Rattle.run_job.proofs.RunLaws.{by-plant}
use Rattle.run_job.proofs.run.run_files.Goals as goal

pub returns-in-Ok-clause-ends : goal.returns-in-Ok-clause-ends
returns-in-Ok-clause-ends g c =
    ended c.statuswords_are_read_back.ensures _ _ _ _ _ _ _ _ _
    (by-plant _ _ _ _ _ _ _ _ _ _ _ c.in-Ok.ensures.plant
    (ap (λ o. record { count = g.K.Sink.count o; told = g.K.Sink.told o }) c.in-Ok.ensures.silent)
    c.run_read.ensures.ends)

pub returns-in-Err-clause-ends : goal.returns-in-Err-clause-ends
returns-in-Err-clause-ends g c =
    ended c.statuswords_are_read_back.ensures _ _ _ _ _ _ _ _ _
    (inl c.in-Err.ensures.none)

pub returns-in-Err-clause-joined : goal.returns-in-Err-clause-joined
returns-in-Err-clause-joined g c = (0, sym (append-nil c.args.spawner.now.jobs))
