-- The files give both, or not.
use Rattle.std.proofs.Common.{ap, inl}
use Rattle.switch_job.proofs.EndLaws.{ended}
use Rattle.switch_job.proofs.GivenLaws.{by-both}
use Rattle.switch_job.proofs.switches.switch_files.Goals as goal

pub returns-in-Ok : goal.returns-in-Ok
returns-in-Ok g c =
    ended _ _ _ _ _ _ _
    (by-both _ _ _ _ _ _ _ _ c.in-Ok.both
    (ap (λ o. record { count = g.K.Sink.count o; told = g.K.Sink.told o }) c.in-Ok.ensures.silent)
    c.in-Ok.ensures.both c.write_both.ensures.ends c.write_both.ensures.legal)

pub returns-in-Err : goal.returns-in-Err
returns-in-Err g c =
    ended _ _ _ _ _ _ _ (inl c.in-Err.ensures.none)
