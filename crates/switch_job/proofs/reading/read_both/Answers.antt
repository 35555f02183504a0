-- The second file gives switches, or none.
use Rattle.std.proofs.Common.{ap}
use Rattle.switch_job.proofs.GivenLaws.{both-held, second-none}
use Rattle.switch_job.proofs.reading.read_both.Goals as goal

pub returns-in-Ok-clause-both : goal.returns-in-Ok-clause-both
returns-in-Ok-clause-both g c =
    both-held _ _ _ _ (record { trace = c.in_ok-trace.trace; switches = c.in-Ok.switches })
    c.in_ok-trace.ensures.told c.in_ok-trace.ensures.trace c.in-Ok.ensures.switches

pub returns-in-Err-clause-none : goal.returns-in-Err-clause-none
returns-in-Err-clause-none g c =
    second-none _ _ _ _ _ _ _ _ _ _ _ _ c.in_ok-trace.ensures.told c.in_ok-trace.ensures.kept
    (ap (λ o. record { count = g.K.Sink.count o; told = g.K.Sink.told o })
    c.in_ok-trace.ensures.silent) c.in_ok-trace.ensures.trace c.in-Err.ensures.none
