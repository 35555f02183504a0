-- The second file gives no program.
use Rattle.std.proofs.Common.{ap}
use Rattle.job_ends.proofs.Both.{second-none}
use Rattle.run_job.proofs.reading.read_plant.Goals as goal

pub returns-clause-none : goal.returns-clause-none
returns-clause-none g c =
    second-none _ _ _ _ _ _ _ _ _ _ _ _ _ _ _ _ _ c.in_ok-machine.ensures.told
    c.in_ok-machine.ensures.kept
    (ap (λ o. record { count = g.K.Sink.count o; told = g.K.Sink.told o })
    c.in_ok-machine.ensures.silent) c.in_ok-machine.ensures.machine c.read_tasks.ensures.none
