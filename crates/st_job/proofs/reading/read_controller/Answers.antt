-- The second file gives a program, or none.
use Rattle.std.proofs.Common.{ap}
use Rattle.job_ends.proofs.Both.{second-none}
use Rattle.st_job.proofs.GivenLaws.{with-tasks}
use Rattle.st_job.proofs.reading.read_controller.Goals as goal

pub returns-clause-controller : goal.returns-clause-controller
returns-clause-controller g c =
    with-tasks _ _ _ _ _ _ c.in_ok-machine.ensures.told c.in_ok-machine.ensures.machine
    c.read_tasks.ensures.controller

pub returns-clause-none : goal.returns-clause-none
returns-clause-none g c =
    second-none _ _ _ _ _ _ _ _ _ _ _ _ _ _ _ _ _ c.in_ok-machine.ensures.told
    c.in_ok-machine.ensures.kept
    (ap (λ o. record { count = g.K.Sink.count o; told = g.K.Sink.told o })
    c.in_ok-machine.ensures.silent) c.in_ok-machine.ensures.machine c.read_tasks.ensures.none
