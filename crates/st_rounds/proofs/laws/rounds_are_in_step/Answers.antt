-- The drives stay in step.
use Rattle.st_rounds.proofs.StepLaws.{run-in-step}
use Rattle.st_rounds.proofs.laws.rounds_are_in_step.Goals as goal

pub returns : goal.returns
returns c =
    run-in-step c.events_keep_drives_in_step.ensures.first
    c.events_keep_drives_in_step.ensures.event
