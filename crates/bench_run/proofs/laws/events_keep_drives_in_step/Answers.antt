-- The drives stay in step.
use Rattle.bench_run.proofs.StepLaws.{first-in-step, made-in-step}
use Rattle.bench_run.proofs.laws.events_keep_drives_in_step.Goals as goal

pub returns-clause-first : goal.returns-clause-first
returns-clause-first c = first-in-step c.drives_follow_their_outputs.ensures

pub returns-clause-event : goal.returns-clause-event
returns-clause-event c = made-in-step c.drives_follow_their_outputs.ensures
