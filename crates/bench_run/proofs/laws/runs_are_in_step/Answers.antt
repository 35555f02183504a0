-- The law of runs.
use Rattle.bench_run.proofs.StepLaws.{run-in-step}
use Rattle.bench_run.proofs.laws.runs_are_in_step.Goals as goal

pub returns : goal.returns
returns c = run-in-step c.drives_follow_their_outputs.ensures
