-- A run that has ended stays.
use Rattle.bench_run.proofs.RunLaws.{made-ended}
use Rattle.bench_run.proofs.laws.ended_runs_stay.Goals as goal

pub returns : goal.returns
returns c = made-ended
