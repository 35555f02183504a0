-- A run ends for its cause alone.
use Rattle.bench_run.proofs.EndingLaws.{ends-exactly}
use Rattle.bench_run.specs.declared.bench.RunFault.TheVariants.{CyclesOver, HistoryFull}
use Rattle.bench_run.proofs.laws.runs_end_for_their_cause.Goals as goal

pub returns-clause-over : goal.returns-clause-over
returns-clause-over c = λ s events r o. ends-exactly s events r CyclesOver o

pub returns-clause-full : goal.returns-clause-full
returns-clause-full c = λ s events r o. ends-exactly s events r HistoryFull o
