-- Its history is legal, and its drives took an output in each cycle.
use Rattle.bench_job.specs.Again.{version_of}
use Rattle.bench_run.specs.InStep.{drives_of}
use Rattle.trace_text.specs.declared.command.Command.TheVariants.{Bench}
use Rattle.motion_cli.proofs.WrittenLaws.{written-legal}
use Rattle.motion_cli.proofs.laws.bench_traces_are_legal.Goals as goal

pub returns : goal.returns
returns c = λ files name old new h.
    written-legal (version_of h.bench) Bench h.bench.config h.history h.drives (drives_of h.bench h.history)
    h.legal h.taken
