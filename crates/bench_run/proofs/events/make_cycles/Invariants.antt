use Rattle.std.specs.Prelude.{Ok}
use Rattle.std.proofs.Common.{◌-◌, replicate}
use Rattle.bench_run.specs.Run.{a_cycle, made_all}
use Rattle.bench_run.proofs.RunLaws.{IsUnderWay}
use Rattle.bench_run.specs.Going.{run_at}
use Rattle.bench_run.proofs.events.make_cycles.Given as goal

abbrev pub invariant-loop : goal.invariant-loop
invariant-loop l =
    let s = l.initial.kernel.kernel.config in
    IsUnderWay s l.kernel.kernel l.drives (replicate (l.count - l.counter) a_cycle)
    (made_all s (replicate l.count a_cycle) (run_at l.initial.kernel.kernel l.initial.drives (Ok tt)))
