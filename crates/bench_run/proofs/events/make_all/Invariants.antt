use Rattle.std.specs.Prelude.{Ok}
use Rattle.std.specs.List.{flat_map}
use Rattle.std.proofs.Common.{drop}
use Rattle.bench_run.specs.Run.{events_of, made_all}
use Rattle.bench_run.proofs.RunLaws.{IsUnderWay}
use Rattle.bench_run.specs.Going.{run_at}
use Rattle.bench_run.proofs.events.make_all.Given as goal

abbrev pub invariant-loop-line : goal.invariant-loop-line
invariant-loop-line l =
    let s = l.initial.kernel.kernel.config in
    IsUnderWay s l.kernel.kernel l.drives (flat_map events_of (drop l.line-index l.lines))
    (made_all s (flat_map events_of l.lines) (run_at l.initial.kernel.kernel l.initial.drives (Ok tt)))
