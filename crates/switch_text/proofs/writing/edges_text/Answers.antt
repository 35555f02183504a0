-- All entries were taken.
use Rattle.std.proofs.Common.{◌≤◌, subst}
use Rattle.trace_text.specs.TraceState.{entries_of}
use Rattle.switch_text.proofs.EdgeLaws.{behind-all}
use Rattle.switch_text.proofs.writing.edges_text.Goals as goal

pub returns : goal.returns
returns c =
    behind-all c.args.switches.now (entries_of c.args.trace.now) c.loop-place.place
    c.loop-place.log
    (subst (λ n. n ≤ c.loop-place.place) c.entries-place-end.ensures.count c.loop-place-test.false)
    c.loop-place.invariant.behind
