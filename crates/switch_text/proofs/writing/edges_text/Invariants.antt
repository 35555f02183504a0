-- The switches stand after the entries so far.
use Rattle.std.proofs.Common.{◌≤◌}
use Rattle.trace_text.specs.TraceState.{entries_of}
use Rattle.switch_text.specs.UnderWay.{IsBehind}
use Rattle.switch_text.proofs.writing.edges_text.Given as goal

abbrev pub invariant-loop-place : goal.invariant-loop-place
invariant-loop-place l = record {
  behind : IsBehind l.switches (entries_of l.trace) l.place l.log;
  few : l.log.cycles ≤ l.place;
}
