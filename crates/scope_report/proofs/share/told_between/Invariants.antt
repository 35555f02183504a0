use Rattle.std.proofs.Common.{length}
use Rattle.trace_text.specs.TraceState.{entries_of}
use Rattle.scope_report.specs.Cuts.{between_cuts}
use Rattle.scope_report.specs.Shares.{IsShare}
use Rattle.scope_report.proofs.share.told_between.Given as goal

-- the entries so far
abbrev pub invariant-loop-place : goal.invariant-loop-place
invariant-loop-place l =
    IsShare (length l.initial.so_far.axes) (length l.initial.so_far.blocks)
    (between_cuts l.from l.place (entries_of l.trace)) l.so_far
