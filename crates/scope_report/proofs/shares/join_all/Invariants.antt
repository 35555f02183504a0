use Rattle.std.proofs.Common.{length, take}
use Rattle.trace_text.specs.TraceState.{entries_of}
use Rattle.scope_report.specs.Cuts.{cut_at}
use Rattle.scope_report.specs.Shares.{IsShareOf}
use Rattle.scope_report.proofs.shares.join_all.Given as goal

-- the shares so far
abbrev pub invariant-loop-share : goal.invariant-loop-share
invariant-loop-share l = IsShareOf l.fn.trace.config
    (take (cut_at (length (entries_of l.fn.trace)) l.fn.count l.share-index)
    (entries_of l.fn.trace)) l.so_far
