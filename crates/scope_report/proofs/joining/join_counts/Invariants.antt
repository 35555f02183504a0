use Rattle.std.proofs.Common.{slice_index_or}
use Rattle.scope_report.specs.Counting.{added}
use Rattle.scope_report.proofs.Joined.{IsJoined}
use Rattle.scope_report.proofs.joining.join_counts.Given as goal

abbrev pub invariant-loop-place : goal.invariant-loop-place
invariant-loop-place l = IsJoined added (slice_index_or l.others) l.initial.counts l.counts l.place
