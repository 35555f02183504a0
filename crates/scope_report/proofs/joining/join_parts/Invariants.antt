use Rattle.std.proofs.Common.{slice_index_or}
use Rattle.scope_report.specs.Merging.{merged}
use Rattle.scope_report.proofs.Joined.{IsJoined}
use Rattle.scope_report.proofs.joining.join_parts.Given as goal

abbrev pub invariant-loop-place : goal.invariant-loop-place
invariant-loop-place l = IsJoined merged (slice_index_or l.others) l.initial.parts l.parts l.place
