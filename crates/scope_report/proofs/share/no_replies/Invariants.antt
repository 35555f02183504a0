use Rattle.std.proofs.Common.{◌≡◌, [], replicate}
use Rattle.scope_report.specs.Counting.{counts_of}
use Rattle.scope_report.proofs.share.no_replies.Given as goal

abbrev pub invariant-loop-made : goal.invariant-loop-made
invariant-loop-made l = l.counts.items ≡ replicate l.made (counts_of [])
