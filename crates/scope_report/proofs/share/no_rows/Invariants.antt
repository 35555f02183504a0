use Rattle.std.proofs.Common.{◌≡◌, [], replicate}
use Rattle.scope_report.specs.Merging.{part_of}
use Rattle.scope_report.proofs.share.no_rows.Given as goal

abbrev pub invariant-loop-made : goal.invariant-loop-made
invariant-loop-made l = l.parts.items ≡ replicate l.made (part_of [])
