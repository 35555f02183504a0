use Rattle.std.proofs.Common.{ℕ}
use Rattle.scope_report.specs.Merging.{merged, part_of}
use Rattle.scope_report.specs.Parts.{PartState}
use Rattle.scope_report.specs.Rows.{row_at}
use Rattle.scope_report.proofs.Joined.{IsJoined}
use Rattle.scope_report.proofs.share.add_rows.Given as goal

abbrev pub invariant-loop-axis : goal.invariant-loop-axis
invariant-loop-axis l =
    IsJoined merged (λ (a : ℕ) (d : PartState). part_of (row_at a l.cycle)) l.initial.parts l.parts
    l.axis
