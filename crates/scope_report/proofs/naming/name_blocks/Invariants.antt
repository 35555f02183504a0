use Rattle.std.proofs.Common.{◌≡◌, List, take}
use Rattle.motion_history.specs.Entries.{Entry}
use Rattle.scope_report.specs.Shares.{AreCounts}
use Rattle.scope_report.specs.Reports.{block_reports_from}
use Rattle.scope_report.proofs.naming.name_blocks.Given as goal

abbrev pub invariant-loop-block : goal.invariant-loop-block
invariant-loop-block l = (es : List Entry) → AreCounts es l.counts →
    l.reports.items ≡ block_reports_from 0 (take l.block l.blocks) es
