use Rattle.std.proofs.Common.{◌≡◌, List, take}
use Rattle.motion_history.specs.Entries.{Entry}
use Rattle.scope_report.specs.Shares.{AreParts}
use Rattle.scope_report.specs.Reports.{axis_reports_from}
use Rattle.scope_report.proofs.naming.name_axes.Given as goal

abbrev pub invariant-loop-axis : goal.invariant-loop-axis
invariant-loop-axis l = (es : List Entry) → AreParts es l.parts →
    l.reports.items ≡ axis_reports_from 0 (take l.axis l.axes) es
