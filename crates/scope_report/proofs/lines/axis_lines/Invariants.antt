use Rattle.std.proofs.Common.{◌≡◌, take}
use Rattle.std.specs.List.{flat_map}
use Rattle.scope_report.specs.Lines.{axis_line}
use Rattle.scope_report.proofs.lines.axis_lines.Given as goal

abbrev pub invariant-loop-axis : goal.invariant-loop-axis
invariant-loop-axis l = l.text.items ≡ flat_map axis_line (take l.axis-index l.axes)
