use Rattle.std.proofs.Common.{◌≡◌, take}
use Rattle.std.specs.List.{flat_map}
use Rattle.scope_report.specs.Lines.{block_line}
use Rattle.scope_report.proofs.lines.block_lines.Given as goal

abbrev pub invariant-loop-block : goal.invariant-loop-block
invariant-loop-block l = l.text.items ≡ flat_map block_line (take l.block-index l.blocks)
