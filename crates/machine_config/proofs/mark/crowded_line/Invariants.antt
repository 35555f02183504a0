-- What is left of the text has the line of all.
use Rattle.std.proofs.Common.{◌≡◌, ◌≤◌, ◌+◌, drop}
use Rattle.machine_config.specs.Marks.{crowded_from, crowded_line}
use Rattle.machine_config.proofs.mark.crowded_line.Given as goal

abbrev pub invariant-loop-byte : goal.invariant-loop-byte
invariant-loop-byte l = record {
  leads : crowded_from l.scan (drop l.byte-index l.text) ≡ crowded_line l.text;
  near : l.scan.line ≤ l.byte-index + 1;
  marks : l.scan.marks ≤ 1000;
  commas : l.scan.commas ≤ 100000;
}
