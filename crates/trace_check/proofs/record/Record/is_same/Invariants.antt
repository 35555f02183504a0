-- The others are the same so far.
use Rattle.std.proofs.Common.{◌≡◌, drop}
use Rattle.trace_text.specs.reading.Reading.{are_same}
use Rattle.trace_check.proofs.record.Record.is_same.Given as goal

abbrev pub invariant-loop-i : goal.invariant-loop-i
invariant-loop-i l = are_same (drop l.i l.self) (drop l.i l.other) ≡ are_same l.self l.other
