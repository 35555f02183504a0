-- The others are the same so far.
use Rattle.std.proofs.Common.{◌≡◌, drop, length}
use Rattle.line_text.specs.Texts.{texts}
use Rattle.trace_text.specs.reading.Reading.{are_same}
use Rattle.trace_text.proofs.reading.head.are_same.Given as goal

abbrev pub invariant-loop-i : goal.invariant-loop-i
invariant-loop-i l = record {
  rest : are_same (drop l.i (texts l.fields)) (drop l.i (texts l.others)) ≡ are_same (texts l.fields) (texts l.others);
  many : length l.fields ≡ length l.others;
}
