-- The items so far are read.
use Rattle.line_text.specs.Texts.{texts}
use Rattle.bench_text.specs.Items.{point}
use Rattle.line_text.proofs.Each.{IsReadSoFar}
use Rattle.bench_text.proofs.point.points.Given as goal

abbrev pub invariant-loop-word : goal.invariant-loop-word
invariant-loop-word l = IsReadSoFar point (texts l.words) l.word-index l.points.items
