-- The items so far are read.
use Rattle.line_text.specs.Texts.{texts}
use Rattle.machine_config.specs.Quantities.{point_of}
use Rattle.line_text.proofs.Each.{IsReadSoFar}
use Rattle.machine_config.proofs.quantity.points_of.Given as goal

abbrev pub invariant-loop-word : goal.invariant-loop-word
invariant-loop-word l = IsReadSoFar point_of (texts l.words) l.word-index l.points.items
