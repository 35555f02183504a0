-- The items so far are read.
use Rattle.machine_words.specs.Numbers.{number}
use Rattle.line_text.specs.Texts.{texts}
use Rattle.line_text.proofs.Each.{IsReadSoFar}
use Rattle.machine_words.proofs.integer.numbers.Given as goal

abbrev pub invariant-loop-word : goal.invariant-loop-word
invariant-loop-word l = IsReadSoFar number (texts l.words) l.word-index l.numbers.items
