-- The numbers so far are steps.
use Rattle.line_text.specs.Rules.{in_range}
use Rattle.line_text.proofs.Each.{IsReadSoFar}
use Rattle.machine_words.proofs.drive.steps_of.Given as goal

abbrev pub invariant-loop-number : goal.invariant-loop-number
invariant-loop-number l = IsReadSoFar (in_range 1 4294967295 l.rule) l.numbers l.number-index l.steps.items
