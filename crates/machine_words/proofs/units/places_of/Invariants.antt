-- The items so far are read.
use Rattle.machine_words.specs.Units.{place_in}
use Rattle.line_text.specs.Texts.{texts}
use Rattle.line_text.proofs.Each.{IsReadSoFar}
use Rattle.machine_words.proofs.units.places_of.Given as goal

abbrev pub invariant-loop-word : goal.invariant-loop-word
invariant-loop-word l = IsReadSoFar (place_in l.units) (texts l.words) l.word-index l.places.items
