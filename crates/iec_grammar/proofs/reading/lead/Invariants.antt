-- The tokens that are left lead where all led.
use Rattle.std.proofs.Common.{◌≡◌, length}
use Rattle.iec_grammar.specs.Reading.{run}
use Rattle.iec_grammar.proofs.reading.lead.Given as goal

abbrev pub invariant-loop-placed : goal.invariant-loop-placed
invariant-loop-placed l = run l.reader l.tokens ≡ run l.fn.reader l.fn.tokens

abbrev pub decreases-loop-placed : goal.decreases-loop-placed
decreases-loop-placed l = length l.tokens
