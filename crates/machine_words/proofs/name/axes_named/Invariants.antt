-- The items so far are read.
use Rattle.machine_words.specs.Names.{axis_named}
use Rattle.line_text.specs.Texts.{texts}
use Rattle.line_text.proofs.Each.{IsReadSoFar}
use Rattle.machine_words.proofs.name.axes_named.Given as goal

abbrev pub invariant-loop-name : goal.invariant-loop-name
invariant-loop-name l = IsReadSoFar (axis_named l.rule l.machine) (texts l.names) l.name-index l.axes.items
