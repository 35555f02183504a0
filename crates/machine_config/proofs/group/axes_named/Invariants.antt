-- The items so far are read.
use Rattle.line_text.specs.Texts.{texts}
use Rattle.machine_words.specs.Names.{axis_named}
use Rattle.machine_config.specs.RuleNumbers.{wrong_name}
use Rattle.line_text.proofs.Each.{IsReadSoFar}
use Rattle.machine_config.proofs.group.axes_named.Given as goal

abbrev pub invariant-loop-name : goal.invariant-loop-name
invariant-loop-name l = IsReadSoFar (axis_named wrong_name l.config) (texts l.names) l.name-index l.axes.items
