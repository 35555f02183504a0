-- Beginnings of a text.
use Rattle.trace_text.proofs.written.Writing.{WritesPrefix-none, WritesPrefix-part}
use Rattle.trace_text.proofs.laws.parts_are_beginnings.Goals as goal

pub returns-clause-none : goal.returns-clause-none
returns-clause-none c = WritesPrefix-none

pub returns-clause-part : goal.returns-clause-part
returns-clause-part c = WritesPrefix-part
