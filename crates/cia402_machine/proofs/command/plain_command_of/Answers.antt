-- The masked bits give the command.
use Rattle.std.proofs.Common.{arith, ◌∙◌}
use Rattle.std.proofs.lemmas.Bool.Decides.{nat_tests}
use Rattle.cia402_machine.proofs.Given.{plain}
use Rattle.cia402_machine.proofs.command.plain_command_of.Goals as goal

pub returns-then-controlword-eq0 : goal.returns-then-controlword-eq0
returns-then-controlword-eq0 c = λ last. plain last c.args.controlword c.requires ∙ grind (arith, nat_tests)

pub returns-then-controlword-eq0-2 : goal.returns-then-controlword-eq0-2
returns-then-controlword-eq0-2 c = λ last. plain last c.args.controlword c.requires ∙ grind (arith, nat_tests)

pub returns-then-controlword-eq0-3 : goal.returns-then-controlword-eq0-3
returns-then-controlword-eq0-3 c = λ last. plain last c.args.controlword c.requires ∙ grind (arith, nat_tests)

pub returns-then-controlword-eq0-4 : goal.returns-then-controlword-eq0-4
returns-then-controlword-eq0-4 c = λ last. plain last c.args.controlword c.requires ∙ grind (arith, nat_tests)

pub returns-else-controlword-eq0-4 : goal.returns-else-controlword-eq0-4
returns-else-controlword-eq0-4 c = λ last. plain last c.args.controlword c.requires ∙ grind (arith, nat_tests)
