-- The masked bits give the state.
use Rattle.std.proofs.Common.{arith, refl, ◌∙◌, sym}
use Rattle.std.proofs.lemmas.Bool.Decides.{nat_tests}
use Rattle.cia402_machine.proofs.Told.{state_of_word-masked}
use Rattle.cia402_machine.proofs.statusword.masked_state.Goals as goal

pub returns-in-33 : goal.returns-in-33
returns-in-33 c = sym (state_of_word-masked c.args.statusword ∙ rw c.in-33.is refl)

pub returns-in-35 : goal.returns-in-35
returns-in-35 c = sym (state_of_word-masked c.args.statusword ∙ rw c.in-35.is refl)

pub returns-in-39 : goal.returns-in-39
returns-in-39 c = sym (state_of_word-masked c.args.statusword ∙ rw c.in-39.is refl)

pub returns-in-7 : goal.returns-in-7
returns-in-7 c = sym (state_of_word-masked c.args.statusword ∙ rw c.in-7.is refl)

pub returns-in-0 : goal.returns-in-0
returns-in-0 c = sym (state_of_word-masked c.args.statusword ∙ grind (arith, nat_tests))

pub returns-in-64 : goal.returns-in-64
returns-in-64 c = sym (state_of_word-masked c.args.statusword ∙ grind (arith, nat_tests))

pub returns-in-15 : goal.returns-in-15
returns-in-15 c = sym (state_of_word-masked c.args.statusword ∙ grind (arith, nat_tests))

pub returns-in-8 : goal.returns-in-8
returns-in-8 c = sym (state_of_word-masked c.args.statusword ∙ grind (arith, nat_tests))

pub returns-in_default-2 : goal.returns-in_default-2
returns-in_default-2 c = sym (state_of_word-masked c.args.statusword ∙ grind (arith, nat_tests))
