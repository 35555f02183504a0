-- The bit of a fault reset decides, and the patterns give the same command.
use Rattle.std.proofs.Common.{◌≡◌, true, false, refl, ◌∙◌, sym}
use Rattle.cia402_machine.specs.Controlword.{has_reset_bit}
use Rattle.cia402_machine.proofs.Given.{reset, gives-is}
use Rattle.cia402_machine.proofs.command.command_of.Goals as goal

pub returns-then-not-has_reset_bit-clause-gives : goal.returns-then-not-has_reset_bit-clause-gives
returns-then-not-has_reset_bit-clause-gives c = λ command. rw (c.plain_command_of.ensures c.args.last) at (gives-is c.args.last c.args.controlword command)

pub returns-then-not-has_reset_bit-2-clause-value : goal.returns-then-not-has_reset_bit-2-clause-value
returns-then-not-has_reset_bit-2-clause-value c =
    let now : has_reset_bit c.args.controlword ≡ true = cc in
    let before : has_reset_bit c.args.last ≡ false = cc in
    sym (reset c.args.last c.args.controlword now ∙ rw before refl)

pub returns-else-not-has_reset_bit-2-clause-value : goal.returns-else-not-has_reset_bit-2-clause-value
returns-else-not-has_reset_bit-2-clause-value c =
    let now : has_reset_bit c.args.controlword ≡ true = cc in
    let before : has_reset_bit c.args.last ≡ true = cc in
    sym (reset c.args.last c.args.controlword now ∙ rw before refl)
