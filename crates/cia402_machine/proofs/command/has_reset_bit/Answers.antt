-- The mask reads the bit of the pattern.
use Rattle.cia402_machine.proofs.Given.{has_reset_bit-masked}
use Rattle.cia402_machine.proofs.command.has_reset_bit.Goals as goal

pub returns : goal.returns
returns c = has_reset_bit-masked c.args.controlword
