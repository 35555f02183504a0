-- What becomes of the active command.
use Rattle.buffer_modes.proofs.Fates.{ended, going, over}
use Rattle.buffer_modes.proofs.laws.fates_are_of_the_active_command.Goals as goal

pub returns : goal.returns
returns c = record { going = going; ended = ended; over = over }
