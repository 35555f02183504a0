use Rattle.std.proofs.Common.{Some}
use Rattle.kernel_turn.proofs.Moves.{held_rest}
use Rattle.kernel_turn.proofs.steps.take_out.Goals as goal

pub exchange-requires : goal.exchange-requires
exchange-requires c = (c.requires.lock.0, (Some c.requires.held.0, held_rest _ _ c.requires.held.1))
