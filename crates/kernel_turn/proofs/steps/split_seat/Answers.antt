use Rattle.std.proofs.Common.{arith}
use Rattle.kernel_turn.proofs.Moves.{splits}
use Rattle.kernel_turn.proofs.steps.split_seat.Goals as goal

pub split_seat-requires : goal.split_seat-requires
split_seat-requires c = (c.requires.lock.0, omega (arith, c.requires.lock.1), splits _ _ _ c.requires.ready.idle c.requires.opening.0 c.requires.opening.1)
