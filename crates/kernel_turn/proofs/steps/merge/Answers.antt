use Rattle.std.proofs.Common.{arith}
use Rattle.kernel_turn.proofs.Moves.{joins}
use Rattle.kernel_turn.proofs.steps.merge.Goals as goal

pub join_seat-requires : goal.join_seat-requires
join_seat-requires c = (c.requires.lock.0, c.requires.other.0, c.requires.other.1.empty, omega (arith, c.requires.lock.1), joins _ _ _ _ _ c.requires.ready.idle c.requires.opening c.requires.other.1.idle)
