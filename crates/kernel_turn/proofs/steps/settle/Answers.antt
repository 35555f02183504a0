use Rattle.std.proofs.Common.{arith}
use Rattle.kernel_turn.proofs.Moves.{settles_at}
use Rattle.kernel_turn.proofs.steps.settle.Goals as goal

pub load-requires : goal.load-requires
load-requires c = (c.requires.lock.0, omega (arith, c.requires.lock.1), settles_at _ _ _ _ c.requires.ready.idle c.requires.ready.empty)
