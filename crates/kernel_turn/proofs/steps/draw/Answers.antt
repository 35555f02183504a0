use Rattle.std.proofs.Common.{arith}
use Rattle.kernel_turn.proofs.Moves.{draws_at}
use Rattle.kernel_turn.proofs.steps.draw.Goals as goal

pub fetch_add-requires : goal.fetch_add-requires
fetch_add-requires c = (c.requires.lock.0, omega (arith, c.requires.lock.1), draws_at _ _ _ _ c.requires.ready.idle c.requires.ready.empty)
