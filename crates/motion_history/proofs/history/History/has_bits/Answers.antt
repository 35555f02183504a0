-- The history keeps them so.
use Rattle.motion_history.proofs.WholeLemmas.{entries-bits}
use Rattle.motion_history.proofs.history.History.has_bits.Goals as goal

pub returns : goal.returns
returns c = entries-bits c.self.inside _ c.self.invariant c.self.view_is
