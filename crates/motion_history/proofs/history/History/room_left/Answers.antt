-- The room that is left is what the entries leave.
use Rattle.std.proofs.Common.{arith}
use Rattle.motion_history.proofs.KeptLemmas.{kept-length}
use Rattle.motion_history.proofs.history.History.room_left.Goals as goal

pub returns : goal.returns
returns c =
    let kept = kept-length c.self.inside in
    rw (← c.self.view_is) (record { left = omega (arith, kept); within = omega (arith, kept, c.self.invariant.kept.stored) })
