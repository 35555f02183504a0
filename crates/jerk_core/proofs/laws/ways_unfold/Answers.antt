-- The lemmas on ways to rest.
use Rattle.jerk_core.proofs.Ways.{way_unfold, way_zero}
use Rattle.jerk_core.proofs.laws.ways_unfold.Goals as goal

pub returns : goal.returns
returns c = record { unfolds = way_unfold; rests = way_zero }
