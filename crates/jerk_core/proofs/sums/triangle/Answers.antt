-- Half of the side and the next number multiplied.
use Rattle.jerk_core.proofs.Triangles.{triangle_half}
use Rattle.jerk_core.proofs.sums.triangle.Goals as goal

pub returns : goal.returns
returns c = triangle_half c.args.n
