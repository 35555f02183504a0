-- The product in closed form.
use Rattle.std.proofs.Common.{refl}
use Rattle.jerk_core.proofs.Triangles.{triangle_product}
use Rattle.jerk_core.proofs.rest.less_by_ramp.Goals as goal

pub returns : goal.returns
returns c = rw (triangle_product c.args.n c.args.j) refl
