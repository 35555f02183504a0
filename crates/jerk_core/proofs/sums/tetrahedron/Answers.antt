-- A third of the triangle times the side before, which is small.
use Rattle.std.proofs.Common.{arith}
use Rattle.jerk_core.proofs.Triangles.{tetrahedron_third, tetrahedron_few}
use Rattle.jerk_core.proofs.sums.tetrahedron.Goals as goal

pub overflow_mul-result : goal.overflow_mul-result
overflow_mul-result c =
    omega (arith, tetrahedron_few c.args.n c.triangle.result c.saturating_sub.result c.requires c.triangle.ensures c.saturating_sub.ensures)

pub returns-clause-value : goal.returns-clause-value
returns-clause-value c = tetrahedron_third c.args.n c.triangle.result c.saturating_sub.result c.triangle.ensures c.saturating_sub.ensures

pub returns-clause-small : goal.returns-clause-small
returns-clause-small c =
    omega (arith, tetrahedron_few c.args.n c.triangle.result c.saturating_sub.result c.requires c.triangle.ensures c.saturating_sub.ensures)
