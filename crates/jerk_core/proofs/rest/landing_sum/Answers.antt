-- The parts are small, as the falls are few.
use Rattle.std.proofs.Common.{◌≡◌, ◌+◌, ◌-◌, ◌*◌, ◌≤◌, ℕ, suc, arith}
use Rattle.jerk_core.specs.Sums.{triangle_of, tetrahedron_of}
use Rattle.jerk_core.proofs.Triangles.{triangle_few, landing_even_small, landing_over_small}
use Rattle.jerk_core.proofs.rest.landing_sum.Goals as goal

-- the way of whole falls and a rest, as the code has it
even : (j q r t s : ℕ) → q ≤ 150000 → r * suc q ≤ 10000000000 → j * triangle_of q ≤ 10000000000 → t ≡ triangle_of q → s ≡ tetrahedron_of q →
    r * t + j * s ≤ 3000000000000000
even j q r t s few rest whole is is_too = rw (is, is_too) (landing_even_small j q r few rest whole)

-- and each of its parts
first : (j q r t : ℕ) → q ≤ 150000 → r * suc q ≤ 10000000000 → j * triangle_of q ≤ 10000000000 → t ≡ triangle_of q → r * t ≤ 3000000000000000
first j q r t few rest whole is = rw is (omega (arith, landing_even_small j q r few rest whole))

-- what is left over
over : (q e t : ℕ) → q ≤ 150000 → e ≤ q → t ≡ triangle_of e → e * (q - e) + t ≤ 300000000000
over q e t few within is = omega (arith, landing_over_small q e few within, triangle_few e (omega arith))

pub overflow_mul-even : goal.overflow_mul-even
overflow_mul-even c = omega (arith, first c.args.j c.args.falls c.args.rest c.triangle.result c.requires.few c.requires.rest c.requires.whole c.triangle.ensures)

pub overflow_mul-even-2 : goal.overflow_mul-even-2
overflow_mul-even-2 c =
    omega (arith, even c.args.j c.args.falls c.args.rest c.triangle.result c.tetrahedron.result c.requires.few c.requires.rest c.requires.whole c.triangle.ensures c.tetrahedron.ensures.value)

pub overflow_add-even : goal.overflow_add-even
overflow_add-even c =
    omega (arith, even c.args.j c.args.falls c.args.rest c.triangle.result c.tetrahedron.result c.requires.few c.requires.rest c.requires.whole c.triangle.ensures c.tetrahedron.ensures.value)

pub overflow_mul-result : goal.overflow_mul-result
overflow_mul-result c = omega (arith, landing_over_small c.args.falls c.args.over c.requires.few c.requires.over)

pub overflow_add-result : goal.overflow_add-result
overflow_add-result c = omega (arith, over c.args.falls c.args.over c.triangle-2.result c.requires.few c.requires.over c.triangle-2.ensures)

pub overflow_add-result-2 : goal.overflow_add-result-2
overflow_add-result-2 c =
    omega (
      arith,
      even c.args.j c.args.falls c.args.rest c.triangle.result c.tetrahedron.result c.requires.few c.requires.rest c.requires.whole c.triangle.ensures c.tetrahedron.ensures.value,
      over c.args.falls c.args.over c.triangle-2.result c.requires.few c.requires.over c.triangle-2.ensures,
    )
