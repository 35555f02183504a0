-- A triangle is no less than its side, and none is that of 0.
use Rattle.std.proofs.Common.{◌≡◌, ℕ, ◌+◌, ◌-◌, ◌<◌, ◌≤◌, zero, suc, arith}
use Rattle.jerk_core.specs.Sums.{triangle_of}
use Rattle.jerk_core.proofs.Triangles.{triangle_none, triangle_least, few_terms}
use Rattle.jerk_core.proofs.reaching.whole_falls.Goals as goal

-- what is too many is some
some : (n share t : ℕ) → t ≡ triangle_of n → share < t → 1 ≤ n
some zero share t is over = absurd (omega (arith, triangle_none))
some (suc n) share t is over = omega arith

-- what fits once more is fewer
fewer : (n share t : ℕ) → t ≡ triangle_of (n + 1) → t ≤ share → share - (n + 1) < share - n
fewer n share t is fits = let least : n + 1 ≤ triangle_of (n + 1) = triangle_least (n + 1) in omega arith

pub overflow_sub-falls : goal.overflow_sub-falls
overflow_sub-falls c = some c.loop-falls.falls c.args.share c.triangle.result c.triangle.ensures (omega arith)

pub loop-falls-smaller : goal.loop-falls-smaller
loop-falls-smaller c =
    let least : 1 ≤ c.loop-falls.falls = some c.loop-falls.falls c.args.share c.triangle.result c.triangle.ensures (omega arith) in
    omega arith

pub overflow_add-falls : goal.overflow_add-falls
overflow_add-falls c = omega (arith, few_terms c.loop-falls-2.falls (omega (arith, c.loop-falls-2.invariant.fits, c.requires.share)))

pub triangle-requires-in-loop-falls-2 : goal.triangle-requires-in-loop-falls-2
triangle-requires-in-loop-falls-2 c = omega (arith, few_terms c.loop-falls-2.falls (omega (arith, c.loop-falls-2.invariant.fits, c.requires.share)))

pub overflow_add-falls-in-loop-falls-2 : goal.overflow_add-falls-in-loop-falls-2
overflow_add-falls-in-loop-falls-2 c = omega (arith, few_terms c.loop-falls-2.falls (omega (arith, c.loop-falls-2.invariant.fits, c.requires.share)))

pub loop-falls-2-smaller : goal.loop-falls-2-smaller
loop-falls-2-smaller c =
    fewer c.loop-falls-2.falls c.args.share c.triangle-in-loop-falls-2.result c.triangle-in-loop-falls-2.ensures (omega arith)

pub returns-clause-few : goal.returns-clause-few
returns-clause-few c = few_terms c.loop-falls-2.falls (omega (arith, c.loop-falls-2.invariant.fits, c.requires.share))
