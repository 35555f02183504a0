-- The falls by j that fit the speed, and a part of what is left of it.
use Rattle.std.proofs.Common.{◌≡◌, ℕ, ◌+◌, ◌-◌, ◌*◌, ◌/◌, ◌%◌, ◌<◌, ◌≤◌, suc, arith, ap, refl}
use Rattle.std.proofs.lemmas.Nat.{div-add-mod', mod_below}
use Rattle.motion_numbers.specs.Run.{reach_of}
use Rattle.jerk_core.specs.Sums.{triangle_of}
use Rattle.jerk_core.proofs.Shares.{few_falls, between, reach_shared, reach_small, reach_all}
use Rattle.jerk_core.proofs.reaching.greatest_fall_of.Goals as goal

-- the reach, with the triangle that the code has
shared : (q j v t : ℕ) → 1 ≤ j → triangle_of q ≤ v / j → v / j < triangle_of (suc q) → t ≡ triangle_of q →
    q * j + (v - j * t) / (q + 1) ≡ reach_of v j
shared q j v t some fits over is =
    reach_shared q j ((v - j * t) / (q + 1)) ((v - j * t) % (q + 1)) (v - j * t) v some (between q j v some fits over)
    (ap (λ a. v - j * a) is) (div-add-mod' (v - j * t) (q + 1)) (mod_below (v - j * t) (q + 1) (omega arith))

pub triangle-requires : goal.triangle-requires
triangle-requires c = omega (arith, few_falls c.whole_falls-falls.result c.args.speed c.args.j c.whole_falls-falls.ensures.fits c.requires.speed)

-- it is small
small : (q j v t : ℕ) → 1 ≤ j → triangle_of q ≤ v / j → v / j < triangle_of (suc q) → t ≡ triangle_of q →
    q * j + (v - j * t) / (q + 1) ≤ v
small q j v t some fits over is = rw (shared q j v t some fits over is) (reach_small v j some)

pub returns-then-speed-j : goal.returns-then-speed-j
returns-then-speed-j c = reach_all c.args.speed c.args.j c.requires.j (omega arith)

pub overflow_add-result : goal.overflow_add-result
overflow_add-result c = omega (arith, few_falls c.whole_falls-falls.result c.args.speed c.args.j c.whole_falls-falls.ensures.fits c.requires.speed)

pub overflow_mul-result : goal.overflow_mul-result
overflow_mul-result c =
    omega (
      arith,
      small c.whole_falls-falls.result c.args.j c.args.speed (triangle_of c.whole_falls-falls.result) c.requires.j
          c.whole_falls-falls.ensures.fits c.whole_falls-falls.ensures.greatest refl,
    )

pub overflow_add-result-2 : goal.overflow_add-result-2
overflow_add-result-2 c =
    omega (
      arith,
      small c.whole_falls-falls.result c.args.j c.args.speed c.triangle.result c.requires.j
          c.whole_falls-falls.ensures.fits c.whole_falls-falls.ensures.greatest c.triangle.ensures,
    )

pub returns : goal.returns
returns c =
    shared c.whole_falls-falls.result c.args.j c.args.speed c.triangle.result c.requires.j
    c.whole_falls-falls.ensures.fits c.whole_falls-falls.ensures.greatest c.triangle.ensures
