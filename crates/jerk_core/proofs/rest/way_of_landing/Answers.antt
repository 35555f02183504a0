-- The falls by j that fit the speed, and what is left of it in as many parts.
use Rattle.std.proofs.Common.{◌≡◌, ℕ, ◌+◌, ◌-◌, ◌*◌, ◌<◌, ◌≤◌, suc, arith, ap, ◌∙◌, sym}
use Rattle.std.proofs.lemmas.Nat.{div-add-mod', mod_below}
use Rattle.motion_numbers.specs.Run.{reach_of}
use Rattle.jerk_core.specs.Braking.{way_of}
use Rattle.jerk_core.specs.Sums.{triangle_of, tetrahedron_of}
use Rattle.jerk_core.proofs.Phases.{landing_way, reach_whole}
use Rattle.jerk_core.proofs.Shares.{IsBetween, between, rest_below}
use Rattle.jerk_core.proofs.rest.way_of_landing.Goals as goal

-- the way of the landing, with the rest and what is left over
landing_is : (q j r e l w v d : ℕ) → 1 ≤ j → 1 ≤ d → IsBetween q j v → l ≡ v - j * triangle_of q → r * (q + 1) + e ≡ l → e < q + 1 →
    reach_of v j ≤ d → v + reach_of v j ≤ w + j →
    r * triangle_of q + j * tetrahedron_of q + (e * (q - e) + triangle_of e) ≡ way_of d j w v
landing_is q j r e l w v d some slows at left parts few within bends =
    let whole : j * triangle_of q ≤ v = at.whole in
    let is : v ≡ suc q * r + j * triangle_of q + e = omega arith in
    let rest : r < j = rest_below q j r e l v at left parts in
    let reach : reach_of v j ≡ q * j + r = reach_whole q j r e v some rest (omega arith) is in
    sym (landing_way q d j r e w v slows some rest (omega arith) is (omega arith) (omega arith))

pub returns : goal.returns
returns c = λ d slows within bends.
    c.landing_sum.ensures ∙
    landing_is c.whole_falls-falls.result c.args.j _ _ (c.args.speed - c.args.j * c.triangle.result) c.args.last c.args.speed d c.requires.j_least slows
    (between c.whole_falls-falls.result c.args.j c.args.speed c.requires.j_least c.whole_falls-falls.ensures.fits c.whole_falls-falls.ensures.greatest)
    (ap (λ t. c.args.speed - c.args.j * t) c.triangle.ensures)
    (div-add-mod' (c.args.speed - c.args.j * c.triangle.result) (c.whole_falls-falls.result + 1))
    (mod_below (c.args.speed - c.args.j * c.triangle.result) (c.whole_falls-falls.result + 1) (omega arith))
    within bends
