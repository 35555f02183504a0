-- How many cycles braking takes to rest: as many as the ramp, the falls by d and the landing have.
-- for: crates above
use Rattle.std.proofs.Common.{inl, inr, ◌≡◌, ℕ, ◌+◌, ◌-◌, ◌*◌, ◌/◌, ◌%◌, ◌<◌, ◌≤◌, zero, suc, min, arith, refl, ap, ◌∙◌}
use Rattle.std.proofs.lemmas.Bool.{cases_lt}
use Rattle.std.proofs.lemmas.Nat.{mul-le, div-add-mod'}
use Rattle.motion_numbers.specs.Run.{run_of, reach_of}
use Rattle.motion_numbers.proofs.Runs.{run_zero, run_unfold, run_ge, run_less, run_small, run_terms}
use Rattle.motion_numbers.proofs.Reaches.{reach_fits, reach_greatest, reach_is, fits_below_reach, below_reach_of}
use Rattle.jerk_core.specs.Braking.{braked_of, way_of}
use Rattle.jerk_core.proofs.Brakes.{braked_zero, IsBraked, braked_bounds, braked_least, reach_within, reach_mono, reach_some}
use Rattle.jerk_core.proofs.Ways.{way_unfold, way_zero, way_below, IsBelow, below_step, below_speed}
use Rattle.jerk_core.proofs.Ways.IsBelow.{by_speeds}
use Rattle.jerk_core.proofs.KeptMotions.{braked_tops}
use Rattle.jerk_core.proofs.Phases.{braked_landing, braked_flat}
use Rattle.jerk_core.proofs.Spending.{IsUpWithin, IsDownWithin, IsFlatWithin, up_up, up_down, up_flat, up_some, up_start, down_start, down_flat, down_some, lower, flat_flat, flat_lands, flat_some}

-- at rest after n cycles of braking
abbrev pub Rests : ℕ → ℕ → ℕ → ℕ → ℕ → Type 0
Rests zero d j w v = v ≡ 0
Rests (suc n) d j w v = Rests n d j v (braked_of d j w v)

-- from rest it stays so
pub rests_zero : (n d j w : ℕ) → Rests n d j w 0
rests_zero zero d j w = refl
rests_zero (suc n) d j w = let stays : braked_of d j w 0 ≡ 0 = braked_zero d j w in rw stays (rests_zero n d j 0)

-- one cycle more
pub rests_more : (n d j w v : ℕ) → Rests n d j w v → Rests (suc n) d j w v
rests_more zero d j w v rests = let stays : braked_of d j w 0 ≡ 0 = braked_zero d j w in rw rests stays
rests_more (suc n) d j w v rests = rests_more n d j v (braked_of d j w v) rests

-- each cycle but the last has some way
pub rests_in_way : (n d j w v : ℕ) → 0 < d → 0 < j → way_of d j w v ≤ n → Rests (suc n) d j w v
rests_in_way zero d j w v slows some within = omega (arith, way_unfold d j w v slows some)
rests_in_way (suc n) d j w v slows some within =
    elim (cases_lt 0 (braked_of d j w v)) [
      | inl moves ↦ rests_in_way n d j v (braked_of d j w v) slows some (omega (arith, way_unfold d j w v slows some))
      | inr stands ↦ let none : braked_of d j w v ≡ 0 = omega arith in rw none (rests_zero (suc n) d j v)
    ]

-- a motion above another one, whose way is longer by m, rests m + 1 cycles after it
pub rests_above : (n m d j w v p t : ℕ) → 0 < d → 0 < j → IsBelow d j w v p t → way_of d j p t ≤ way_of d j w v + m → Rests n d j w v →
    Rests (n + suc m) d j p t
rests_above zero m d j w v p t slows some below longer rests =
    let none : way_of d j w 0 ≡ 0 = way_zero d j w slows some in
    let still : way_of d j w v ≡ 0 = rw rests none in
    let same : zero + suc m ≡ suc m = omega arith in
    rw same (rests_in_way m d j p t slows some (omega arith))
rests_above (suc n) m d j w v p t slows some below longer rests =
    let next : IsBelow d j v (braked_of d j w v) t (braked_of d j p t) =
    below_step d j w v p t (braked_of d j p t) some below (braked_bounds d j p t some) in
    let first : braked_of d j w v ≤ braked_of d j p t = below_speed _ _ _ _ _ _ next in
    let same : suc n + suc m ≡ suc (n + suc m) = omega arith in
    rw same (rests_above n m d j v (braked_of d j w v) t (braked_of d j p t) slows some next
    (omega (arith, way_unfold d j w v slows some, way_unfold d j p t slows some)) rests)

-- a motion below another one rests no later
pub rests_below : (n d j w v p t : ℕ) → 0 < j → IsBelow d j w v p t → Rests n d j p t → Rests n d j w v
rests_below zero d j w v p t some below rests = omega (arith, below_speed d j w v p t below)
rests_below (suc n) d j w v p t some below rests =
    rests_below n d j v (braked_of d j w v) t (braked_of d j p t) some
    (below_step d j w v p t (braked_of d j p t) some below (braked_bounds d j p t some)) rests

-- the braked speed of a motion faster by 1 is faster by at most 1
pub braked_faster : (d j w v : ℕ) → 0 < j → braked_of d j (suc w) (suc v) ≤ suc (braked_of d j w v)
braked_faster d j w v some =
    let own : IsBraked d j w v (braked_of d j w v) = braked_bounds d j w v some in
    let more : reach_of v j ≤ reach_of (suc v) j = reach_mono v (suc v) j some (omega arith) in
    braked_least d j (suc w) (suc v) (suc (braked_of d j w v)) (record {
      loses = omega (arith, own.loses);
      bends = omega (arith, own.bends);
      lands = omega (arith, own.lands);
    })

-- so it rests within one cycle more
pub rests_faster : (n d j w v : ℕ) → 0 < d → 1 < j → Rests n d j w v → Rests (suc n) d j (suc w) (suc v)
rests_faster zero d j w v slows bends rests =
    let one : suc v ≡ 1 = omega arith in
    let reach : 0 < reach_of 1 j = reach_some 1 j (omega arith) (omega arith) in
    let least : braked_of d j (suc w) 1 ≤ 0 = braked_least d j (suc w) 1 0 (record { loses = omega arith; bends = omega arith; lands = omega arith }) in
    rw one (omega arith)
rests_faster (suc n) d j w v slows bends rests =
    let faster : braked_of d j (suc w) (suc v) ≤ suc (braked_of d j w v) = braked_faster d j w v (omega arith) in
    elim (cases_lt (braked_of d j w v) (braked_of d j (suc w) (suc v))) [
      | inl more ↦
          let same : suc (braked_of d j w v) ≡ braked_of d j (suc w) (suc v) = omega arith in
          let rest : Rests (suc n) d j (suc v) (suc (braked_of d j w v)) = rests_faster n d j v (braked_of d j w v) slows bends rests in
          rw same at rest
      | inr less ↦ rests_more n d j (suc v) (braked_of d j (suc w) (suc v))
          (rests_below n d j (suc v) (braked_of d j (suc w) (suc v)) v (braked_of d j w v) (omega arith) (by_speeds less (omega arith)) rests)
    ]

-- and its way is longer by at most 1 in each cycle before it rests
pub way_faster : (n d j w v : ℕ) → 0 < d → 0 < j → Rests (suc n) d j (suc w) (suc v) → way_of d j (suc w) (suc v) ≤ way_of d j w v + n
way_faster zero d j w v slows some rests =
    let stands : way_of d j (suc v) 0 ≡ 0 = way_zero d j (suc v) slows some in
    let unfolds : way_of d j (suc w) (suc v) ≡ 0 + way_of d j (suc v) 0 = rw rests at (way_unfold d j (suc w) (suc v) slows some) in
    omega arith
way_faster (suc n) d j w v slows some rests =
    let faster : braked_of d j (suc w) (suc v) ≤ suc (braked_of d j w v) = braked_faster d j w v some in
    elim (cases_lt (braked_of d j w v) (braked_of d j (suc w) (suc v))) [
      | inl more ↦
          let same : braked_of d j (suc w) (suc v) ≡ suc (braked_of d j w v) = omega arith in
          let rest : way_of d j (suc v) (suc (braked_of d j w v)) ≤ way_of d j v (braked_of d j w v) + n =
          way_faster n d j v (braked_of d j w v) slows some (rw same at rests) in
          let unfolds : way_of d j (suc w) (suc v) ≡ suc (braked_of d j w v) + way_of d j (suc v) (suc (braked_of d j w v)) =
          rw same at (way_unfold d j (suc w) (suc v) slows some) in
          omega (arith, way_unfold d j w v slows some)
      | inr less ↦
          let rest : way_of d j (suc v) (braked_of d j (suc w) (suc v)) ≤ way_of d j v (braked_of d j w v) =
          way_below d j (suc v) (braked_of d j (suc w) (suc v)) v (braked_of d j w v) slows some (by_speeds less (omega arith)) in
          omega (arith, way_unfold d j w v slows some, way_unfold d j (suc w) (suc v) slows some)
    ]

-- the way from a greater step than the reach is too long
reach_over : (v j : ℕ) → 0 < j → v < run_of (suc (reach_of v j)) j
reach_over v j some =
    elim (cases_lt v (run_of (suc (reach_of v j)) j)) [
      | inl over ↦ over
      | inr fits ↦ absurd (let more : suc (reach_of v j) ≤ reach_of v j = reach_greatest (suc (reach_of v j)) v j some fits in omega arith)
    ]

-- what is left after a fall by the reach has a reach less by j - 1
pub falls_fast : (v i : ℕ) → 0 < i → reach_of (v - reach_of v (suc i)) (suc i) ≤ reach_of v (suc i) - i
falls_fast v i some =
    elim (cases_lt (reach_of v (suc i) - i) (reach_of (v - reach_of v (suc i)) (suc i))) [
      | inr within ↦ within
      | inl over ↦ absurd (
          let same : suc (reach_of v (suc i)) - suc i ≡ reach_of v (suc i) - i = omega arith in
          let unfolds : run_of (suc (reach_of v (suc i))) (suc i) ≡ suc (reach_of v (suc i)) + run_of (reach_of v (suc i) - i) (suc i) =
          rw same at (run_unfold (suc (reach_of v (suc i))) (suc i) (omega arith)) in
          let less : run_of (reach_of v (suc i) - i) (suc i) < run_of (reach_of (v - reach_of v (suc i)) (suc i)) (suc i) =
          run_less (reach_of v (suc i) - i) (reach_of (v - reach_of v (suc i)) (suc i)) (suc i) (omega arith) over in
          let fits : run_of (reach_of (v - reach_of v (suc i)) (suc i)) (suc i) ≤ v - reach_of v (suc i) = reach_fits (v - reach_of v (suc i)) (suc i) in
          let beyond : v < run_of (suc (reach_of v (suc i))) (suc i) = reach_over v (suc i) (omega arith) in
          omega arith)
    ]

pub reach_falls : (v i j : ℕ) → j ≡ suc i → 0 < i → reach_of (v - reach_of v j) j ≤ reach_of v j - i
reach_falls v i j is some = rw is (falls_fast v i some)

-- a landing whose speed is all taken: each fall is less by j
even_rests : (q u d j w v : ℕ) → 0 < j → u ≤ q * j → u ≤ d → v ≡ run_of u j → v + u ≤ w + j → Rests q d j w v
even_rests zero u d j w v some few within is bends =
    let none : u ≡ 0 = omega arith in
    is ∙ rw none (run_zero j)
even_rests (suc q) u d j w v some few within is bends =
    let more : run_of u j < run_of (suc u) j = run_less u (suc u) j some (omega arith) in
    let reach : reach_of v j ≡ u = reach_is u v j some (omega arith) (omega arith) in
    let unfolds : run_of u j ≡ u + run_of (u - j) j = run_unfold u j some in
    let next : braked_of d j w v ≡ v - u = braked_landing d j w v u (v - u) some reach (omega arith) within bends in
    let rest : Rests q d j v (v - u) = even_rests q (u - j) d j v (v - u) some (omega arith) (omega arith) (omega arith) (omega arith) in
    rw next rest

-- the landing: each fall is less by j, but for one at most, after which all the speed is taken
pub landing_rests : (q d j w v : ℕ) → 0 < j → reach_of v j ≤ q * j → reach_of v j ≤ d → v + reach_of v j ≤ w + j → Rests (suc q) d j w v
landing_rests zero d j w v some few within bends =
    elim (cases_lt 0 v) [
      | inl moves ↦ absurd (omega (arith, reach_some v j some moves))
      | inr stands ↦ let none : v ≡ 0 = omega arith in rw none (rests_zero 1 d j w)
    ]
landing_rests (suc q) d j w v some few within bends =
    let small : reach_of v j ≤ v = reach_within v j some in
    let is : braked_of d j w v ≡ v - reach_of v j = braked_landing d j w v (reach_of v j) (v - reach_of v j) some refl (omega arith) within bends in
    let rest : Rests (suc q) d j v (v - reach_of v j) = elim (cases_lt (reach_of v j - j) (reach_of (v - reach_of v j) j)) [
      | inr less ↦ landing_rests q d j v (v - reach_of v j) some (omega arith) (omega arith) (omega arith)
      | inl more ↦ elim (cases_lt (reach_of v j) j) [
        | inl short ↦
            let beyond : v < run_of (suc (reach_of v j)) j = reach_over v j some in
            let one : run_of (suc (reach_of v j)) j ≡ suc (reach_of v j) = run_small (suc (reach_of v j)) j some (omega arith) in
            let none : v - reach_of v j ≡ 0 = omega arith in
            rw none (rests_zero (suc q) d j v)
        | inr long ↦
            let beyond : v < run_of (suc (reach_of v j)) j = reach_over v j some in
            let same : suc (reach_of v j) - j ≡ suc (reach_of v j - j) = omega arith in
            let unfolds : run_of (suc (reach_of v j)) j ≡ suc (reach_of v j) + run_of (suc (reach_of v j - j)) j =
            rw same at (run_unfold (suc (reach_of v j)) j some) in
            let fits : run_of (suc (reach_of v j - j)) j ≤ v - reach_of v j = fits_below_reach (suc (reach_of v j - j)) (v - reach_of v j) j some more in
            even_rests (suc q) (suc (reach_of v j - j)) d j v (v - reach_of v j) some (omega arith) (omega arith) (omega arith) (omega arith)
      ]
    ] in
    rw is rest

-- no way is shorter than that of an even fall
square_below : (k r j : ℕ) → r < j → (k * j + r) * (k * j + r + j) ≤ 2 * j * run_of (k * j + r) j
square_below k r j h =
    let way : j * (2 * run_of (k * j + r) j) ≡ j * ((k + 1) * (k * j + 2 * r)) = ap (λ n. j * n) (run_terms k r j h) in
    let rest : r * r ≤ r * j = mul-le r r r j (omega arith) (omega arith) in
    omega arith

run_square_below : (u j : ℕ) → 0 < j → u * (u + j) ≤ 2 * j * run_of u j
run_square_below u j some = rw (div-add-mod' u j) at (square_below (u / j) (u % j) j (omega arith))

-- from a motion whose next fall is the landing's
lands_next : (n d i j w v : ℕ) → 0 < d → 0 < i → i ≤ j → IsFlatWithin n d i v → v + min d (reach_of v j) ≤ w + j → v < run_of d j → Rests (suc n) d j w v
lands_next n d i j w v slows some less within bends below =
    let small : reach_of v j < d = below_reach_of d v j (omega arith) below in
    let square : reach_of v j * (reach_of v j + j) ≤ 2 * j * run_of (reach_of v j) j = run_square_below (reach_of v j) j (omega arith) in
    let fits : 2 * j * run_of (reach_of v j) j ≤ 2 * j * v = mul-le (2 * j) (run_of (reach_of v j) j) (2 * j) v (omega arith) (reach_fits v j) in
    let few : reach_of v j ≤ n * j = flat_lands n d i j v (reach_of v j) slows some less (omega arith) within in
    landing_rests n d j w v (omega arith) few (omega arith) (omega arith)

-- from one whose next fall is by d or the landing's
pub flat_rests : (n d i j w v : ℕ) → 0 < d → 0 < i → i ≤ j → IsFlatWithin n d i v → v + min d (reach_of v j) ≤ w + j → Rests (suc n) d j w v
flat_rests zero d i j w v slows some less within bends = absurd (flat_some d i v slows within)
flat_rests (suc n) d i j w v slows some less within bends =
    elim (cases_lt v (run_of d j)) [
      | inl below ↦ lands_next (suc n) d i j w v slows some less within bends below
      | inr lands ↦
          let more : d ≤ reach_of v j = reach_greatest d v j (omega arith) lands in
          let first : d ≤ run_of d j = run_ge d j (omega arith) in
          let is : braked_of d j w v ≡ v - d = braked_flat d j w v (v - d) (omega arith) lands (omega arith) (omega arith) in
          let rest : Rests (suc n) d j v (v - d) = flat_rests n d i j v (v - d) slows some less (flat_flat n d i v (v - d) (omega arith) within) (omega arith) in
          rw is rest
    ]

-- where no fall by d or the landing's is next, the change falls by j
pub ramp_next : (d j w v : ℕ) → 0 < j → w + j ≤ v + min d (reach_of v j) → braked_of d j w v + (w + j) ≡ 2 * v
unfolding braked_of
ramp_next d j w v some ramps = omega (arith, reach_within v j some)

-- braking while the speed falls
pub down_rests : (n d i j w v u : ℕ) → 0 < d → 0 < i → i ≤ j → j ≤ suc i → w ≡ v + u → u ≤ d → IsDownWithin n d i v u → Rests (suc n) d j w v
down_rests zero d i j w v u slows some less near is falls within = absurd (down_some d i v u slows falls within)
down_rests (suc n) d i j w v u slows some less near is falls within =
    elim (cases_lt (w + j) (v + min d (reach_of v j))) [
      | inr flat ↦ flat_rests (suc n) d i j w v slows some less (down_flat (suc n) d i v u falls within) flat
      | inl ramps ↦
          let next : braked_of d j w v + (w + j) ≡ 2 * v = ramp_next d j w v (omega arith) (omega arith) in
          let loses : v ≤ braked_of d j w v + d = (braked_bounds d j w v (omega arith)).loses in
          let lost : braked_of d j w v + (u + j) ≡ v = omega arith in
          let rest : Rests (suc n) d j v (braked_of d j w v) = down_rests n d i j v (braked_of d j w v) (u + j) slows some less near (omega arith) (omega arith)
          (lower n d i j v u (braked_of d j w v) less near lost (omega arith) within) in
          rest
    ]

-- and while it rises
pub up_rests : (n most d i j w v a : ℕ) → 0 < d → 0 < i → i ≤ j → j ≤ suc i → v ≡ w + a → v + run_of (v - w - j) j ≤ most → IsUpWithin n most d i a →
    Rests (suc n) d j w v
up_rests zero most d i j w v a slows some less near is tops within = absurd (up_some most d i a slows within)
up_rests (suc n) most d i j w v a slows some less near is tops within =
    elim (cases_lt (w + j) (v + min d (reach_of v j))) [
      | inr flat ↦ flat_rests (suc n) d i j w v slows some less (up_flat (suc n) most d i v a (omega arith) within) flat
      | inl ramps ↦
          let next : braked_of d j w v + (w + j) ≡ 2 * v = ramp_next d j w v (omega arith) (omega arith) in
          let loses : v ≤ braked_of d j w v + d = (braked_bounds d j w v (omega arith)).loses in
          elim (cases_lt a j) [
            | inl turns ↦ down_rests n d i j v (braked_of d j w v) (j - a) slows some less near (omega arith) (omega arith)
                (up_down n most d i a (braked_of d j w v) (j - a) (omega arith) (omega arith) (omega arith) (omega arith) within)
            | inr rises ↦ up_rests n most d i j v (braked_of d j w v) (a - j) slows some less near (omega arith)
                (braked_tops most d j w v (omega arith) tops) (up_up n most d i a (a - j) (omega arith) within)
          ]
    ]

-- braking from any motion that keeps a gain of a, a loss of d and the greatest speed
pub brake_rests : (n most a d i j w v : ℕ) → 0 < d → 0 < i → i ≤ j → j ≤ suc i → v ≤ w + a → w ≤ v + d → v + run_of (v - w - j) j ≤ most →
    IsUpWithin n most d i a → Rests (suc n) d j w v
brake_rests zero most a d i j w v slows some less near gains loses tops within = absurd (up_some most d i a slows within)
brake_rests (suc n) most a d i j w v slows some less near gains loses tops within =
    elim (cases_lt v w) [
      | inr rises ↦ up_rests (suc n) most d i j w v (v - w) slows some less near (omega arith) tops
          (up_start (suc n) most d i (v - w) a (omega arith) within)
      | inl falls ↦ elim (cases_lt (w + j) (v + min d (reach_of v j))) [
        | inr flat ↦ flat_rests (suc n) d i j w v slows some less (up_flat (suc n) most d i v a (omega arith) within) flat
        | inl ramps ↦
            let next : braked_of d j w v + (w + j) ≡ 2 * v = ramp_next d j w v (omega arith) (omega arith) in
            let least : v ≤ braked_of d j w v + d = (braked_bounds d j w v (omega arith)).loses in
            down_rests (suc n) d i j w v (w - v) slows some less near (omega arith) (omega arith)
            (down_start (suc n) most d i a v (w - v) (omega arith) (omega arith) (omega arith) within)
      ]
    ]
