-- The way to rest in closed form: a ramp in which the change of speed falls by j, falls by d, and
-- the landing, in which each fall is the greatest that can be taken back.
-- for: greatest_fall_of, is_ramp, ramp_cycles and others
use Rattle.std.proofs.Common.{inl, inr, ◌≡◌, ℕ, ◌+◌, ◌-◌, ◌*◌, ◌/◌, ◌%◌, ◌<◌, ◌≤◌, zero, suc, min, arith, refl, ap}
use Rattle.std.proofs.lemmas.Bool.{cases_lt}
use Rattle.std.proofs.lemmas.Nat.{mul-le, div-add-mod', mod_below}
use Rattle.motion_numbers.specs.Run.{run_of, reach_of}
use Rattle.motion_numbers.proofs.Runs.{run_zero, run_unfold, run_ge, run_less}
use Rattle.motion_numbers.proofs.Reaches.{reach_greatest, reach_is, below_reach_of}
use Rattle.jerk_core.specs.Braking.{braked_of, way_of}
use Rattle.jerk_core.specs.Sums.{triangle_of, tetrahedron_of, IsRamp}
use Rattle.jerk_core.proofs.Triangles.{triangle_next, triangle_none, triangle_nothing, triangle_times, tetrahedron_nothing, tetrahedron_times, tetrahedron_sides, triangle_twice, run_whole, few_times}
use Rattle.jerk_core.proofs.Ways.{way_unfold, way_zero}
use Rattle.jerk_core.proofs.KeptMotions.{braked_tops}

-- where the reach is the least fall of all, the speed falls by it
pub braked_landing : (d j w v u x : ℕ) → 0 < j → reach_of v j ≡ u → x + u ≡ v → u ≤ d → v + u ≤ w + j → braked_of d j w v ≡ x
unfolding braked_of
braked_landing d j w v u x some is next within bends = omega arith

-- the cycle, and what is left
landing_step : (d j w v u x : ℕ) → 0 < d → 0 < j → reach_of v j ≡ u → x + u ≡ v → u ≤ d → v + u ≤ w + j →
    way_of d j w v ≡ x + way_of d j v x
landing_step d j w v u x slows some is next within bends =
    let here : braked_of d j w v ≡ x = braked_landing d j w v u x some is next within bends in
    rw here at (way_unfold d j w v slows some)

-- where the fall by d can be taken back, and is the least of all, the speed falls by it
pub braked_flat : (d j w v x : ℕ) → 0 < j → run_of d j ≤ v → v + d ≤ w + j → x + d ≡ v → braked_of d j w v ≡ x
unfolding braked_of
braked_flat d j w v x some lands bends next = omega (arith, reach_greatest d v j some lands)

-- the landing of whole falls and a rest, where the way is all taken
pub landing_even : (q d j r w v : ℕ) → 0 < d → 0 < j → r ≤ j → v ≡ suc q * r + j * triangle_of q →
    q * j + r ≤ d → v + (q * j + r) ≤ w + j → way_of d j w v ≡ r * triangle_of q + j * tetrahedron_of q
landing_even q d j r w v slows some h is within bends = by_terms q r w v h is within bends
  where
    reach : (q r v : ℕ) → r ≤ j → v ≡ suc q * r + j * triangle_of q → reach_of v j ≡ q * j + r
    reach q r v h is =
        let way : run_of (q * j + r) j ≡ suc q * r + j * triangle_of q = run_whole q r j some h in
        reach_is (q * j + r) v j some (omega arith) (omega (arith, run_less (q * j + r) (suc (q * j + r)) j some (omega arith)))

    by_terms : (q r w v : ℕ) → r ≤ j → v ≡ suc q * r + j * triangle_of q → q * j + r ≤ d → v + (q * j + r) ≤ w + j →
        way_of d j w v ≡ r * triangle_of q + j * tetrahedron_of q
    by_terms zero r w v h is within bends =
        let all : v ≡ r = omega (arith, triangle_nothing j) in
        let step : way_of d j w v ≡ 0 + way_of d j v 0 = landing_step d j w v (zero * j + r) 0 slows some (reach zero r v h is) (omega arith) within bends in
        omega (arith, step, way_zero d j v slows some, triangle_nothing r, tetrahedron_nothing j)
    by_terms (suc q) r w v h is within bends =
        let last : v ≡ suc q * j + r + (suc q * r + j * triangle_of q) = omega (arith, is, triangle_times j q) in
        let step : way_of d j w v ≡ (suc q * r + j * triangle_of q) + way_of d j v (suc q * r + j * triangle_of q) =
        landing_step d j w v (suc q * j + r) (suc q * r + j * triangle_of q) slows some (reach (suc q) r v h is) (omega arith) within bends in
        let rest : way_of d j v (suc q * r + j * triangle_of q) ≡ r * triangle_of q + j * tetrahedron_of q =
        by_terms q r v (suc q * r + j * triangle_of q) h refl (omega arith) (omega arith) in
        omega (arith, step, rest, triangle_times r q, tetrahedron_times j q)

-- the landing where some of the way is left: the falls after the first ones are greater by 1
pub landing_way : (q d j r e w v : ℕ) → 0 < d → 0 < j → r < j → e ≤ q → v ≡ suc q * r + j * triangle_of q + e →
    q * j + r ≤ d → v + (q * j + r) ≤ w + j →
    way_of d j w v ≡ r * triangle_of q + j * tetrahedron_of q + (e * (q - e) + triangle_of e)
landing_way q d j r e w v slows some h few is within bends = by_terms q w v few is within bends
  where
    reach : (q v : ℕ) → e ≤ q → v ≡ suc q * r + j * triangle_of q + e → reach_of v j ≡ q * j + r
    reach q v few is =
        let next : q * j + suc r ≡ suc (q * j + r) = omega arith in
        let more : run_of (q * j + suc r) j ≡ suc q * suc r + j * triangle_of q = run_whole q (suc r) j some (omega arith) in
        let way : run_of (q * j + r) j ≡ suc q * r + j * triangle_of q = run_whole q r j some (omega arith) in
        let over : v < run_of (q * j + suc r) j = omega arith in
        reach_is (q * j + r) v j some (omega arith) (rw next at over)

    by_terms : (q w v : ℕ) → e ≤ q → v ≡ suc q * r + j * triangle_of q + e → q * j + r ≤ d → v + (q * j + r) ≤ w + j →
        way_of d j w v ≡ r * triangle_of q + j * tetrahedron_of q + (e * (q - e) + triangle_of e)
    by_terms zero w v few is within bends =
        let none : e ≡ 0 = omega arith in
        let even : way_of d j w v ≡ r * triangle_of zero + j * tetrahedron_of zero =
        landing_even zero d j r w v slows some (omega arith) (omega arith) within bends in
        rw none (omega (arith, even, triangle_none))
    by_terms (suc q) w v few is within bends =
        let last : v ≡ suc q * j + r + (suc q * r + j * triangle_of q + e) = omega (arith, is, triangle_times j q) in
        let step : way_of d j w v ≡ (suc q * r + j * triangle_of q + e) + way_of d j v (suc q * r + j * triangle_of q + e) =
        landing_step d j w v (suc q * j + r) (suc q * r + j * triangle_of q + e) slows some (reach (suc q) v few is) (omega arith) within bends in
        elim (cases_lt q e) [
          | inr fewer ↦
              let rest : way_of d j v (suc q * r + j * triangle_of q + e) ≡ r * triangle_of q + j * tetrahedron_of q + (e * (q - e) + triangle_of e) =
              by_terms q v (suc q * r + j * triangle_of q + e) fewer refl (omega arith) (omega arith) in
              let one : e * (suc q - e) ≡ e * (q - e) + e = one_more (q - e) (omega arith) in
              omega (arith, step, rest, one, triangle_times r q, tetrahedron_times j q)
          | inl all ↦
              let now : e ≡ suc q = omega arith in
              let rest : way_of d j v (suc q * r + j * triangle_of q + e) ≡ suc r * triangle_of q + j * tetrahedron_of q =
              landing_even q d j (suc r) v (suc q * r + j * triangle_of q + e) slows some (omega arith) (omega arith) (omega arith) (omega arith) in
              let none : e * (suc q - e) ≡ 0 = no_more (omega arith) in
              let same : triangle_of e ≡ triangle_of (suc q) = ap triangle_of now in
              omega (arith, step, rest, none, same, triangle_next q, triangle_times r q, tetrahedron_times j q)
        ]
      where
        one_more : (i : ℕ) → suc q - e ≡ suc i → e * (suc q - e) ≡ e * i + e
        one_more i is = rw is (omega arith)

        no_more : suc q - e ≡ 0 → e * (suc q - e) ≡ 0
        no_more is = rw is (omega arith)

-- falls by d, in each of which the fall can be taken back
pub flat_way : (n d j w v p t : ℕ) → 0 < d → 0 < j → run_of d j + n * d ≤ v → v + d ≤ w + j → p + n * d ≡ v → t + suc n * d ≡ v →
    way_of d j w v + d * triangle_of (suc n) ≡ suc n * v + way_of d j p t
flat_way zero d j w v p t slows some lands bends before now =
    let same : p ≡ v = omega arith in
    let here : braked_of d j w v ≡ t = braked_flat d j w v t some (omega arith) bends (omega arith) in
    let step : way_of d j w v ≡ t + way_of d j v t = rw here at (way_unfold d j w v slows some) in
    let one : d * triangle_of 1 ≡ d = rw (triangle_next 0, triangle_none) (omega arith) in
    rw same (omega (arith, step, one))
flat_way (suc n) d j w v p t slows some lands bends before now =
    by_next (v - d) (omega (arith, run_ge d j some))
    (λ x is. flat_way n d j v x p t slows some (omega arith) (omega arith) (omega arith) (omega arith))
  where
    by_next : (x : ℕ) → x + d ≡ v → ((x : ℕ) → x + d ≡ v → way_of d j v x + d * triangle_of (suc n) ≡ suc n * x + way_of d j p t) →
        way_of d j w v + d * triangle_of (suc (suc n)) ≡ suc (suc n) * v + way_of d j p t
    by_next x is later =
        let here : braked_of d j w v ≡ x = braked_flat d j w v x some (omega (arith, lands)) bends is in
        let step : way_of d j w v ≡ x + way_of d j v x = rw here at (way_unfold d j w v slows some) in
        let rest : way_of d j v x + d * triangle_of (suc n) ≡ suc n * x + way_of d j p t = later x is in
        let times : suc n * (x + d) ≡ suc n * v = ap (λ s. suc n * s) is in
        omega (arith, step, rest, times, triangle_times d (suc n))

-- where the speeds go in n + 1 cycles of a ramp: to p and t, by the way s
pub record RampsTo (d j w v n p t s : ℕ) : Type 0 where
  pub before : p + (n * w + j * triangle_of n) ≡ suc n * v
  pub now : t + (suc n * w + j * triangle_of (suc n)) ≡ suc (suc n) * v
  pub sum : s + (w * triangle_of (suc n) + j * tetrahedron_of (suc (suc n))) ≡ v * (triangle_of (suc n) + suc n)
  pub way : way_of d j w v ≡ s + way_of d j p t

-- the speed after the first cycle of a ramp
pub ramp_first : (d j w v : ℕ) → 0 < j → j + w - v ≤ d → run_of (j + w - v) j ≤ v → braked_of d j w v + (w + j) ≡ 2 * v
unfolding braked_of
ramp_first d j w v some falls lands = omega (arith, reach_greatest (j + w - v) v j some lands, run_ge (j + w - v) j some)

-- a ramp of one cycle more has one of one less
pub ramp_less : (n d j w v : ℕ) → 0 < j → IsRamp d j w v (suc n) → IsRamp d j w v n
ramp_less n d j w v some ramp = record {
  falls = omega (arith, ramp.falls);
  lands = elim (cases_lt (suc n * j + w) v) [
    | inl rises ↦
        let none : suc n * j + w - v ≡ 0 = omega arith in
        let still : run_of (suc n * j + w - v) j ≡ 0 = rw none (run_zero j) in
        let product : n * (suc n * j + w) ≤ n * v = mul-le n (suc n * j + w) n v (omega arith) (omega arith) in
        let twice : j * (2 * triangle_of n) ≡ j * (n * (n + 1)) = ap (λ s. j * s) (triangle_twice n) in
        omega arith
    | inr falls ↦
        let last : suc (suc n) * j + w - v - j ≡ suc n * j + w - v = omega arith in
        let unfolds : run_of (suc (suc n) * j + w - v) j ≡ (suc (suc n) * j + w - v) + run_of (suc n * j + w - v) j =
        rw last at (run_unfold (suc (suc n) * j + w - v) j some) in
        let lands : run_of (suc (suc n) * j + w - v) j + (suc n * w + j * triangle_of (suc n)) ≤ suc (suc n) * v = ramp.lands in
        omega (arith, triangle_times j n)
  ];
}

-- the least ramp has one cycle
pub ramp_none : (n d j w v : ℕ) → 0 < j → IsRamp d j w v n → IsRamp d j w v 0
ramp_none zero d j w v some ramp = ramp
ramp_none (suc n) d j w v some ramp = ramp_none n d j w v some (ramp_less n d j w v some ramp)

-- after its first cycle a ramp has one cycle less
pub ramp_after : (n d j w v x : ℕ) → x + (w + j) ≡ 2 * v → IsRamp d j w v (suc n) → IsRamp d j v x n
ramp_after n d j w v x next ramp =
    let same : suc n * j + v - x ≡ suc (suc n) * j + w - v = omega arith in
    let times : suc n * (x + (w + j)) ≡ suc n * (2 * v) = ap (λ s. suc n * s) next in
    let lands : run_of (suc (suc n) * j + w - v) j + (suc n * w + j * triangle_of (suc n)) ≤ suc (suc n) * v = ramp.lands in
    record {
      falls = omega (arith, ramp.falls);
      lands = rw same (omega (arith, triangle_times j n));
    }

-- a ramp of n + 1 cycles goes somewhere
pub record Ramped (d j w v n : ℕ) : Type 0 where
  pub before : ℕ
  pub now : ℕ
  pub sum : ℕ
  pub is : RampsTo d j w v n before now sum
  pub tops : (most : ℕ) → v + run_of (v - w - j) j ≤ most → now + run_of (now - before - j) j ≤ most

-- one cycle of it
one_cycle : (d j w v x : ℕ) → 0 < d → 0 < j → x ≡ braked_of d j w v → x + (w + j) ≡ 2 * v → RampsTo d j w v 0 v x x
one_cycle d j w v x slows some is next =
    let step : way_of d j w v ≡ x + way_of d j v x = rw is (way_unfold d j w v slows some) in
    let one : (a : ℕ) → a * triangle_of 1 ≡ a = λ a. omega (arith, triangle_times a 0, triangle_nothing a) in
    let first : (a : ℕ) → a * tetrahedron_of 2 ≡ a =
    λ a. omega (arith, tetrahedron_times a 1, tetrahedron_times a 0, one a, triangle_nothing a, tetrahedron_nothing a) in
    record {
      before = omega (arith, triangle_nothing j);
      now = omega (arith, one j);
      sum = omega (arith, one w, first j, one v);
      way = step;
    }

-- and the others after it
more_cycles : (n d j w v x p t s : ℕ) → 0 < d → 0 < j → x ≡ braked_of d j w v → x + (w + j) ≡ 2 * v → RampsTo d j v x n p t s →
    RampsTo d j w v (suc n) p t (x + s)
more_cycles n d j w v x p t s slows some is next rest =
    let step : way_of d j w v ≡ x + way_of d j v x = rw is (way_unfold d j w v slows some) in
    let later : way_of d j v x ≡ s + way_of d j p t = rest.way in
    let before : p + (n * v + j * triangle_of n) ≡ suc n * x = rest.before in
    let now : t + (suc n * v + j * triangle_of (suc n)) ≡ suc (suc n) * x = rest.now in
    let sum : s + (v * triangle_of (suc n) + j * tetrahedron_of (suc (suc n))) ≡ x * (triangle_of (suc n) + suc n) = rest.sum in
    let times : suc n * (x + (w + j)) ≡ suc n * (2 * v) = ap (λ a. suc n * a) next in
    let times_more : suc (suc n) * (x + (w + j)) ≡ suc (suc n) * (2 * v) = ap (λ a. suc (suc n) * a) next in
    let whole : triangle_of (suc (suc n)) * (x + (w + j)) ≡ triangle_of (suc (suc n)) * (2 * v) = ap (λ a. triangle_of (suc (suc n)) * a) next in
    record {
      before = omega (arith, before, times, triangle_times j n);
      now = omega (arith, now, times_more, triangle_times j (suc n));
      sum = omega (arith, sum, whole, triangle_times v (suc n), triangle_times x (suc n), tetrahedron_times j (suc (suc n)));
      way = omega (arith, step, later);
    }

pub ramp_goes : (n d j w v : ℕ) → 0 < d → 0 < j → IsRamp d j w v n → Ramped d j w v n
ramp_goes zero d j w v slows some ramp =
    let same : suc 0 * j + w - v ≡ j + w - v = omega arith in
    let falls : j + w - v ≤ d = omega (arith, ramp.falls) in
    let first : run_of (suc 0 * j + w - v) j ≤ v = omega (arith, ramp.lands, triangle_nothing j) in
    let lands : run_of (j + w - v) j ≤ v = rw same at first in
    record {
      before = v;
      now = braked_of d j w v;
      sum = braked_of d j w v;
      is = one_cycle d j w v (braked_of d j w v) slows some refl (ramp_first d j w v some falls lands);
      tops = λ most top. braked_tops most d j w v some top;
    }
ramp_goes (suc n) d j w v slows some ramp =
    let least : IsRamp d j w v 0 = ramp_none (suc n) d j w v some ramp in
    let same : suc 0 * j + w - v ≡ j + w - v = omega arith in
    let falls : j + w - v ≤ d = omega (arith, least.falls) in
    let one : run_of (suc 0 * j + w - v) j ≤ v = omega (arith, least.lands, triangle_nothing j) in
    let lands : run_of (j + w - v) j ≤ v = rw same at one in
    let first : braked_of d j w v + (w + j) ≡ 2 * v = ramp_first d j w v some falls lands in
    let rest : Ramped d j v (braked_of d j w v) n = ramp_goes n d j v (braked_of d j w v) slows some (ramp_after n d j w v (braked_of d j w v) first ramp) in
    record {
      before = rest.before;
      now = rest.now;
      sum = braked_of d j w v + rest.sum;
      is = more_cycles n d j w v (braked_of d j w v) rest.before rest.now rest.sum slows some refl first rest.is;
      tops = λ most top. rest.tops most (braked_tops most d j w v some top);
    }

-- where no ramp goes on, the next fall is by d or the landing's
pub ramp_over : (d j p t f : ℕ) → 0 < j → f ≡ j + p - t → (f ≤ d → run_of f j ≤ t → ⊥) → t + min d (reach_of t j) ≤ p + j
ramp_over d j p t f some is over =
    elim (cases_lt d f) [
      | inl less ↦ omega arith
      | inr falls ↦ elim (cases_lt t (run_of f j)) [
        | inl beyond ↦ let short : reach_of t j < f = below_reach_of f t j some beyond in omega arith
        | inr lands ↦ absurd (over falls lands)
      ]
    ]

pub ramp_ends : (n d j w v p t s : ℕ) → 0 < j → RampsTo d j w v n p t s → (IsRamp d j w v (suc n) → ⊥) → t + min d (reach_of t j) ≤ p + j
ramp_ends n d j w v p t s some goes over =
    let before : p + (n * w + j * triangle_of n) ≡ suc n * v = goes.before in
    let now : t + (suc n * w + j * triangle_of (suc n)) ≡ suc (suc n) * v = goes.now in
    ramp_over d j p t (suc (suc n) * j + w - v) some (omega (arith, triangle_times j n))
    (λ falls lands. over (record { falls = falls; lands = omega arith }))

pub no_ramp_ends : (d j w v : ℕ) → 0 < j → (IsRamp d j w v 0 → ⊥) → v + min d (reach_of v j) ≤ w + j
no_ramp_ends d j w v some over =
    ramp_over d j w v (suc 0 * j + w - v) some (omega arith)
    (λ falls lands. over (record { falls = falls; lands = omega (arith, triangle_nothing j) }))

-- a ramp's last fall is at most d
pub ramp_falls : (n d j w v p t s : ℕ) → IsRamp d j w v n → RampsTo d j w v n p t s → p ≤ t + d
ramp_falls n d j w v p t s ramp goes =
    let before : p + (n * w + j * triangle_of n) ≡ suc n * v = goes.before in
    let now : t + (suc n * w + j * triangle_of (suc n)) ≡ suc (suc n) * v = goes.now in
    omega (arith, ramp.falls, triangle_times j n)

-- the reach of whole falls, a rest and what is left over
pub reach_whole : (q j r e v : ℕ) → 0 < j → r < j → e ≤ q → v ≡ suc q * r + j * triangle_of q + e → reach_of v j ≡ q * j + r
reach_whole q j r e v some h few is =
    let next : q * j + suc r ≡ suc (q * j + r) = omega arith in
    let more : run_of (q * j + suc r) j ≡ suc q * suc r + j * triangle_of q = run_whole q (suc r) j some (omega arith) in
    let way : run_of (q * j + r) j ≡ suc q * r + j * triangle_of q = run_whole q r j some (omega arith) in
    let over : v < run_of (q * j + suc r) j = omega arith in
    reach_is (q * j + r) v j some (omega arith) (rw next at over)

-- a ramp of some cycles, told by their number
pub record RampOf (d j w v cycles most : ℕ) : Type 0 where
  pub before : ℕ
  pub now : ℕ
  pub sum : ℕ
  pub before_is : before + ((cycles - 1) * w + j * triangle_of (cycles - 1)) ≡ cycles * v
  pub now_is : now + (cycles * w + j * triangle_of cycles) ≡ suc cycles * v
  pub sum_is : sum + (w * triangle_of cycles + j * tetrahedron_of (suc cycles)) ≡ v * (triangle_of cycles + cycles)
  pub way : way_of d j w v ≡ sum + way_of d j before now
  pub falls : before ≤ now + d
  pub tops : now ≤ most
  pub ends : (IsRamp d j w v cycles → ⊥) → now + min d (reach_of now j) ≤ before + j

pub ramp_of : (cycles d j w v most : ℕ) → 0 < d → 0 < j → 0 < cycles → ((n : ℕ) → cycles ≡ suc n → IsRamp d j w v n) →
    v + run_of (v - w - j) j ≤ most → RampOf d j w v cycles most
ramp_of zero d j w v most slows some moves goes top = absurd (omega arith)
ramp_of (suc n) d j w v most slows some moves goes top = by_ramp (ramp_goes n d j w v slows some (goes n refl))
  where
    by_ramp : Ramped d j w v n → RampOf d j w v (suc n) most
    by_ramp ramp =
        let less : suc n - 1 ≡ n = omega arith in
        record {
          before = ramp.before;
          now = ramp.now;
          sum = ramp.sum;
          before_is = rw less ramp.is.before;
          now_is = ramp.is.now;
          sum_is = ramp.is.sum;
          way = ramp.is.way;
          falls = ramp_falls n d j w v ramp.before ramp.now ramp.sum (goes n refl) ramp.is;
          tops = omega (arith, ramp.tops most top);
          ends = λ over. ramp_ends n d j w v ramp.before ramp.now ramp.sum some ramp.is over;
        }

-- the speed at the end of a ramp, by the one before it and the last fall
pub ramp_last : (d j w v cycles most : ℕ) → 0 < cycles → (ramp : RampOf d j w v cycles most) → ramp.before + v ≡ ramp.now + (cycles * j + w)
ramp_last d j w v zero most some ramp = absurd (omega arith)
ramp_last d j w v (suc n) most some ramp =
    let less : suc n - 1 ≡ n = omega arith in
    let before : ramp.before + (n * w + j * triangle_of n) ≡ suc n * v = rw less at ramp.before_is in
    omega (arith, before, ramp.now_is, triangle_times j n)

-- twice its way
pub ramp_double : (d j w v cycles most : ℕ) → (ramp : RampOf d j w v cycles most) →
    suc cycles * (v + ramp.now) + j * tetrahedron_of cycles ≡ 2 * (ramp.sum + v)
ramp_double d j w v cycles most ramp =
    let times : suc cycles * (ramp.now + (cycles * w + j * triangle_of cycles)) ≡ suc cycles * (suc cycles * v) = ap (λ a. suc cycles * a) ramp.now_is in
    let sides : j * (suc cycles * triangle_of cycles) ≡ j * (2 * tetrahedron_of (suc cycles) + tetrahedron_of cycles) =
    ap (λ a. j * a) (tetrahedron_sides cycles) in
    let twice_v : v * (2 * triangle_of cycles) ≡ v * (cycles * (cycles + 1)) = ap (λ a. v * a) (triangle_twice cycles) in
    let twice_w : w * (2 * triangle_of cycles) ≡ w * (cycles * (cycles + 1)) = ap (λ a. w * a) (triangle_twice cycles) in
    omega (arith, ramp.sum_is)

-- a gain that can be taken back below the greatest step is few times j
gain_few : (a j v : ℕ) → 1 ≤ j → v + run_of (a - j) j ≤ 10000000000 → a ≤ 150002 * j
gain_few a j v some top =
    let parts : (a - j) / j * j + (a - j) % j ≡ a - j = div-add-mod' (a - j) j in
    let rest : (a - j) % j < j = mod_below (a - j) j some in
    let way : run_of ((a - j) / j * j + (a - j) % j) j ≡ suc ((a - j) / j) * ((a - j) % j) + j * triangle_of ((a - j) / j) =
    run_whole ((a - j) / j) ((a - j) % j) j some (omega arith) in
    let same : run_of (a - j) j ≡ suc ((a - j) / j) * ((a - j) % j) + j * triangle_of ((a - j) / j) = rw parts at way in
    let few : (a - j) / j ≤ 150000 = few_times ((a - j) / j) j some (omega arith) in
    let span : (a - j) / j * j ≤ 150000 * j = mul-le ((a - j) / j) j 150000 j few (omega arith) in
    omega arith

-- so a ramp has few cycles
pub ramp_few : (n d j w v : ℕ) → 1 ≤ j → v + run_of (v - w - j) j ≤ 10000000000 → IsRamp d j w v n → n ≤ 400000
ramp_few n d j w v some top ramp =
    let lands : run_of (suc n * j + w - v) j + (n * w + j * triangle_of n) ≤ suc n * v = ramp.lands in
    elim (cases_lt w v) [
      | inr falls ↦
          let more : n * v ≤ n * w = mul-le n v n w (omega arith) falls in
          let fits : n ≤ 150000 = few_times n j some (omega arith) in
          omega arith
      | inl rises ↦ elim (cases_lt 400000 n) [
        | inr few ↦ few
        | inl many ↦ absurd (
            let gain : v - w ≤ 150002 * j = gain_few (v - w) j v some top in
            let times : n * v ≤ n * (w + 150002 * j) = mul-le n v n (w + 150002 * j) (omega arith) (omega arith) in
            let product : (n * j) * 400002 ≤ (n * j) * (n + 1) = mul-le (n * j) 400002 (n * j) (n + 1) (omega arith) (omega arith) in
            let least : n * 1 ≤ n * j = mul-le n 1 n j (omega arith) some in
            let twice : j * (2 * triangle_of n) ≡ j * (n * (n + 1)) = ap (λ a. j * a) (triangle_twice n) in
            omega arith)
      ]
    ]
