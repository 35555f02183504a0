-- The way to rest: braking ends, its way is its first cycle's and the rest, and it is the shortest
-- of all that may follow.
-- for: greatest_back, greatest_between, greatest_fall_of and others
use Rattle.std.proofs.Common.{inl, inr, ◌≡◌, ℕ, ◌+◌, ◌-◌, ◌*◌, ◌<◌, ◌≤◌, zero, suc, arith, refl, sym, ◌∙◌, ap}
use Rattle.std.proofs.lemmas.Bool.{cases_lt}
use Rattle.std.proofs.lemmas.Nat.{mul-le}
use Rattle.motion_numbers.specs.Run.{reach_of}
use Rattle.motion_numbers.proofs.Runs.{run_anti}
use Rattle.motion_numbers.proofs.Reaches.{reach_fits, reach_greatest}
use Rattle.jerk_core.specs.Braking.{braked_of, braking_of, way_of}
use Rattle.jerk_core.proofs.Brakes.{reach_within, reach_mono, reach_slow, reach_some, braked_zero, IsBraked, braked_bounds, Bound, braked_is, braked_least}
use Rattle.jerk_core.proofs.Brakes.Bound.{by_fall, by_change, by_reach}

-- while the speed rises by more than j, its change falls by j
rising : (j w v x r : ℕ) → 0 < j → 0 < r → x ≡ v + r → v ≡ w + j + r →
    x + (x - v) * (x - v) ≤ v + (v - w) * (v - w) - 1
rising j w v x r some moves is above =
    let up : x - v ≡ r = omega arith in
    let gain : v - w ≡ r + j = omega arith in
    let more : r * 1 ≤ r * j = mul-le r 1 r j (omega arith) some in
    let least : 1 * 1 ≤ j * j = mul-le 1 1 j j some some in
    rw (up, gain) (omega arith)

-- else the speed falls
falling : (w v x s : ℕ) → x < v → x + (x - v) * (x - v) ≤ v + s - 1
falling w v x s less = let none : x - v ≡ 0 = omega arith in rw none (omega arith)

-- or stays once, where its change was just j
standing : (j w v x : ℕ) → 0 < j → x ≡ v → w + j ≡ v → x + (x - v) * (x - v) ≤ v + (v - w) * (v - w) - 1
standing j w v x some same is =
    let none : x - v ≡ 0 = omega arith in
    let gain : v - w ≡ j = omega arith in
    let least : 1 * 1 ≤ j * j = mul-le 1 1 j j some some in
    rw (none, gain) (omega arith)

-- each cycle of braking leaves fewer cycles
pub braking_falls : (d j w v : ℕ) → 0 < d → 0 < j → 0 < v →
    braked_of d j w v + (braked_of d j w v - v) * (braked_of d j w v - v) ≤ v + (v - w) * (v - w) - 1
braking_falls d j w v slows some moves = by_bound (braked_of d j w v) (braked_bounds d j w v some) (braked_is d j w v some)
  where
    by_bound : (x : ℕ) → IsBraked d j w v x → Bound d j w v x → x + (x - v) * (x - v) ≤ v + (v - w) * (v - w) - 1
    by_bound x bounds (by_fall is) = falling w v x ((v - w) * (v - w)) (omega arith)
    by_bound x bounds (by_reach is) = falling w v x ((v - w) * (v - w)) (omega (arith, reach_some v j some moves))
    by_bound x bounds (by_change is) =
        elim (cases_lt (w + j) v) [
          | inl above ↦ rising j w v x (v - (w + j)) some (omega arith) (omega arith) (omega arith)
          | inr below ↦ elim (cases_lt x v) [
            | inl less ↦ falling w v x ((v - w) * (v - w)) less
            | inr same ↦ standing j w v x some (omega arith) (omega arith)
          ]
        ]

-- from rest there is no way
pub braking_zero : (n d j w : ℕ) → braking_of n d j w 0 ≡ 0
braking_zero zero d j w = refl
braking_zero (suc n) d j w =
    let stays : braked_of d j w 0 ≡ 0 = braked_zero d j w in
    let rest : braking_of n d j 0 0 ≡ 0 = braking_zero n d j 0 in
    rw stays (omega arith)

-- once they are enough, more cycles add no way
pub braking_settles : (n m d j w v : ℕ) → 0 < d → 0 < j → v + (v - w) * (v - w) ≤ n → v + (v - w) * (v - w) ≤ m →
    braking_of n d j w v ≡ braking_of m d j w v
braking_settles zero m d j w v slows some p q =
    let rests : v ≡ 0 = stands v ((v - w) * (v - w)) p in rw rests (sym (braking_zero m d j w))
  where
    stands : (v s : ℕ) → v + s ≤ 0 → v ≡ 0
    stands v s h = omega arith
braking_settles (suc n) zero d j w v slows some p q =
    let rests : v ≡ 0 = stands v ((v - w) * (v - w)) q in rw rests (braking_zero (suc n) d j w)
  where
    stands : (v s : ℕ) → v + s ≤ 0 → v ≡ 0
    stands v s h = omega arith
braking_settles (suc n) (suc m) d j w v slows some p q =
    elim (cases_lt 0 v) [
      | inl moves ↦ ap (λ s. braked_of d j w v + s)
          (braking_settles n m d j v (braked_of d j w v) slows some
          (fewer _ _ n (braking_falls d j w v slows some moves) p) (fewer _ _ m (braking_falls d j w v slows some moves) q))
      | inr rests ↦ let here : v ≡ 0 = omega arith in
          rw here (braking_zero (suc n) d j w ∙ sym (braking_zero (suc m) d j w))
    ]
  where
    fewer : (a b n : ℕ) → a ≤ b - 1 → b ≤ suc n → a ≤ n
    fewer a b n h most = omega arith

-- the way to rest by any number of cycles that is enough
pub way_by : (n d j w v : ℕ) → 0 < d → 0 < j → v + (v - w) * (v - w) ≤ n → way_of d j w v ≡ braking_of n d j w v
unfolding way_of
way_by n d j w v slows some enough = braking_settles (v + (v - w) * (v - w)) n d j w v slows some (omega arith) enough

-- the way to rest is the braked speed, and the way to rest from there
pub way_unfold : (d j w v : ℕ) → 0 < d → 0 < j →
    way_of d j w v ≡ braked_of d j w v + way_of d j v (braked_of d j w v)
way_unfold d j w v slows some =
    elim (cases_lt 0 v) [
      | inl moves ↦ way_by (suc (v + (v - w) * (v - w))) d j w v slows some (omega arith)
          ∙ ap (λ s. braked_of d j w v + s)
          (sym (way_by (v + (v - w) * (v - w)) d j v (braked_of d j w v) slows some
          (within _ _ (braking_falls d j w v slows some moves))))
      | inr rests ↦ let here : v ≡ 0 = omega arith in rw here (from_rest w)
    ]
  where
    within : (a b : ℕ) → a ≤ b - 1 → a ≤ b
    within a b h = omega arith

    from_rest : (w : ℕ) → way_of d j w 0 ≡ braked_of d j w 0 + way_of d j 0 (braked_of d j w 0)
    from_rest w =
        let stays : braked_of d j w 0 ≡ 0 = braked_zero d j w in
        let none : way_of d j w 0 ≡ 0 = way_by (0 + (0 - w) * (0 - w)) d j w 0 slows some (omega arith) ∙ braking_zero (0 + (0 - w) * (0 - w)) d j w in
        let later : way_of d j 0 0 ≡ 0 = way_by (0 + (0 - 0) * (0 - 0)) d j 0 0 slows some (omega arith) ∙ braking_zero (0 + (0 - 0) * (0 - 0)) d j 0 in
        rw stays (omega arith)

-- from rest there is no way to rest
pub way_zero : (d j w : ℕ) → 0 < d → 0 < j → way_of d j w 0 ≡ 0
way_zero d j w slows some = way_by (0 + (0 - w) * (0 - w)) d j w 0 slows some (omega arith) ∙ braking_zero (0 + (0 - w) * (0 - w)) d j w

-- the motion w, v is nowhere above the motion p, t: neither its speed nor its change is greater, or
-- it falls by its reach
pub data IsBelow (d j w v p t : ℕ) : Type 0 where
  by_speeds : v ≤ t → v + p ≤ t + w → IsBelow d j w v p t
  by_landing : v ≤ t → reach_of v j ≤ d → v + reach_of v j ≤ w + j → IsBelow d j w v p t

-- what falls by its reach is below what doesn't fall further than its reach
landed : (j v t x y : ℕ) → 0 < j → v ≤ t → x + reach_of v j ≡ v → t ≤ y + reach_of t j → x ≤ y
landed j v t x y some below is lands = omega (arith, reach_slow v t j some below)

-- after a fall by the reach comes another
lands_on : (d j w v x y : ℕ) → 0 < j → x + reach_of v j ≡ v → reach_of v j ≤ d → x ≤ y → (t : ℕ) → IsBelow d j v x t y
lands_on d j w v x y some is within below t =
    let less : reach_of x j ≤ reach_of v j = reach_mono x v j some (omega arith) in
    by_landing below (omega arith) (omega arith)

-- braking keeps below
pub below_step : (d j w v p t y : ℕ) → 0 < j → IsBelow d j w v p t → IsBraked d j p t y → IsBelow d j v (braked_of d j w v) t y
below_step d j w v p t y some (by_landing below within bends) bounds =
    let reach : reach_of v j ≤ v = reach_within v j some in
    let least : braked_of d j w v ≤ v - reach_of v j = braked_least d j w v (v - reach_of v j) (record { loses = omega arith; bends = omega arith; lands = omega arith }) in
    let own : v ≤ braked_of d j w v + reach_of v j = (braked_bounds d j w v some).lands in
    let is : braked_of d j w v + reach_of v j ≡ v = omega arith in
    lands_on d j w v (braked_of d j w v) y some is within (landed j v t (braked_of d j w v) y some below is bounds.lands) t
below_step d j w v p t y some (by_speeds below bends) bounds = by_bound (braked_of d j w v) (braked_bounds d j w v some) (braked_is d j w v some)
  where
    by_bound : (x : ℕ) → IsBraked d j w v x → Bound d j w v x → IsBelow d j v x t y
    by_bound x own (by_fall is) = by_speeds (omega (arith, bounds.loses)) (omega (arith, bounds.loses))
    by_bound x own (by_change is) = by_speeds (omega (arith, bounds.bends)) (omega (arith, bounds.bends))
    by_bound x own (by_reach is) =
        lands_on d j w v x y some is (omega (arith, own.loses)) (landed j v t x y some below is bounds.lands) t

pub below_speed : (d j w v p t : ℕ) → IsBelow d j w v p t → v ≤ t
below_speed d j w v p t (by_speeds below bends) = below
below_speed d j w v p t (by_landing below within bends) = below

-- so from below the way of as many cycles is no longer
pub braking_below : (n d j w v p t : ℕ) → 0 < j → IsBelow d j w v p t → braking_of n d j w v ≤ braking_of n d j p t
braking_below zero d j w v p t some below = omega arith
braking_below (suc n) d j w v p t some below =
    let next : IsBelow d j v (braked_of d j w v) t (braked_of d j p t) = below_step d j w v p t (braked_of d j p t) some below (braked_bounds d j p t some) in
    let first : braked_of d j w v ≤ braked_of d j p t = below_speed _ _ _ _ _ _ next in
    let rest : braking_of n d j v (braked_of d j w v) ≤ braking_of n d j t (braked_of d j p t) = braking_below n d j v (braked_of d j w v) t (braked_of d j p t) some next in
    omega arith

-- and the way to rest
pub way_below : (d j w v p t : ℕ) → 0 < d → 0 < j → IsBelow d j w v p t → way_of d j w v ≤ way_of d j p t
way_below d j w v p t slows some below =
    rw (way_by (v + (v - w) * (v - w) + (t + (t - p) * (t - p))) d j w v slows some (omega arith), way_by (v + (v - w) * (v - w) + (t + (t - p) * (t - p))) d j p t slows some (omega arith))
    (braking_below (v + (v - w) * (v - w) + (t + (t - p) * (t - p))) d j w v p t some below)

-- what brakes by less brakes by more too
pub braked_by_more : (d j e k w v x : ℕ) → 0 < j → d ≤ e → j ≤ k → IsBraked d j w v x → IsBraked e k w v x
braked_by_more d j e k w v x some harder sharper is =
    let reach : reach_of v j ≤ reach_of v k = reach_greatest (reach_of v j) v k (omega arith)
    (omega (arith, run_anti (reach_of v j) j k sharper, reach_fits v j)) in
    record {
      loses = omega (arith, is.loses);
      bends = omega (arith, is.bends);
      lands = omega (arith, is.lands);
    }

-- harder braking goes no farther
pub braking_by_more : (n d j e k w v p t : ℕ) → 0 < j → d ≤ e → j ≤ k → IsBelow e k w v p t → braking_of n e k w v ≤ braking_of n d j p t
braking_by_more zero d j e k w v p t some harder sharper below = omega arith
braking_by_more (suc n) d j e k w v p t some harder sharper below =
    let next : IsBelow e k v (braked_of e k w v) t (braked_of d j p t) =
    below_step e k w v p t (braked_of d j p t) (omega arith) below
    (braked_by_more d j e k p t (braked_of d j p t) some harder sharper (braked_bounds d j p t some)) in
    let first : braked_of e k w v ≤ braked_of d j p t = below_speed _ _ _ _ _ _ next in
    let rest : braking_of n e k v (braked_of e k w v) ≤ braking_of n d j t (braked_of d j p t) =
    braking_by_more n d j e k v (braked_of e k w v) t (braked_of d j p t) some harder sharper next in
    omega arith

pub way_by_more : (d j e k w v : ℕ) → 0 < d → 0 < j → d ≤ e → j ≤ k → way_of e k w v ≤ way_of d j w v
way_by_more d j e k w v slows some harder sharper =
    rw (way_by (v + (v - w) * (v - w)) e k w v (omega arith) (omega arith) (omega arith), way_by (v + (v - w) * (v - w)) d j w v slows some (omega arith))
    (braking_by_more (v + (v - w) * (v - w)) d j e k w v w v some harder sharper (by_speeds (omega arith) (omega arith)))
