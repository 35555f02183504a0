-- Braking by cycles: what the least speed that may follow keeps, and that it comes to rest.
-- for: braked, greatest_back, greatest_between and others
use Rattle.std.proofs.Common.{inl, inr, ◌≡◌, ℕ, ◌+◌, ◌-◌, ◌*◌, ◌<◌, ◌≤◌, zero, suc, min, max, arith}
use Rattle.std.proofs.lemmas.Bool.{cases_lt}
use Rattle.motion_numbers.specs.Run.{run_of, reach_of}
use Rattle.motion_numbers.proofs.Runs.{run_zero, run_unfold, run_ge, run_less}
use Rattle.motion_numbers.proofs.Reaches.{reach_fits, reach_greatest}
use Rattle.jerk_core.specs.Braking.{braked_of}

-- the reach of a speed is no greater than it
pub reach_within : (v j : ℕ) → 0 < j → reach_of v j ≤ v
reach_within v j some = omega (arith, run_ge (reach_of v j) j some, reach_fits v j)

-- a greater speed has no smaller reach
pub reach_mono : (v t j : ℕ) → 0 < j → v ≤ t → reach_of v j ≤ reach_of t j
reach_mono v t j some h = reach_greatest (reach_of v j) t j some (omega (arith, reach_fits v j))

-- a step greater by k has a way longer by k
run_gap : (k u j : ℕ) → 0 < j → run_of u j + k ≤ run_of (u + k) j
run_gap zero u j some = let same : u + zero ≡ u = omega arith in rw same (omega arith)
run_gap (suc k) u j some =
    let below : run_of u j + k ≤ run_of (u + k) j = run_gap k u j some in
    let more : run_of (u + k) j < run_of (u + suc k) j = run_less (u + k) (u + suc k) j some (omega arith) in
    omega arith

-- the reach rises no faster than the speed
pub reach_slow : (v t j : ℕ) → 0 < j → v ≤ t → reach_of t j ≤ reach_of v j + (t - v)
reach_slow v t j some h =
    elim (cases_lt (t - v) (reach_of t j)) [
      | inl less ↦ by_gap (reach_of t j - (t - v)) (omega arith)
      | inr more ↦ omega arith
    ]
  where
    by_gap : (u : ℕ) → u + (t - v) ≡ reach_of t j → reach_of t j ≤ reach_of v j + (t - v)
    by_gap u is =
        let gap : run_of u j + (t - v) ≤ run_of (reach_of t j) j = rw is at (run_gap (t - v) u j some) in
        let within : u ≤ reach_of v j = reach_greatest u v j some (omega (arith, gap, reach_fits t j)) in
        omega arith

-- some speed has some reach
pub reach_some : (v j : ℕ) → 0 < j → 0 < v → 0 < reach_of v j
reach_some v j some moves =
    let last : 1 - j ≡ 0 = omega arith in
    let one : run_of 1 j ≡ 1 + run_of (1 - j) j = run_unfold 1 j some in
    let none : run_of (1 - j) j ≡ 0 = rw last (run_zero j) in
    let within : 1 ≤ reach_of v j = reach_greatest 1 v j some (omega arith) in
    omega arith

-- from rest braking stays at rest
pub braked_zero : (d j w : ℕ) → braked_of d j w 0 ≡ 0
unfolding braked_of
braked_zero d j w = omega arith

-- the braked speed is not below any of its three bounds
pub record IsBraked (d j w v x : ℕ) : Type 0 where
  pub loses : v ≤ x + d
  pub bends : 2 * v ≤ x + w + j
  pub lands : v ≤ x + reach_of v j

pub braked_bounds : (d j w v : ℕ) → 0 < j → IsBraked d j w v (braked_of d j w v)
unfolding braked_of
braked_bounds d j w v some = record {
  loses = omega arith;
  bends = omega arith;
  lands = omega (arith, reach_within v j some);
}

-- and it is one of them: by the fall, by the last change, or by the reach
pub data Bound (d j w v x : ℕ) : Type 0 where
  by_fall : x + d ≡ v → Bound d j w v x
  by_change : x + w + j ≡ 2 * v → Bound d j w v x
  by_reach : x + reach_of v j ≡ v → Bound d j w v x

pub braked_is : (d j w v : ℕ) → 0 < j → Bound d j w v (braked_of d j w v)
unfolding braked_of
braked_is d j w v some =
    let within : reach_of v j ≤ v = reach_within v j some in
    elim (cases_lt (v - reach_of v j) (max (v - d) (2 * v - (w + j)))) [
      | inr reach ↦ by_reach (omega arith)
      | inl other ↦ elim (cases_lt (v - d) (2 * v - (w + j))) [
        | inl change ↦ by_change (omega arith)
        | inr fall ↦ by_fall (omega arith)
      ]
    ]

-- nothing below the braked speed keeps all three bounds
pub braked_least : (d j w v x : ℕ) → IsBraked d j w v x → braked_of d j w v ≤ x
unfolding braked_of
braked_least d j w v x is = omega (arith, is.loses, is.bends, is.lands)

-- the braked speed where the change falls by j and the speed still rises
pub braked_rising : (d j w v : ℕ) → 0 < j → w + j < v → v + (v - (w + j)) ≡ braked_of d j w v
unfolding braked_of
braked_rising d j w v some rises = omega arith

-- and where it doesn't
pub braked_falling : (d j w v g : ℕ) → 0 < j → v ≤ w + j → g ≡ min (min d (w + j - v)) (reach_of v j) → v - g ≡ braked_of d j w v
unfolding braked_of
braked_falling d j w v g some falls is = omega (arith, reach_within v j some)
