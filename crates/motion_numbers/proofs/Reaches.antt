-- The greatest step whose way to rest fits the room.
-- for: greatest_ramp, greatest_ramp_below, ways_to_rest
use Rattle.std.proofs.Common.{◌≡◌, ℕ, ◌<◌, ◌≤◌, zero, suc, nat_le, unwrap_or, inl, inr, arith}
use Rattle.std.proofs.lemmas.Bool.{cases_lt, leb-true, le-leb}
use Rattle.motion_numbers.specs.Run.{run_of, reach_of}
use Rattle.motion_numbers.specs.Greatest.{greatest, IsFound}
use Rattle.motion_numbers.specs.Greatest.IsFound.{found_at, found_none}
use Rattle.motion_numbers.proofs.Searches.{search-finds}
use Rattle.motion_numbers.proofs.Runs.{run_zero, run_ge, run_mono}

-- the way from the reach fits
pub reach_fits : (room d : ℕ) → run_of (reach_of room d) d ≤ room
unfolding reach_of
reach_fits room d = by_search (search-finds room (λ u. nat_le (run_of u d) room))
  where
    by_search : IsFound room (λ u. nat_le (run_of u d) room) (greatest room (λ u. nat_le (run_of u d) room)) →
        run_of (unwrap_or (greatest room (λ u. nat_le (run_of u d) room)) 0) d ≤ room
    by_search (found_at g is passes most) = rw is (leb-true _ _ passes)
    by_search (found_none is fails) = rw (is, run_zero) (omega arith)

-- and so does that from any smaller step
pub fits_below_reach : (u room d : ℕ) → 0 < d → u ≤ reach_of room d → run_of u d ≤ room
fits_below_reach u room d some h = omega (arith, run_mono u (reach_of room d) d some h, reach_fits room d)

-- a step whose way fits is within the reach
pub reach_greatest : (u room d : ℕ) → 0 < d → run_of u d ≤ room → u ≤ reach_of room d
unfolding reach_of
reach_greatest u room d some h = by_search (search-finds room (λ t. nat_le (run_of t d) room))
  where
    within : u ≤ room
    within = omega (arith, run_ge u d some)

    by_search : IsFound room (λ t. nat_le (run_of t d) room) (greatest room (λ t. nat_le (run_of t d) room)) →
        u ≤ unwrap_or (greatest room (λ t. nat_le (run_of t d) room)) 0
    by_search (found_at g is passes most) = rw is (most u within (le-leb _ _ h))
    by_search (found_none is fails) = absurd (fails u within (le-leb _ _ h))

-- the way from the next greater step is too long
pub reach_is : (u room d : ℕ) → 0 < d → run_of u d ≤ room → room < run_of (suc u) d → reach_of room d ≡ u
reach_is u room d some fits over =
    elim (cases_lt u (reach_of room d)) [
      | inl more ↦ absurd (omega (arith, run_mono (suc u) (reach_of room d) d some (omega arith), reach_fits room d))
      | inr less ↦ omega (arith, reach_greatest u room d some fits)
    ]

-- a step whose way is too long is beyond the reach
pub below_reach_of : (u room d : ℕ) → 0 < d → room < run_of u d → reach_of room d < u
below_reach_of u room d some over =
    elim (cases_lt (reach_of room d) u) [ inl h ↦ h | inr h ↦ absurd (omega (arith, fits_below_reach u room d some h)) ]

-- a step with a way is not zero
pub over_some : (u room d : ℕ) → room < run_of u d → 0 < u
over_some zero room d over = absurd (omega (arith, run_zero d))
over_some (suc u) room d over = omega arith
