-- A speed shared into parts of j: whole falls by j, a rest, and what is left over.
-- for: greatest_fall_of, way_of_landing
use Rattle.std.proofs.Common.{inl, inr, ◌≡◌, ℕ, ◌+◌, ◌-◌, ◌*◌, ◌/◌, ◌%◌, ◌<◌, ◌≤◌, suc, arith}
use Rattle.std.proofs.Math.Nat.{div-le_self}
use Rattle.std.proofs.lemmas.Bool.{cases_lt}
use Rattle.std.proofs.lemmas.Nat.{mul-le, div-add-mod', mod_below}
use Rattle.motion_numbers.specs.declared.TheConstants.{MOST_STEP}
use Rattle.motion_numbers.specs.Run.{run_of, reach_of}
use Rattle.motion_numbers.proofs.Runs.{run_ge, run_small}
use Rattle.motion_numbers.proofs.Reaches.{reach_fits, reach_greatest}
use Rattle.jerk_core.specs.Sums.{triangle_of}
use Rattle.jerk_core.proofs.Triangles.{triangle_least, triangle_times}
use Rattle.jerk_core.proofs.Phases.{reach_whole}

-- the falls are few
pub few_falls : (q v j : ℕ) → triangle_of q ≤ v / j → v ≤ MOST_STEP → q ≤ MOST_STEP
few_falls q v j fits slow = let share : v / j ≤ v = div-le_self v j in omega (arith, triangle_least q)

-- where a share of the speed lies between two triangles
pub record IsBetween (q j v : ℕ) : Type 0 where
  pub whole : j * triangle_of q ≤ v
  pub next : v < j * suc q + j * triangle_of q

pub between : (q j v : ℕ) → 1 ≤ j → triangle_of q ≤ v / j → v / j < triangle_of (suc q) → IsBetween q j v
between q j v some fits over =
    let parts : v / j * j + v % j ≡ v = div-add-mod' v j in
    let rest : v % j < j = mod_below v j (omega arith) in
    let low : triangle_of q * j ≤ v / j * j = mul-le (triangle_of q) j (v / j) j fits (omega arith) in
    let high : (v / j + 1) * j ≤ triangle_of (suc q) * j = mul-le (v / j + 1) j (triangle_of (suc q)) j (omega arith) (omega arith) in
    record { whole = omega arith; next = omega (arith, triangle_times j q) }

-- the rest is less than j
pub rest_below : (q j r e l v : ℕ) → IsBetween q j v → l ≡ v - j * triangle_of q → r * (q + 1) + e ≡ l → r < j
rest_below q j r e l v at left parts =
    elim (cases_lt r j) [
      | inl below ↦ below
      | inr above ↦ absurd (let more : j * suc q ≤ r * suc q = mul-le j (suc q) r (suc q) above (omega arith) in omega (arith, at.whole, at.next))
    ]

-- so the reach is the whole falls and the rest
pub reach_shared : (q j r e l v : ℕ) → 1 ≤ j → IsBetween q j v → l ≡ v - j * triangle_of q → r * (q + 1) + e ≡ l → e < q + 1 →
    q * j + r ≡ reach_of v j
reach_shared q j r e l v some at left parts few =
    let whole : j * triangle_of q ≤ v = at.whole in
    let same : reach_of v j ≡ q * j + r =
    reach_whole q j r e v some (rest_below q j r e l v at left parts) (omega arith) (omega arith) in
    omega arith

-- and no more than the speed
pub reach_small : (v j : ℕ) → 1 ≤ j → reach_of v j ≤ v
reach_small v j some = omega (arith, run_ge (reach_of v j) j some, reach_fits v j)

-- a speed of at most j can be taken back at once
pub reach_all : (v j : ℕ) → 1 ≤ j → v ≤ j → v ≡ reach_of v j
reach_all v j some within =
    let one : run_of v j ≡ v = run_small v j some within in
    let reach : v ≤ reach_of v j = reach_greatest v v j some (omega arith) in
    omega (arith, reach_small v j some)
