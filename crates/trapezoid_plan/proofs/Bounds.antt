-- The cycles bound of a move grows with its way and its step.
-- for: cycles_bounds_grow
use Rattle.std.proofs.Common.{ℕ, ◌+◌, ◌*◌, ◌/◌, ◌≤◌, ◌<◌, min, unsigned_abs, arith, inl, inr}
use Rattle.std.specs.Int.{div_ceil}
use Rattle.std.proofs.lemmas.Bool.{cases_lt}
use Rattle.std.proofs.lemmas.Grind.{div_ceil_times}
use Rattle.std.proofs.lemmas.Nat.{le-div, mul-le}
use Rattle.std.proofs.Math.Nat.{div-mul-le_self}
use Rattle.motion_numbers.specs.declared.TheConstants.{MOST_WAY}
use Rattle.motion_numbers.specs.Laws.{AreWays}
use Rattle.motion_numbers.specs.Run.{run_of}
use Rattle.command_pool.specs.declared.rates.Rates.{Rates}
use Rattle.command_pool.specs.Rates.{AreRates}
use Rattle.std.proofs.lemmas.Int.{ints}
use Rattle.trapezoid_plan.specs.CyclesBound.{cycles_of_sizes}

-- a greater number has no lesser quotient
quotient-mono : (m n k : ℕ) → 0 < k → m ≤ n → m / k ≤ n / k
quotient-mono m n k some l = let part = div-mul-le_self m k in le-div (m / k) n k some (omega arith)

-- nor one that is rounded up
none-above : (m n k p q : ℕ) → m ≤ n → q < p → p * k < m + k → n ≤ q * k → ⊥
none-above m n k p q l above less more = let step : (q + 1) * k ≤ p * k = mul-le (q + 1) k p k (omega arith) (omega arith) in omega arith

ceil-mono : (m n k : ℕ) → 0 < k → m ≤ n → div_ceil m k ≤ div_ceil n k
ceil-mono m n k some l = elim (cases_lt (div_ceil n k) (div_ceil m k)) [
  | inl above ↦ absurd (none-above m n k (div_ceil m k) (div_ceil n k) l above (div_ceil_times m k some).1 (div_ceil_times n k some).0)
  | inr below ↦ below
]

-- so the bound of a move grows with its way and its step
pub bound-mono : AreWays → (l m w v : ℕ) (rates : Rates) → AreRates rates → l ≤ m → w ≤ v → cycles_of_sizes l w rates ≤ cycles_of_sizes m v rates
unfolding cycles_of_sizes
bound-mono ways l m w v rates ok far fast =
    let some : 0 < unsigned_abs rates.d = let d = ok.least_deceleration in omega (arith, ints) in
    let any : 0 < unsigned_abs rates.v = let d = ok.least_velocity in omega (arith, ints) in
    let braking = quotient-mono w v (unsigned_abs rates.d) some fast in
    let way = ways.run_mono w v (unsigned_abs rates.d) some fast in
    let cruise = ceil-mono (min (l + run_of w (unsigned_abs rates.d)) MOST_WAY) (min (m + run_of v (unsigned_abs rates.d)) MOST_WAY) (unsigned_abs rates.v) any (omega arith) in
    omega arith
