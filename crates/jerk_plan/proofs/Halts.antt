-- A halt of a kept motion brakes, and rests.
-- for: halts_rest
use Rattle.std.proofs.Common.{inl, inr, ◌≡◌, ℕ, ◌+◌, ◌-◌, ◌*◌, ◌≤◌, zero, suc, arith}
use Rattle.std.proofs.lemmas.Bool.{cases_lt}
use Rattle.jerk_core.specs.declared.rates.JerkRates.{JerkRates}
use Rattle.jerk_core.specs.Braking.{braked_of}
use Rattle.jerk_core.specs.Rates.{AreJerkRates, IsKeptBy, IsSafeBy}
use Rattle.jerk_core.proofs.Brakes.{braked_zero}
use Rattle.jerk_core.proofs.Ways.{braking_falls}
use Rattle.jerk_core.proofs.KeptMotions.{braked_safe}
use Rattle.jerk_core.proofs.Spending.{up_rates}
use Rattle.jerk_core.proofs.Rests.{Rests, brake_rests}
use Rattle.jerk_plan.specs.Wanted.{slowed_of, halted_of}

-- a halt of a kept motion brakes
pub slowed_brakes : (rates : JerkRates) (room w v : ℕ) → AreJerkRates rates → IsKeptBy rates room w v →
    slowed_of rates w v ≡ braked_of rates.d rates.j w v
unfolding slowed_of
slowed_brakes rates room w v ok kept =
    let safe : IsSafeBy rates room w v (braked_of rates.d rates.j w v) =
    braked_safe rates.v rates.a rates.d rates.j room w v (omega (arith, ok.d_least)) (omega (arith, ok.j_least)) kept in
    omega (arith, safe.rises)

-- and is at rest within its cycles
pub halted_rests : (n : ℕ) (rates : JerkRates) (room w v : ℕ) → AreJerkRates rates → IsKeptBy rates room w v → v + (v - w) * (v - w) ≤ n →
    halted_of n rates w v ≡ 0
halted_rests zero rates room w v ok kept enough = none v ((v - w) * (v - w)) enough
  where
    none : (v s : ℕ) → v + s ≤ 0 → v ≡ 0
    none v s h = omega arith
halted_rests (suc n) rates room w v ok kept enough =
    let safe : IsSafeBy rates room w v (braked_of rates.d rates.j w v) =
    braked_safe rates.v rates.a rates.d rates.j room w v (omega (arith, ok.d_least)) (omega (arith, ok.j_least)) kept in
    rw (slowed_brakes rates room w v ok kept)
    (halted_rests n rates (room - braked_of rates.d rates.j w v) v (braked_of rates.d rates.j w v) ok safe.after.kept
    (elim (cases_lt 0 v) [
      | inl moves ↦ less _ _ n (braking_falls rates.d rates.j w v (omega (arith, ok.d_least)) (omega (arith, ok.j_least)) moves) enough
      | inr rests ↦ let still : v ≡ 0 = omega arith in
          let stays : braked_of rates.d rates.j w v ≡ 0 = rw still (braked_zero rates.d rates.j w) in
          rw (stays, still) (omega arith)
    ]))
  where
    less : (a b n : ℕ) → a ≤ b - 1 → b ≤ suc n → a ≤ n
    less a b n h most = omega arith

-- a halt is at rest after as many cycles as braking is
halted_by : (n : ℕ) (rates : JerkRates) (room w v : ℕ) → AreJerkRates rates → IsKeptBy rates room w v → Rests n rates.d rates.j w v → halted_of n rates w v ≡ 0
halted_by zero rates room w v ok kept rests = rests
halted_by (suc n) rates room w v ok kept rests =
    let safe : IsSafeBy rates room w v (braked_of rates.d rates.j w v) =
    braked_safe rates.v rates.a rates.d rates.j room w v (omega (arith, ok.d_least)) (omega (arith, ok.j_least)) kept in
    let same : slowed_of rates w v ≡ braked_of rates.d rates.j w v = slowed_brakes rates room w v ok kept in
    rw same (halted_by n rates (room - braked_of rates.d rates.j w v) v (braked_of rates.d rates.j w v) ok safe.after.kept rests)

-- and so within cycles that its rates count
pub halts_by_rates : (rates : JerkRates) (room w v k n : ℕ) → AreJerkRates rates → IsKeptBy rates room w v →
    rates.a + rates.d ≤ k * rates.j → rates.v ≤ n * rates.d → halted_of (k + n + 1) rates w v ≡ 0
halts_by_rates rates room w v k n ok kept ramp flat =
    let same : k + n + 1 ≡ suc (k + n) = omega arith in
    rw same (halted_by (suc (k + n)) rates room w v ok kept
    (brake_rests (k + n) rates.v rates.a rates.d rates.j rates.j w v (omega (arith, ok.d_least)) (omega (arith, ok.j_least)) (omega arith) (omega arith)
    kept.gains kept.loses kept.tops (up_rates k n rates.v rates.d rates.j rates.a ramp flat)))
