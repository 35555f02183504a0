-- Velocities are reached and held.
-- for: halt_speed, velocities_are_held, velocities_are_reached
use Rattle.std.proofs.Common.{inl, inr, ◌≡◌, ℕ, ◌+◌, ◌-◌, ◌*◌, ◌<◌, ◌≤◌, zero, suc, min, max, nat_le, arith, refl, ◌∙◌}
use Rattle.std.proofs.lemmas.Bool.{cases_lt, le-leb, cond-true}
use Rattle.motion_numbers.specs.Run.{run_of, reach_of}
use Rattle.motion_numbers.proofs.Reaches.{reach_greatest}
use Rattle.jerk_core.specs.declared.rates.JerkRates.{JerkRates}
use Rattle.jerk_core.specs.Braking.{braked_of}
use Rattle.jerk_core.specs.Rates.{AreJerkRates}
use Rattle.jerk_core.proofs.Brakes.{reach_within, reach_some}
use Rattle.jerk_core.proofs.KeptMotions.{tops_within}
use Rattle.jerk_plan.specs.Wanted.{velocity_of, velocity_after}

-- below the wanted speed
pub velocity_below : (rates : JerkRates) (wanted w v : ℕ) → v ≤ wanted →
    velocity_of rates wanted w v ≡ max (2 * v - (w + rates.j)) (min (2 * v + rates.j - w) (v + min rates.a (reach_of (wanted - v) rates.j)))
unfolding velocity_of
velocity_below rates wanted w v below =
    rw (cond-true (nat_le v wanted) (v + min rates.a (reach_of (wanted - v) rates.j)) (v - min rates.d (reach_of (v - wanted) rates.j)) (le-leb v wanted below)) refl

-- what a speed that may come next is, where the last change was no fall
record IsNext (rates : JerkRates) (wanted w v x : ℕ) : Type 0 where
  within : x ≤ wanted
  rises : v ≤ x
  some : v < wanted → v < x
  tops : x + run_of (x - v - rates.j) rates.j ≤ wanted

next_speed : (rates : JerkRates) (wanted w v : ℕ) → AreJerkRates rates → w ≤ v → v + run_of (v - w - rates.j) rates.j ≤ wanted →
    IsNext rates wanted w v (velocity_of rates wanted w v)
next_speed rates wanted w v ok grows tops = by_value (velocity_of rates wanted w v) (velocity_below rates wanted w v below)
  where
    below : v ≤ wanted
    below = omega arith

    some : 0 < rates.j
    some = omega (arith, ok.j_least)

    -- the last change less j is within the reach
    bend : v - w - rates.j ≤ reach_of (wanted - v) rates.j
    bend = reach_greatest (v - w - rates.j) (wanted - v) rates.j some (omega arith)

    by_value : (x : ℕ) → x ≡ max (2 * v - (w + rates.j)) (min (2 * v + rates.j - w) (v + min rates.a (reach_of (wanted - v) rates.j))) →
        IsNext rates wanted w v x
    by_value x is =
        let reach : reach_of (wanted - v) rates.j ≤ wanted - v = reach_within (wanted - v) rates.j some in
        let least : 2 ≤ rates.j = ok.j_least in
        let gain : 1 ≤ rates.a = ok.a_least in
        let under : x ≤ v + reach_of (wanted - v) rates.j = omega (arith, bend) in
        record {
          within = omega arith;
          rises = omega arith;
          some = λ less. let moves : 0 < reach_of (wanted - v) rates.j = reach_some (wanted - v) rates.j some (omega arith) in omega arith;
          tops = tops_within wanted v x rates.j some below under;
        }

-- so the wanted speed isn't passed
pub velocity_within : (rates : JerkRates) (wanted w v : ℕ) → AreJerkRates rates → w ≤ v → v + run_of (v - w - rates.j) rates.j ≤ wanted →
    velocity_of rates wanted w v ≤ wanted
velocity_within rates wanted w v ok grows tops = (next_speed rates wanted w v ok grows tops).within

-- and is reached
pub velocity_reached : (n : ℕ) (rates : JerkRates) (wanted w v : ℕ) → AreJerkRates rates → w ≤ v → v + run_of (v - w - rates.j) rates.j ≤ wanted →
    wanted ≤ v + n → velocity_after n rates wanted w v ≡ wanted
velocity_reached zero rates wanted w v ok grows tops enough = omega arith
velocity_reached (suc n) rates wanted w v ok grows tops enough =
    let next : IsNext rates wanted w v (velocity_of rates wanted w v) = next_speed rates wanted w v ok grows tops in
    let rises : v ≤ velocity_of rates wanted w v = next.rises in
    velocity_reached n rates wanted v (velocity_of rates wanted w v) ok next.rises next.tops
    (elim (cases_lt v wanted) [
      | inl less ↦ let more : v < velocity_of rates wanted w v = next.some less in omega arith
      | inr there ↦ omega arith
    ])

-- and held
pub velocity_held : (rates : JerkRates) (wanted : ℕ) → AreJerkRates rates → velocity_of rates wanted wanted wanted ≡ wanted
velocity_held rates wanted ok =
    let none : wanted - wanted ≡ 0 = omega arith in
    let reach : reach_of (wanted - wanted) rates.j ≤ wanted - wanted = reach_within (wanted - wanted) rates.j (omega (arith, ok.j_least)) in
    velocity_below rates wanted wanted wanted (omega arith) ∙ omega arith

-- the braked speed is at most twice the speed
pub braked_small : (d j w v : ℕ) → braked_of d j w v ≤ 2 * v
unfolding braked_of
braked_small d j w v = omega arith
