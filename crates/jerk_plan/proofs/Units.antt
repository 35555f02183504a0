-- A move arrives within four cycles more than the units of its way: it goes a unit or more in each
-- cycle, but for those in which it stands or ends.
-- for: moves_arrive
use Rattle.std.proofs.Common.{inl, inr, ◌≡◌, ℕ, ◌+◌, ◌-◌, ◌*◌, ◌<◌, ◌≤◌, zero, suc, min, arith, ap, refl}
use Rattle.std.proofs.lemmas.Bool.{cases_lt}
use Rattle.motion_numbers.specs.Run.{run_of, reach_of}
use Rattle.motion_numbers.proofs.Runs.{run_zero}
use Rattle.jerk_core.specs.declared.rates.JerkRates.{JerkRates}
use Rattle.jerk_core.specs.Braking.{braked_of, way_of}
use Rattle.jerk_core.specs.Rates.{AreJerkRates, IsSafeBy}
use Rattle.jerk_core.proofs.Brakes.{Bound, braked_is, reach_some}
use Rattle.jerk_core.proofs.Brakes.Bound.{by_fall, by_change, by_reach}
use Rattle.jerk_core.proofs.Ways.{way_unfold, way_zero}
use Rattle.jerk_core.proofs.KeptMotions.{lands_within, within_lands}
use Rattle.jerk_plan.specs.Wanted.{IsMoveSpeed, IsArrived, IsArrivedWithin}

-- the speed 1 has no way to rest
pub way_one : (d j p : ℕ) → 0 < d → 1 < j → way_of d j p 1 ≡ 0
way_one d j p slows bends =
    let unfolds : way_of d j p 1 ≡ braked_of d j p 1 + way_of d j 1 (braked_of d j p 1) = way_unfold d j p 1 slows (omega arith) in
    let rests : way_of d j 1 0 ≡ 0 = way_zero d j 1 slows (omega arith) in
    let same : way_of d j 1 (braked_of d j p 1) ≡ way_of d j 1 0 = ap (λ x. way_of d j 1 x) (none (braked_of d j p 1) (braked_is d j p 1 (omega arith))) in
    omega (arith, none (braked_of d j p 1) (braked_is d j p 1 (omega arith)))
  where
    none : (x : ℕ) → Bound d j p 1 x → x ≡ 0
    none x (by_fall is) = omega arith
    none x (by_change is) = omega arith
    none x (by_reach is) = omega (arith, reach_some 1 j (omega arith) (omega arith))

-- where the changes of speed allow the speed 1, a move goes on
one_safe : (rates : JerkRates) (way w v x : ℕ) → AreJerkRates rates → IsMoveSpeed rates way w v x → x ≡ 0 → w < 2 * v + rates.j → 0 < way →
    IsSafeBy rates way w v 1
one_safe rates way w v x ok move none slow some =
    let least : 2 ≤ rates.j = ok.j_least in
    let lands : v ≤ x + reach_of v rates.j = within_lands v x rates.j (omega arith) move.safe.after.kept.lands in
    let still : 1 - v - rates.j ≡ 0 = omega arith in
    let tops : run_of (1 - v - rates.j) rates.j ≡ 0 = rw still (run_zero rates.j) in
    let no_way : way_of rates.d rates.j v 1 ≡ 0 = way_one rates.d rates.j v (omega (arith, ok.d_least)) (omega arith) in
    record {
      bends = omega (arith, move.safe.bends);
      rises = omega arith;
      after = record {
        within = omega arith;
        kept = record {
          speed = omega (arith, ok.v_least);
          gains = omega (arith, ok.a_least);
          loses = omega (arith, move.safe.after.kept.loses);
          lands = lands_within v 1 rates.j (omega arith) (omega arith);
          tops = omega (arith, ok.v_least);
          fits = omega arith;
        };
      };
    }

goes_on : (rates : JerkRates) (way w v x : ℕ) → AreJerkRates rates → IsMoveSpeed rates way w v x → w < 2 * v + rates.j → 0 < way → 0 < x
goes_on rates way w v x ok move slow some =
    elim (cases_lt 0 x) [
      | inl moves ↦ moves
      | inr stands ↦ let one : 1 ≤ x = move.greatest 1 (one_safe rates way w v x ok move (omega arith) slow some) in omega arith
    ]

-- within how many cycles a move arrives by the units of its way
data IsNear (j m way w v : ℕ) : Type 0 where
  moves : 0 < v → w < 2 * v + j → way + 2 + min (v - 1) 2 ≤ m → IsNear j m way w v
  stops : 0 < v → way + 4 ≤ m → IsNear j m way w v
  waits : v ≡ 0 → way + 3 ≤ m → IsNear j m way w v
  starts : v ≡ 0 → w < j → 0 < way → way + 2 ≤ m → IsNear j m way w v
  ends : v ≡ 0 → way ≡ 0 → 1 ≤ m → IsNear j m way w v
  there : way ≡ 0 → w ≡ 0 → v ≡ 0 → IsNear j m way w v

-- after a speed
moved : (j m way v x : ℕ) → 0 < x → (v < 2 * x + j → way - x + 2 + min (x - 1) 2 ≤ m) → (2 * x + j ≤ v → way - x + 4 ≤ m) → IsNear j m (way - x) v x
moved j m way v x goes slow fast =
    elim (cases_lt v (2 * x + j)) [
      | inl less ↦ moves goes less (slow less)
      | inr more ↦ stops goes (fast more)
    ]

-- each cycle of a move leaves one cycle less
near_next : (m : ℕ) (rates : JerkRates) (way w v x : ℕ) → AreJerkRates rates → IsMoveSpeed rates way w v x → IsNear rates.j (suc m) way w v → IsNear rates.j m (way - x) v x
near_next m rates way w v x ok move (moves some slow enough) =
    let least : 2 ≤ rates.j = ok.j_least in
    let within : x ≤ way = move.safe.after.within in
    elim (cases_lt 0 x) [
      | inl on ↦ moved rates.j m way v x on (λ less. omega arith) (λ more. omega arith)
      | inr stands ↦ elim (cases_lt 0 way) [
        | inl left ↦ absurd (let on : 0 < x = goes_on rates way w v x ok move slow left in omega arith)
        | inr none ↦ ends (omega arith) (omega arith) (omega arith)
      ]
    ]
near_next m rates way w v x ok move (stops some enough) =
    let within : x ≤ way = move.safe.after.within in
    elim (cases_lt 0 x) [
      | inl on ↦ moved rates.j m way v x on (λ less. omega arith) (λ more. omega arith)
      | inr stands ↦ waits (omega arith) (omega arith)
    ]
near_next m rates way w v x ok move (waits still enough) =
    let least : 2 ≤ rates.j = ok.j_least in
    let within : x ≤ way = move.safe.after.within in
    elim (cases_lt 0 x) [
      | inl on ↦ moved rates.j m way v x on (λ less. omega arith) (λ more. omega arith)
      | inr stands ↦ elim (cases_lt 0 way) [
        | inl left ↦ starts (omega arith) (omega arith) (omega arith) (omega arith)
        | inr none ↦ there (omega arith) (omega arith) (omega arith)
      ]
    ]
near_next m rates way w v x ok move (starts still slow left enough) =
    let within : x ≤ way = move.safe.after.within in
    let on : 0 < x = goes_on rates way w v x ok move (omega arith) left in
    moved rates.j m way v x on (λ less. omega arith) (λ more. omega arith)
near_next m rates way w v x ok move (ends still none enough) =
    let within : x ≤ way = move.safe.after.within in
    there (omega arith) (omega arith) (omega arith)
near_next m rates way w v x ok move (there none last still) =
    let within : x ≤ way = move.safe.after.within in
    there (omega arith) (omega arith) (omega arith)

near_none : (j way w v : ℕ) → IsNear j 0 way w v → IsArrived way w v
near_none j way w v (moves some slow enough) = absurd (omega arith)
near_none j way w v (stops some enough) = absurd (omega arith)
near_none j way w v (waits still enough) = absurd (omega arith)
near_none j way w v (starts still slow left enough) = absurd (omega arith)
near_none j way w v (ends still none enough) = absurd (omega arith)
near_none j way w v (there none last still) = record { there = none; last = last; speed = still }

near_arrives : (m : ℕ) (rates : JerkRates) (way w v : ℕ) → AreJerkRates rates → IsNear rates.j m way w v → IsArrivedWithin m rates way w v
near_arrives zero rates way w v ok near = near_none rates.j way w v near
near_arrives (suc m) rates way w v ok near = inr (λ x move. near_arrives m rates (way - x) v x ok (near_next m rates way w v x ok move near))

-- from a stand within three cycles more than its units
pub stand_arrives : (m : ℕ) (rates : JerkRates) (way w v : ℕ) → AreJerkRates rates → v ≡ 0 → way + 3 ≤ m → IsArrivedWithin m rates way w v
stand_arrives m rates way w v ok still enough = near_arrives m rates way w v ok (waits still enough)

-- at the target within the cycle in which its last change is gone
pub stop_arrives : (m : ℕ) (rates : JerkRates) (way w v : ℕ) → AreJerkRates rates → v ≡ 0 → way ≡ 0 → 1 ≤ m → IsArrivedWithin m rates way w v
stop_arrives m rates way w v ok still none enough = near_arrives m rates way w v ok (ends still none enough)

-- from whatever motion within four
pub units_arrive : (rates : JerkRates) (way w v m : ℕ) → AreJerkRates rates → way + 4 ≤ m → IsArrivedWithin m rates way w v
units_arrive rates way w v m ok enough = near_arrives m rates way w v ok (by_speed v)
  where
    by_speed : (v : ℕ) → IsNear rates.j m way w v
    by_speed zero = waits refl (omega arith)
    by_speed (suc v) = stops (omega arith) (omega arith)

-- and so within three cycles for each unit, and two
pub arrives_by_units : (rates : JerkRates) (way w v : ℕ) → AreJerkRates rates → IsArrivedWithin (3 * way + 2) rates way w v
arrives_by_units rates way w v ok =
    elim (cases_lt 0 way) [
      | inl some ↦ units_arrive rates way w v (3 * way + 2) ok (omega arith)
      | inr none ↦
          let two : 3 * way + 2 ≡ 2 = omega arith in
          rw two (inr (λ x move. let within : x ≤ way = move.safe.after.within in
          stop_arrives 1 rates (way - x) v x ok (omega arith) (omega arith) (omega arith)))
    ]

-- from rest within two
pub rest_arrives_by_units : (rates : JerkRates) (way : ℕ) → AreJerkRates rates → IsArrivedWithin (way + 2) rates way 0 0
rest_arrives_by_units rates way ok = near_arrives (way + 2) rates way 0 0 ok (by_way way)
  where
    by_way : (way : ℕ) → IsNear rates.j (way + 2) way 0 0
    by_way zero = there refl refl refl
    by_way (suc way) = starts refl (omega (arith, ok.j_least)) (omega arith) (omega arith)
