-- Velocities by rates: however the motion is, its difference from the wanted speed comes to none as
-- a speed comes to rest by braking, by d above the wanted speed and by a below it.
-- for: velocities_are_reached
use Rattle.std.proofs.Common.{inl, inr, ◌≡◌, ℕ, ◌+◌, ◌-◌, ◌*◌, ◌<◌, ◌≤◌, zero, suc, min, max, nat_le, arith, refl, ◌∙◌}
use Rattle.std.proofs.lemmas.Bool.{cases_lt, lt-leb, cond-false}
use Rattle.std.proofs.lemmas.Nat.{mul-le}
use Rattle.motion_numbers.specs.Run.{run_of, reach_of}
use Rattle.motion_numbers.proofs.Runs.{run_unfold, run_ge, run_mono}
use Rattle.motion_numbers.proofs.Reaches.{reach_greatest, fits_below_reach}
use Rattle.jerk_core.specs.declared.rates.JerkRates.{JerkRates}
use Rattle.jerk_core.specs.Braking.{braked_of, way_of}
use Rattle.jerk_core.specs.Rates.{AreJerkRates, IsKeptBy, IsSafeBy}
use Rattle.jerk_core.proofs.Brakes.{reach_within, reach_mono, IsBraked, braked_bounds}
use Rattle.jerk_core.proofs.KeptMotions.{lands_within, falls_within, tops_within}
use Rattle.jerk_core.proofs.Spending.{IsUpWithin, up_up, up_down, up_flat, up_some, up_start, up_rates, down_start, lower}
use Rattle.jerk_core.proofs.Rests.{Rests, flat_rests, down_rests, up_rests}
use Rattle.jerk_plan.specs.Wanted.{velocity_of, velocity_after}
use Rattle.jerk_plan.proofs.Velocities.{velocity_below}

-- the difference x after the difference e, which rose by g or fell by f in the last cycle: it falls
-- by the greatest fall that can be taken back, or its change falls by j
record IsNearer (d j g f e x : ℕ) : Type 0 where
  flat : min d (reach_of e j) + g ≤ f + j → x + min d (reach_of e j) ≡ e
  ramp : f + j < min d (reach_of e j) + g → x + (f + j) ≡ e + g

-- braking from a fall by d
braked_past : (d j e x : ℕ) → 0 < j → x + min d (reach_of e j) ≡ e → braked_of d j (e + d) e ≡ x
unfolding braked_of
braked_past d j e x some is = omega (arith, reach_within e j some)

-- such a difference comes to none as braking does
nearer_rests : (n most d j a g f e x : ℕ) → 0 < d → 0 < j → g ≤ a → f ≤ d → (0 < f → g ≡ 0) → e + run_of (g - j) j ≤ most →
    IsNearer d j g f e x → IsUpWithin n most d j a → Rests n d j e x
nearer_rests zero most d j a g f e x slows some gains falls apart tops next within = absurd (up_some most d j a slows within)
nearer_rests (suc n) most d j a g f e x slows some gains falls apart tops next within =
    elim (cases_lt (f + j) (min d (reach_of e j) + g)) [
      | inr flat ↦
          let is : x + min d (reach_of e j) ≡ e = next.flat flat in
          let rest : Rests (suc (suc n)) d j (e + d) e =
          flat_rests (suc n) d j j (e + d) e slows some (omega arith) (up_flat (suc n) most d j e a (omega arith) within) (omega arith) in
          let same : braked_of d j (e + d) e ≡ x = braked_past d j e x some is in
          rw same at rest
      | inl ramps ↦
          let is : x + (f + j) ≡ e + g = next.ramp ramps in
          elim (cases_lt 0 f) [
            | inl falling ↦
                let none : g ≡ 0 = apart falling in
                down_rests n d j j e x (f + j) slows some (omega arith) (omega arith) (omega arith) (omega arith)
                (lower n d j j e f x (omega arith) (omega arith) (omega arith) (omega arith)
                (down_start (suc n) most d j a e f (omega arith) falls (omega arith) within))
            | inr rising ↦ elim (cases_lt g j) [
              | inl turns ↦ down_rests n d j j e x (j - g) slows some (omega arith) (omega arith) (omega arith) (omega arith)
                  (up_down n most d j a x (j - g) (omega arith) (omega arith) (omega arith) (omega arith) within)
              | inr rises ↦
                  let same : x - e - j ≡ g - j - j = omega arith in
                  let top : x + run_of (x - e - j) j ≤ most = rw same (omega (arith, run_unfold (g - j) j some)) in
                  up_rests n most d j j e x (g - j) slows some (omega arith) (omega arith) (omega arith) top
                  (up_up n most d j a (g - j) (omega arith) within)
            ]
          ]
    ]

-- above the wanted speed
velocity_above : (rates : JerkRates) (wanted w v : ℕ) → AreJerkRates rates → wanted ≤ v →
    velocity_of rates wanted w v ≡ max (2 * v - (w + rates.j)) (min (2 * v + rates.j - w) (v - min rates.d (reach_of (v - wanted) rates.j)))
unfolding velocity_of
velocity_above rates wanted w v ok above =
    elim (cases_lt wanted v) [
      | inl more ↦
          rw (cond-false (nat_le v wanted) (v + min rates.a (reach_of (wanted - v) rates.j)) (v - min rates.d (reach_of (v - wanted) rates.j)) (lt-leb v wanted more)) (omega arith)
      | inr there ↦
          let up : reach_of (wanted - v) rates.j ≤ wanted - v = reach_within (wanted - v) rates.j (omega (arith, ok.j_least)) in
          let down : reach_of (v - wanted) rates.j ≤ v - wanted = reach_within (v - wanted) rates.j (omega (arith, ok.j_least)) in
          velocity_below rates wanted w v there ∙ omega arith
    ]

-- the next speed where the fall can be taken back above the wanted one
record IsAbove (rates : JerkRates) (wanted w v x : ℕ) : Type 0 where
  above : wanted ≤ x
  nearer : IsNearer rates.d rates.j (v - w) (w - v) (v - wanted) (x - wanted)

above_next : (rates : JerkRates) (wanted w v x : ℕ) → AreJerkRates rates → wanted ≤ v → w ≤ v + rates.j + min rates.d (reach_of (v - wanted) rates.j) →
    x ≡ velocity_of rates wanted w v → IsAbove rates wanted w v x
above_next rates wanted w v x ok above back is =
    let reach : reach_of (v - wanted) rates.j ≤ v - wanted = reach_within (v - wanted) rates.j (omega (arith, ok.j_least)) in
    let value : x ≡ max (2 * v - (w + rates.j)) (min (2 * v + rates.j - w) (v - min rates.d (reach_of (v - wanted) rates.j))) =
    is ∙ velocity_above rates wanted w v ok above in
    record {
      above = omega arith;
      nearer = record { flat = λ h. omega arith; ramp = λ h. omega arith };
    }

-- a fall that isn't greater than the last one less j can be taken back as that one could
lands_next : (w v x j : ℕ) → 0 < j → run_of (w - v - j) j ≤ v → v ≤ x + (w - v - j) → run_of (v - x - j) j ≤ x
lands_next w v x j some lands slower =
    let less : run_of (v - x) j ≤ run_of (w - v - j) j = run_mono (v - x) (w - v - j) j some (omega arith) in
    omega (arith, run_unfold (v - x) j some)

-- the next speed where the gain can be taken back below the wanted one
record IsBelow (rates : JerkRates) (wanted w v x : ℕ) : Type 0 where
  below : x ≤ wanted
  lands : run_of (v - x - rates.j) rates.j ≤ x
  nearer : IsNearer rates.a rates.j (w - v) (v - w) (wanted - v) (wanted - x)

below_next : (rates : JerkRates) (wanted w v x : ℕ) → AreJerkRates rates → v ≤ wanted → run_of (w - v - rates.j) rates.j ≤ v →
    v ≤ w + rates.j + min rates.a (reach_of (wanted - v) rates.j) → x ≡ velocity_of rates wanted w v → IsBelow rates wanted w v x
below_next rates wanted w v x ok below lands back is =
    let reach : reach_of (wanted - v) rates.j ≤ wanted - v = reach_within (wanted - v) rates.j (omega (arith, ok.j_least)) in
    let value : x ≡ max (2 * v - (w + rates.j)) (min (2 * v + rates.j - w) (v + min rates.a (reach_of (wanted - v) rates.j))) =
    is ∙ velocity_below rates wanted w v below in
    let some : 0 < rates.j = omega (arith, ok.j_least) in
    let small : w - v - rates.j ≤ v = omega (arith, run_ge (w - v - rates.j) rates.j some) in
    record {
      below = omega arith;
      lands = lands_next w v x rates.j some lands (omega arith);
      nearer = record { flat = λ h. omega arith; ramp = λ h. omega arith };
    }

-- such a difference is the braked one, where its last fall can be taken back; l is the one before
braked_nearer : (d j l g f e x : ℕ) → 0 < j → l + g ≡ e + f → f ≤ j + min d (reach_of e j) → IsNearer d j g f e x → braked_of d j l e ≡ x
unfolding braked_of
braked_nearer d j l g f e x some last back next =
    let reach : reach_of e j ≤ e = reach_within e j some in
    elim (cases_lt (f + j) (min d (reach_of e j) + g)) [
      | inr flat ↦ let is : x + min d (reach_of e j) ≡ e = next.flat flat in omega arith
      | inl ramps ↦ let is : x + (f + j) ≡ e + g = next.ramp ramps in omega arith
    ]

-- and can take back its fall again
back_next : (d j f e : ℕ) → 0 < j → e ≤ braked_of d j f e + j + min d (reach_of (braked_of d j f e) j)
back_next d j f e some =
    let bounds : IsBraked d j f e (braked_of d j f e) = braked_bounds d j f e some in
    let loses : e ≤ braked_of d j f e + d = bounds.loses in
    let lands : e ≤ braked_of d j f e + j + reach_of (braked_of d j f e) j =
    falls_within e (braked_of d j f e) j some (lands_within e (braked_of d j f e) j some bounds.lands) in
    omega arith

-- whose fall can be taken back where its last one could
again : (d j g f e x : ℕ) → 0 < j → f ≤ j + min d (reach_of e j) → IsNearer d j g f e x → e ≤ x + j + min d (reach_of x j)
again d j g f e x some back next =
    elim (cases_lt (f + j) (min d (reach_of e j) + g)) [
      | inr flat ↦
          let is : x + min d (reach_of e j) ≡ e = next.flat flat in
          let lands : run_of (e - x - j) j ≤ x = lands_within e x j some (omega arith) in
          let within : e ≤ x + j + reach_of x j = falls_within e x j some lands in
          omega arith
      | inl ramps ↦
          let is : x + (f + j) ≡ e + g = next.ramp ramps in
          let lands : run_of (e - x - j) j ≤ x = lands_within e x j some (omega arith) in
          let within : e ≤ x + j + reach_of x j = falls_within e x j some lands in
          omega arith
    ]

-- so above the wanted speed it is reached when braking of the difference rests
reached_above : (n : ℕ) (rates : JerkRates) (wanted v x : ℕ) → AreJerkRates rates → wanted ≤ v → wanted ≤ x →
    v ≤ x + rates.j + min rates.d (reach_of (x - wanted) rates.j) → Rests n rates.d rates.j (v - wanted) (x - wanted) →
    velocity_after n rates wanted v x ≡ wanted
reached_above zero rates wanted v x ok above over back rests = omega arith
reached_above (suc n) rates wanted v x ok above over back rests =
    let next : IsAbove rates wanted v x (velocity_of rates wanted v x) = above_next rates wanted v x (velocity_of rates wanted v x) ok over back refl in
    let more : wanted ≤ velocity_of rates wanted v x = next.above in
    let same : braked_of rates.d rates.j (v - wanted) (x - wanted) ≡ velocity_of rates wanted v x - wanted =
    braked_nearer rates.d rates.j (v - wanted) (x - v) (v - x) (x - wanted) (velocity_of rates wanted v x - wanted) (omega (arith, ok.j_least)) (omega arith) (omega arith) next.nearer in
    let again : x - wanted ≤ velocity_of rates wanted v x - wanted + rates.j + min rates.d (reach_of (velocity_of rates wanted v x - wanted) rates.j) =
    rw same at (back_next rates.d rates.j (v - wanted) (x - wanted) (omega (arith, ok.j_least))) in
    reached_above n rates wanted x (velocity_of rates wanted v x) ok over more (omega arith) (rw same at rests)

-- and below it
reached_below : (n : ℕ) (rates : JerkRates) (wanted v x : ℕ) → AreJerkRates rates → v ≤ wanted → x ≤ wanted → run_of (v - x - rates.j) rates.j ≤ x →
    x ≤ v + rates.j + min rates.a (reach_of (wanted - x) rates.j) → Rests n rates.a rates.j (wanted - v) (wanted - x) →
    velocity_after n rates wanted v x ≡ wanted
reached_below zero rates wanted v x ok below under lands back rests = omega arith
reached_below (suc n) rates wanted v x ok below under lands back rests =
    let next : IsBelow rates wanted v x (velocity_of rates wanted v x) = below_next rates wanted v x (velocity_of rates wanted v x) ok under lands back refl in
    let less : velocity_of rates wanted v x ≤ wanted = next.below in
    let same : braked_of rates.a rates.j (wanted - v) (wanted - x) ≡ wanted - velocity_of rates wanted v x =
    braked_nearer rates.a rates.j (wanted - v) (v - x) (x - v) (wanted - x) (wanted - velocity_of rates wanted v x) (omega (arith, ok.j_least)) (omega arith) (omega arith) next.nearer in
    let again : wanted - x ≤ wanted - velocity_of rates wanted v x + rates.j + min rates.a (reach_of (wanted - velocity_of rates wanted v x) rates.j) =
    rw same at (back_next rates.a rates.j (wanted - v) (wanted - x) (omega (arith, ok.j_least))) in
    reached_below n rates wanted x (velocity_of rates wanted v x) ok under less next.lands (omega arith) (rw same at rests)

-- where the fall can be taken back above the wanted speed
done_above : (n most : ℕ) (rates : JerkRates) (wanted w v : ℕ) → AreJerkRates rates → wanted ≤ v → w ≤ v + rates.d →
    w ≤ v + rates.j + min rates.d (reach_of (v - wanted) rates.j) → v - wanted + run_of (v - w - rates.j) rates.j ≤ most →
    IsUpWithin n most rates.d rates.j (v - w) → velocity_after (suc n) rates wanted w v ≡ wanted
done_above n most rates wanted w v ok above loses back tops within =
    let slows : 0 < rates.d = omega (arith, ok.d_least) in
    let some : 0 < rates.j = omega (arith, ok.j_least) in
    let next : IsAbove rates wanted w v (velocity_of rates wanted w v) = above_next rates wanted w v (velocity_of rates wanted w v) ok above back refl in
    let more : wanted ≤ velocity_of rates wanted w v = next.above in
    let reach : reach_of (v - wanted) rates.j ≤ v - wanted = reach_within (v - wanted) rates.j some in
    reached_above n rates wanted v (velocity_of rates wanted w v) ok above more
    (omega (arith, again rates.d rates.j (v - w) (w - v) (v - wanted) (velocity_of rates wanted w v - wanted) some (omega arith) next.nearer))
    (nearer_rests n most rates.d rates.j (v - w) (v - w) (w - v) (v - wanted) (velocity_of rates wanted w v - wanted) slows some (omega arith) (omega arith) (λ falls. omega arith) tops next.nearer within)

-- and where the gain can be taken back below it
done_below : (n : ℕ) (rates : JerkRates) (wanted w v : ℕ) → AreJerkRates rates → v ≤ wanted → v ≤ w + rates.a →
    v ≤ w + rates.j + min rates.a (reach_of (wanted - v) rates.j) → run_of (w - v - rates.j) rates.j ≤ v →
    IsUpWithin n wanted rates.a rates.j (w - v) → velocity_after (suc n) rates wanted w v ≡ wanted
done_below n rates wanted w v ok below gains back lands within =
    let slows : 0 < rates.a = omega (arith, ok.a_least) in
    let some : 0 < rates.j = omega (arith, ok.j_least) in
    let next : IsBelow rates wanted w v (velocity_of rates wanted w v) = below_next rates wanted w v (velocity_of rates wanted w v) ok below lands back refl in
    let less : velocity_of rates wanted w v ≤ wanted = next.below in
    reached_below n rates wanted v (velocity_of rates wanted w v) ok below less next.lands
    (omega (arith, again rates.a rates.j (w - v) (v - w) (wanted - v) (wanted - velocity_of rates wanted w v) some (omega arith) next.nearer))
    (nearer_rests n wanted rates.a rates.j (w - v) (w - v) (v - w) (wanted - v) (wanted - velocity_of rates wanted w v) slows some (omega arith) (omega arith) (λ rises. omega arith) (omega arith) next.nearer within)

-- a fall f that is more than can be taken back before the wanted speed stays more, and passes it
stays_past : (d j f e x : ℕ) → 0 < j → x + f ≡ e → f < d → reach_of e j < f → j + min d (reach_of x j) < f
stays_past d j f e x some is falls past =
    elim (cases_lt (j + min d (reach_of x j)) f) [
      | inl more ↦ more
      | inr less ↦
          let fits : run_of (f - j) j ≤ x = fits_below_reach (f - j) x j some (omega arith) in
          let within : f ≤ reach_of e j = reach_greatest f e j some (omega (arith, run_unfold f j some)) in
          absurd (omega arith)
    ]

-- a speed above the wanted one that falls past it rises to it from below
sinks : (n : ℕ) (rates : JerkRates) (wanted w v : ℕ) → AreJerkRates rates → wanted ≤ v → w ≤ v + rates.d → run_of (w - v - rates.j) rates.j ≤ v →
    v + rates.j + min rates.d (reach_of (v - wanted) rates.j) < w → IsUpWithin n wanted rates.a rates.j (w - v) → velocity_after (suc n) rates wanted w v ≡ wanted
sinks zero rates wanted w v ok above loses lands past within = absurd (up_some wanted rates.a rates.j (w - v) (omega (arith, ok.a_least)) within)
sinks (suc n) rates wanted w v ok above loses lands past within =
    let some : 0 < rates.j = omega (arith, ok.j_least) in
    let small : w - v - rates.j ≤ v = omega (arith, run_ge (w - v - rates.j) rates.j some) in
    let value : velocity_of rates wanted w v + (w - v - rates.j) ≡ v = omega (arith, velocity_above rates wanted w v ok above) in
    let landed : run_of (v - velocity_of rates wanted w v - rates.j) rates.j ≤ velocity_of rates wanted w v =
    lands_next w v (velocity_of rates wanted w v) rates.j some lands (omega arith) in
    let less : IsUpWithin n wanted rates.a rates.j (v - velocity_of rates wanted w v) =
    up_up n wanted rates.a rates.j (w - v) (v - velocity_of rates wanted w v) (omega arith) within in
    elim (cases_lt (velocity_of rates wanted w v) wanted) [
      | inl under ↦ done_below n rates wanted v (velocity_of rates wanted w v) ok (omega arith) (omega arith) (omega arith) landed less
      | inr over ↦
          let on : rates.j + min rates.d (reach_of (velocity_of rates wanted w v - wanted) rates.j) < v - velocity_of rates wanted w v =
          stays_past rates.d rates.j (v - velocity_of rates wanted w v) (v - wanted) (velocity_of rates wanted w v - wanted) some (omega arith) (omega arith) (omega arith) in
          sinks n rates wanted v (velocity_of rates wanted w v) ok over (omega arith) landed (omega arith) less
    ]

-- and one below the wanted one that rises past it falls to it from above
soars : (n top : ℕ) (rates : JerkRates) (wanted w v : ℕ) → AreJerkRates rates → v ≤ wanted → wanted ≤ top → v ≤ w + rates.a →
    v + run_of (v - w - rates.j) rates.j ≤ top → w + rates.j + min rates.a (reach_of (wanted - v) rates.j) < v →
    IsUpWithin n (top - wanted) rates.d rates.j (v - w) → velocity_after (suc n) rates wanted w v ≡ wanted
soars zero top rates wanted w v ok below slow gains tops past within = absurd (up_some (top - wanted) rates.d rates.j (v - w) (omega (arith, ok.d_least)) within)
soars (suc n) top rates wanted w v ok below slow gains tops past within =
    let some : 0 < rates.j = omega (arith, ok.j_least) in
    let value : velocity_of rates wanted w v ≡ v + (v - w - rates.j) = omega (arith, velocity_below rates wanted w v below) in
    let same : velocity_of rates wanted w v - v - rates.j ≡ v - w - rates.j - rates.j = omega arith in
    let topped : velocity_of rates wanted w v + run_of (velocity_of rates wanted w v - v - rates.j) rates.j ≤ top =
    rw same (omega (arith, run_unfold (v - w - rates.j) rates.j some)) in
    let less : IsUpWithin n (top - wanted) rates.d rates.j (velocity_of rates wanted w v - v) =
    up_up n (top - wanted) rates.d rates.j (v - w) (velocity_of rates wanted w v - v) (omega arith) within in
    elim (cases_lt (velocity_of rates wanted w v) wanted) [
      | inl under ↦
          let on : rates.j + min rates.a (reach_of (wanted - velocity_of rates wanted w v) rates.j) < velocity_of rates wanted w v - v =
          stays_past rates.a rates.j (velocity_of rates wanted w v - v) (wanted - v) (wanted - velocity_of rates wanted w v) some (omega arith) (omega arith) (omega arith) in
          soars n top rates wanted v (velocity_of rates wanted w v) ok (omega arith) slow (omega arith) topped (omega arith) less
      | inr over ↦ done_above n (top - wanted) rates wanted v (velocity_of rates wanted w v) ok over (omega arith) (omega arith) (omega arith) less
    ]

-- so from any motion that keeps the rates the wanted speed is reached within cycles that they count
from_any : (n : ℕ) (rates : JerkRates) (wanted w v : ℕ) → AreJerkRates rates → wanted ≤ rates.v → v ≤ w + rates.a → w ≤ v + rates.d →
    run_of (w - v - rates.j) rates.j ≤ v → v + run_of (v - w - rates.j) rates.j ≤ rates.v →
    IsUpWithin n (rates.v - wanted) rates.d rates.j rates.a → IsUpWithin n wanted rates.a rates.j rates.d → velocity_after (suc n) rates wanted w v ≡ wanted
from_any n rates wanted w v ok slow gains loses lands tops above below =
    let high : IsUpWithin n (rates.v - wanted) rates.d rates.j (v - w) = up_start n (rates.v - wanted) rates.d rates.j (v - w) rates.a (omega arith) above in
    let low : IsUpWithin n wanted rates.a rates.j (w - v) = up_start n wanted rates.a rates.j (w - v) rates.d (omega arith) below in
    elim (cases_lt v wanted) [
      | inr over ↦ elim (cases_lt (v + rates.j + min rates.d (reach_of (v - wanted) rates.j)) w) [
        | inl past ↦ sinks n rates wanted w v ok over loses lands past low
        | inr back ↦ done_above n (rates.v - wanted) rates wanted w v ok over loses back (omega arith) high
      ]
      | inl under ↦ elim (cases_lt (w + rates.j + min rates.a (reach_of (wanted - v) rates.j)) v) [
        | inl past ↦ soars n rates.v rates wanted w v ok (omega arith) slow gains tops past high
        | inr back ↦ done_below n rates wanted w v ok (omega arith) gains back lands low
      ]
    ]

pub velocity_by_rates : (rates : JerkRates) (room wanted w v k n m : ℕ) → AreJerkRates rates → IsKeptBy rates room w v → wanted ≤ rates.v →
    rates.a + rates.d ≤ k * rates.j → rates.v - wanted ≤ n * rates.d → wanted ≤ n * rates.a → k + n + 1 ≤ m → velocity_after m rates wanted w v ≡ wanted
velocity_by_rates rates room wanted w v k n zero ok kept slow ramp down up enough = absurd (omega arith)
velocity_by_rates rates room wanted w v k n (suc m) ok kept slow ramp down up enough =
    let more : k * rates.j ≤ (m - n) * rates.j = mul-le k rates.j (m - n) rates.j (omega arith) (omega arith) in
    let same : m - n + n ≡ m = omega arith in
    let above : IsUpWithin m (rates.v - wanted) rates.d rates.j rates.a = rw same at (up_rates (m - n) n (rates.v - wanted) rates.d rates.j rates.a (omega arith) down) in
    let below : IsUpWithin m wanted rates.a rates.j rates.d = rw same at (up_rates (m - n) n wanted rates.a rates.j rates.d (omega arith) up) in
    from_any m rates wanted w v ok slow kept.gains kept.loses kept.lands kept.tops above below

-- a speed above the wanted one, whose fall can be taken back, doesn't fall below it
pub velocity_stays_above : (rates : JerkRates) (wanted w v : ℕ) → AreJerkRates rates → wanted ≤ v → w ≤ v + rates.d → run_of (w - v - rates.j) rates.j ≤ v - wanted →
    wanted ≤ velocity_of rates wanted w v
velocity_stays_above rates wanted w v ok above loses lands =
    let within : w - v - rates.j ≤ reach_of (v - wanted) rates.j = reach_greatest (w - v - rates.j) (v - wanted) rates.j (omega (arith, ok.j_least)) lands in
    (above_next rates wanted w v (velocity_of rates wanted w v) ok above (omega arith) refl).above

-- a gain that isn't greater than the last one less j can be taken back as that one could
tops_next : (V w v x j : ℕ) → 0 < j → v + run_of (v - w - j) j ≤ V → x ≤ v + (v - w - j) → x + run_of (x - v - j) j ≤ V
tops_next V w v x j some tops slower =
    let less : run_of (x - v) j ≤ run_of (v - w - j) j = run_mono (x - v) (v - w - j) j some (omega arith) in
    omega (arith, run_unfold (x - v) j some)

-- the speed of a velocity command is safe by its rates wherever the way to rest after it fits
pub velocity_safe : (rates : JerkRates) (room wanted w v : ℕ) → AreJerkRates rates → IsKeptBy rates room w v → wanted ≤ rates.v →
    velocity_of rates wanted w v + way_of rates.d rates.j v (velocity_of rates wanted w v) ≤ room → IsSafeBy rates room w v (velocity_of rates wanted w v)
velocity_safe rates room wanted w v ok kept slow fits = elim (cases_lt wanted v) [
  | inl more ↦ above (velocity_of rates wanted w v) (velocity_above rates wanted w v ok (omega arith)) (omega arith) fits
  | inr less ↦ below (velocity_of rates wanted w v) (velocity_below rates wanted w v less) less fits
]
  where
    above : (x : ℕ) → x ≡ max (2 * v - (w + rates.j)) (min (2 * v + rates.j - w) (v - min rates.d (reach_of (v - wanted) rates.j))) → wanted ≤ v →
        x + way_of rates.d rates.j v x ≤ room → IsSafeBy rates room w v x
    above x is over enough =
        let some : 0 < rates.j = omega (arith, ok.j_least) in
        let landed : run_of (w - v - rates.j) rates.j ≤ v = kept.lands in
        let small : w - v - rates.j ≤ v = omega (arith, run_ge (w - v - rates.j) rates.j some) in
        let reach : reach_of (v - wanted) rates.j ≤ reach_of v rates.j = reach_mono (v - wanted) v rates.j some (omega arith) in
        let gains : v ≤ w + rates.a = kept.gains in
        let loses : w ≤ v + rates.d = kept.loses in
        let tops : x + run_of (x - v - rates.j) rates.j ≤ rates.v = tops_next rates.v w v x rates.j some kept.tops (omega arith) in
        let lands : run_of (v - x - rates.j) rates.j ≤ x = elim (cases_lt (x + reach_of v rates.j) v) [
          | inl falls ↦ lands_next w v x rates.j some landed (omega arith)
          | inr within ↦ lands_within v x rates.j some within
        ] in
        record {
          bends = omega arith;
          rises = omega arith;
          after = record {
            within = omega arith;
            kept = record { speed = omega arith; gains = omega arith; loses = omega arith; lands = lands; tops = tops; fits = omega arith };
          };
        }

    below : (x : ℕ) → x ≡ max (2 * v - (w + rates.j)) (min (2 * v + rates.j - w) (v + min rates.a (reach_of (wanted - v) rates.j))) → v ≤ wanted →
        x + way_of rates.d rates.j v x ≤ room → IsSafeBy rates room w v x
    below x is under enough =
        let some : 0 < rates.j = omega (arith, ok.j_least) in
        let landed : run_of (w - v - rates.j) rates.j ≤ v = kept.lands in
        let small : w - v - rates.j ≤ v = omega (arith, run_ge (w - v - rates.j) rates.j some) in
        let reach : reach_of (wanted - v) rates.j ≤ reach_of (rates.v - v) rates.j = reach_mono (wanted - v) (rates.v - v) rates.j some (omega arith) in
        let gains : v ≤ w + rates.a = kept.gains in
        let loses : w ≤ v + rates.d = kept.loses in
        let lands : run_of (v - x - rates.j) rates.j ≤ x = lands_next w v x rates.j some landed (omega arith) in
        let tops : x + run_of (x - v - rates.j) rates.j ≤ rates.v = elim (cases_lt (v + reach_of (rates.v - v) rates.j) x) [
          | inl rises ↦ tops_next rates.v w v x rates.j some kept.tops (omega arith)
          | inr within ↦ tops_within rates.v v x rates.j some kept.speed within
        ] in
        record {
          bends = omega arith;
          rises = omega arith;
          after = record {
            within = omega arith;
            kept = record { speed = omega arith; gains = omega arith; loses = omega arith; lands = lands; tops = tops; fits = omega arith };
          };
        }
