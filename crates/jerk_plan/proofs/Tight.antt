-- A move that has been slowed by its way is near to braking: it brakes, or goes faster by 1, and
-- what is left over at its landing is few units.
-- for: moves_arrive
use Rattle.std.proofs.Common.{inl, inr, ◌≡◌, ℕ, ◌+◌, ◌-◌, ◌*◌, ◌<◌, ◌≤◌, zero, suc, min, arith, refl}
use Rattle.std.proofs.lemmas.Bool.{cases_lt}
use Rattle.motion_numbers.specs.Run.{run_of, reach_of}
use Rattle.motion_numbers.proofs.Runs.{run_unfold}
use Rattle.motion_numbers.proofs.Reaches.{reach_greatest, fits_below_reach}
use Rattle.jerk_core.specs.declared.rates.JerkRates.{JerkRates}
use Rattle.jerk_core.specs.Braking.{braked_of, way_of}
use Rattle.jerk_core.specs.Rates.{AreJerkRates, IsKeptBy, IsLeftBy, IsSafeBy}
use Rattle.jerk_core.proofs.Brakes.{braked_least, reach_within, reach_mono, reach_some}
use Rattle.jerk_core.proofs.Ways.{way_unfold, way_zero, way_below, IsBelow}
use Rattle.jerk_core.proofs.Ways.IsBelow.{by_speeds}
use Rattle.jerk_core.proofs.KeptMotions.{braked_safe, safe_least, kept_after}
use Rattle.jerk_core.proofs.SafeSpeeds.{between_safe, below_fastest}
use Rattle.jerk_core.proofs.Rests.{Rests, rests_above, rests_below, rests_faster, way_faster, landing_rests}
use Rattle.jerk_plan.specs.Wanted.{IsMoveSpeed, IsArrivedWithin}
use Rattle.jerk_plan.proofs.Units.{stand_arrives, stop_arrives, way_one}

-- positive rates
pub slows : (rates : JerkRates) → AreJerkRates rates → 0 < rates.d
slows rates ok = omega (arith, ok.d_least)

pub some : (rates : JerkRates) → AreJerkRates rates → 0 < rates.j
some rates ok = omega (arith, ok.j_least)

-- a move whose way is longer than its way to rest by s arrives within its cycles of braking, one for
-- each unit of s, and three
pub rest_arrives : (m n s : ℕ) (rates : JerkRates) (way w v : ℕ) → AreJerkRates rates → Rests n rates.d rates.j w v →
    way ≤ way_of rates.d rates.j w v + s → n + s + 3 ≤ m → IsArrivedWithin m rates way w v
rest_arrives zero n s rates way w v ok rests left enough = absurd (omega arith)
rest_arrives (suc m) zero s rates way w v ok rests left enough =
    stand_arrives (suc m) rates way w v ok rests
    (let none : way_of rates.d rates.j w v ≡ 0 = rw rests (way_zero rates.d rates.j w (slows rates ok) (some rates ok)) in omega arith)
rest_arrives (suc m) (suc n) s rates way w v ok rests left enough = inr (λ x move.
    let least : braked_of rates.d rates.j w v ≤ x = safe_least rates.v rates.a rates.d rates.j way w v x (some rates ok) move.safe in
    let below : way_of rates.d rates.j v (braked_of rates.d rates.j w v) ≤ way_of rates.d rates.j v x =
    way_below rates.d rates.j v (braked_of rates.d rates.j w v) v x (slows rates ok) (some rates ok) (by_speeds least (omega arith)) in
    let fits : way_of rates.d rates.j v x ≤ way - x = move.safe.after.kept.fits in
    let within : x ≤ way = move.safe.after.within in
    elim (cases_lt (braked_of rates.d rates.j w v) x) [
      | inr brakes ↦
          let same : braked_of rates.d rates.j w v ≡ x = omega arith in
          let more : way - braked_of rates.d rates.j w v ≤ way_of rates.d rates.j v (braked_of rates.d rates.j w v) + s =
          omega (arith, way_unfold rates.d rates.j w v (slows rates ok) (some rates ok)) in
          let down : Rests n rates.d rates.j v x = rw same at rests in
          let within_x : way - x ≤ way_of rates.d rates.j v x + s = rw same at more in
          rest_arrives m n s rates (way - x) v x ok down within_x (omega arith)
      | inl more ↦
          rest_arrives m (n + suc (way_of rates.d rates.j v x - way_of rates.d rates.j v (braked_of rates.d rates.j w v))) (way - x - way_of rates.d rates.j v x)
          rates (way - x) v x ok
          (rests_above n (way_of rates.d rates.j v x - way_of rates.d rates.j v (braked_of rates.d rates.j w v)) rates.d rates.j v (braked_of rates.d rates.j w v) v x
          (slows rates ok) (some rates ok) (by_speeds least (omega arith)) (omega arith) rests)
          (omega arith) (omega (arith, way_unfold rates.d rates.j w v (slows rates ok) (some rates ok)))
    ])

-- and one whose way is no longer than its way to rest, within one more than those cycles
pub exact_arrives : (m n : ℕ) (rates : JerkRates) (way w v : ℕ) → AreJerkRates rates → Rests n rates.d rates.j w v →
    way ≤ way_of rates.d rates.j w v → suc n ≤ m → IsArrivedWithin m rates way w v
exact_arrives zero n rates way w v ok rests left enough = absurd (omega arith)
exact_arrives (suc m) zero rates way w v ok rests left enough =
    stop_arrives (suc m) rates way w v ok rests
    (let none : way_of rates.d rates.j w v ≡ 0 = rw rests (way_zero rates.d rates.j w (slows rates ok) (some rates ok)) in omega arith) (omega arith)
exact_arrives (suc m) (suc n) rates way w v ok rests left enough = inr (λ x move.
    let least : braked_of rates.d rates.j w v ≤ x = safe_least rates.v rates.a rates.d rates.j way w v x (some rates ok) move.safe in
    let below : way_of rates.d rates.j v (braked_of rates.d rates.j w v) ≤ way_of rates.d rates.j v x =
    way_below rates.d rates.j v (braked_of rates.d rates.j w v) v x (slows rates ok) (some rates ok) (by_speeds least (omega arith)) in
    let fits : way_of rates.d rates.j v x ≤ way - x = move.safe.after.kept.fits in
    let within : x ≤ way = move.safe.after.within in
    let unfolds : way_of rates.d rates.j w v ≡ braked_of rates.d rates.j w v + way_of rates.d rates.j v (braked_of rates.d rates.j w v) =
    way_unfold rates.d rates.j w v (slows rates ok) (some rates ok) in
    let same : braked_of rates.d rates.j w v ≡ x = omega arith in
    let down : Rests n rates.d rates.j v x = rw same at rests in
    exact_arrives m n rates (way - x) v x ok down (omega arith) (omega arith))

-- the fastest speed that may follow
unfoldable pub fastest_of : JerkRates → ℕ → ℕ → ℕ
fastest_of rates w v = min (2 * v + rates.j - w) (v + min rates.a (reach_of (rates.v - v) rates.j))

-- below the fastest one a move's next speed is one whose way is too long
next_too_far : (rates : JerkRates) (way w v x : ℕ) → AreJerkRates rates → IsKeptBy rates way w v → IsMoveSpeed rates way w v x → x < fastest_of rates w v →
    way - x ≤ way_of rates.d rates.j v (suc x)
unfolding fastest_of
next_too_far rates way w v x ok kept move below =
    elim (cases_lt (way_of rates.d rates.j v (suc x)) (way - x)) [
      | inr far ↦ far
      | inl fits ↦ absurd (
          let least : braked_of rates.d rates.j w v ≤ x = safe_least rates.v rates.a rates.d rates.j way w v x (some rates ok) move.safe in
          let brakes : IsSafeBy rates way w v (braked_of rates.d rates.j w v) =
          braked_safe rates.v rates.a rates.d rates.j way w v (slows rates ok) (some rates ok) kept in
          let slow : v ≤ rates.v = kept.speed in
          let left : IsLeftBy rates way v (suc x) =
          kept_after rates.v rates.a rates.d rates.j way v (braked_of rates.d rates.j w v) (suc x) (slows rates ok) (some rates ok) slow
          (omega arith) (omega arith) (omega arith) brakes.after (omega arith) (omega arith) in
          let safe : IsSafeBy rates way w v (suc x) =
          between_safe rates way w v (braked_of rates.d rates.j w v) (suc x) (fastest_of rates w v) ok kept refl refl (omega arith) (omega arith) left in
          let most : suc x ≤ x = move.greatest (suc x) safe in
          omega arith)
    ]

-- and never above it
pub under_fastest : (rates : JerkRates) (way w v x : ℕ) → AreJerkRates rates → IsMoveSpeed rates way w v x → x ≤ fastest_of rates w v
unfolding fastest_of
under_fastest rates way w v x ok move = below_fastest rates way w v (fastest_of rates w v) x ok refl move.safe

-- a kept motion that was just slowed by its way: with a speed greater by 1 its way to rest would be
-- too long, though the greatest speed allows it
pub record IsTight (rates : JerkRates) (way w v : ℕ) : Type 0 where
  pub kept : IsKeptBy rates way w v
  pub near : way ≤ way_of rates.d rates.j w (suc v)
  pub below : suc v ≤ w + reach_of (rates.v - w) rates.j

-- below the fastest is below what the greatest speed allows
below_reach : (rates : JerkRates) (w v x : ℕ) → x < fastest_of rates w v → suc x ≤ v + reach_of (rates.v - v) rates.j
unfolding fastest_of
below_reach rates w v x below = omega arith

-- a move's speed below the fastest leaves such a motion
pub tight_next : (rates : JerkRates) (way w v x : ℕ) → AreJerkRates rates → IsKeptBy rates way w v → IsMoveSpeed rates way w v x → x < fastest_of rates w v →
    IsTight rates (way - x) v x
tight_next rates way w v x ok kept move below = record {
  kept = move.safe.after.kept;
  near = next_too_far rates way w v x ok kept move below;
  below = below_reach rates w v x below;
}

-- the motion faster by 1 keeps the greatest speed too
pub tight_tops : (rates : JerkRates) (way w v : ℕ) → AreJerkRates rates → IsTight rates way w v → w ≤ v → v ≤ rates.v →
    suc v + run_of (suc v - w - rates.j) rates.j ≤ rates.v
tight_tops rates way w v ok tight rises slow =
    let fits : run_of (suc v - w) rates.j ≤ rates.v - w =
    fits_below_reach (suc v - w) (rates.v - w) rates.j (some rates ok) (omega (arith, tight.below)) in
    let unfolds : run_of (suc v - w) rates.j ≡ (suc v - w) + run_of (suc v - w - rates.j) rates.j = run_unfold (suc v - w) rates.j (some rates ok) in
    omega arith

-- a tight motion that stands is at its target
pub tight_stands : (m : ℕ) (rates : JerkRates) (way w v : ℕ) → AreJerkRates rates → IsTight rates way w v → v ≡ 0 → 1 ≤ m → IsArrivedWithin m rates way w v
tight_stands m rates way w v ok tight still enough =
    let one : way_of rates.d rates.j w 1 ≡ 0 = way_one rates.d rates.j w (slows rates ok) (omega (arith, ok.j_least)) in
    let faster : suc v ≡ 1 = omega arith in
    let near : way ≤ way_of rates.d rates.j w 1 = rw faster at tight.near in
    stop_arrives m rates way w v ok still (omega arith) enough

-- a speed that is not below the braked one of the motion faster by 1 leaves no more than its way to
-- rest
pub past_brake : (m n : ℕ) (rates : JerkRates) (way w v x : ℕ) → AreJerkRates rates → IsTight rates way w v → IsMoveSpeed rates way w v x →
    Rests (suc n) rates.d rates.j w (suc v) → braked_of rates.d rates.j w (suc v) ≤ x → n + 2 ≤ m → IsArrivedWithin m rates (way - x) v x
past_brake m n rates way w v x ok tight move rests past enough =
    let near : way ≤ way_of rates.d rates.j w (suc v) = tight.near in
    let unfolds : way_of rates.d rates.j w (suc v) ≡ braked_of rates.d rates.j w (suc v) + way_of rates.d rates.j (suc v) (braked_of rates.d rates.j w (suc v)) =
    way_unfold rates.d rates.j w (suc v) (slows rates ok) (some rates ok) in
    let under : IsBelow rates.d rates.j (suc v) (braked_of rates.d rates.j w (suc v)) v x = by_speeds past (omega arith) in
    let below : way_of rates.d rates.j (suc v) (braked_of rates.d rates.j w (suc v)) ≤ way_of rates.d rates.j v x =
    way_below rates.d rates.j (suc v) (braked_of rates.d rates.j w (suc v)) v x (slows rates ok) (some rates ok) under in
    let fits : way_of rates.d rates.j v x ≤ way - x = move.safe.after.kept.fits in
    let within : x ≤ way = move.safe.after.within in
    let down : Rests (n + 1) rates.d rates.j v x =
    rests_above n 0 rates.d rates.j (suc v) (braked_of rates.d rates.j w (suc v)) v x (slows rates ok) (some rates ok) under (omega arith) rests in
    exact_arrives m (n + 1) rates (way - x) v x ok down (omega arith) (omega arith)

-- the next fall is by d or the landing's, and less than the last change allows
abbrev pub Falls : JerkRates → ℕ → ℕ → Type 0
Falls rates w v = suc v + min rates.d (reach_of v rates.j) ≤ w + rates.j

-- the braked speed where it is so
braked_falls : (d j w v : ℕ) → 0 < j → v + min d (reach_of v j) ≤ w + j → braked_of d j w v + min d (reach_of v j) ≡ v
unfolding braked_of
braked_falls d j w v some falls = omega (arith, reach_within v j some)

-- and of the motion faster by 1
braked_close : (rates : JerkRates) (w v : ℕ) → AreJerkRates rates → Falls rates w v →
    braked_of rates.d rates.j w (suc v) ≤ suc (braked_of rates.d rates.j w v)
braked_close rates w v ok falls =
    let own : braked_of rates.d rates.j w v + min rates.d (reach_of v rates.j) ≡ v = braked_falls rates.d rates.j w v (some rates ok) (omega arith) in
    let more : reach_of v rates.j ≤ reach_of (suc v) rates.j = reach_mono v (suc v) rates.j (some rates ok) (omega arith) in
    braked_least rates.d rates.j w (suc v) (suc (braked_of rates.d rates.j w v)) (record { loses = omega arith; bends = omega arith; lands = omega arith })

-- and it is so after a fall
falls_on : (rates : JerkRates) (w v x : ℕ) → AreJerkRates rates → 0 < v → Falls rates w v → x ≡ braked_of rates.d rates.j w v → Falls rates v x
falls_on rates w v x ok moves falls is =
    let own : braked_of rates.d rates.j w v + min rates.d (reach_of v rates.j) ≡ v = braked_falls rates.d rates.j w v (some rates ok) (omega arith) in
    let fall : 0 < reach_of v rates.j = reach_some v rates.j (some rates ok) moves in
    let slow : 0 < rates.d = slows rates ok in
    let least : 0 < rates.j = some rates ok in
    let less : reach_of x rates.j ≤ reach_of v rates.j = reach_mono x v rates.j (some rates ok) (omega arith) in
    omega arith

-- the motion faster by 1 rests within one cycle more there
falls_faster : (n : ℕ) (rates : JerkRates) (w v : ℕ) → AreJerkRates rates → Falls rates w v → Rests (suc n) rates.d rates.j w v →
    Rests (suc (suc n)) rates.d rates.j w (suc v)
falls_faster n rates w v ok falls rests =
    let close : braked_of rates.d rates.j w (suc v) ≤ suc (braked_of rates.d rates.j w v) = braked_close rates w v ok falls in
    let faster : Rests (suc n) rates.d rates.j (suc v) (suc (braked_of rates.d rates.j w v)) =
    rests_faster n rates.d rates.j v (braked_of rates.d rates.j w v) (slows rates ok) (omega (arith, ok.j_least)) rests in
    rests_below (suc n) rates.d rates.j (suc v) (braked_of rates.d rates.j w (suc v)) (suc v) (suc (braked_of rates.d rates.j w v)) (some rates ok)
    (by_speeds close (omega arith)) faster

-- where the fastest speed is the braked one, the landing is the way left over
forced_arrives : (m n q : ℕ) (rates : JerkRates) (way w v x : ℕ) → AreJerkRates rates → IsTight rates way w v → rates.d ≤ q * rates.j → Falls rates w v → 0 < v →
    Rests n rates.d rates.j v x → x ≡ braked_of rates.d rates.j w v → braked_of rates.d rates.j w (suc v) ≡ suc x → x ≤ way → fastest_of rates w v ≤ x →
    n + q + 3 ≤ m → IsArrivedWithin m rates (way - x) v x
unfolding fastest_of
forced_arrives m n zero rates way w v x ok tight few falls moves rests is next within fast enough = absurd (omega (arith, ok.d_least))
forced_arrives m n (suc q) rates way w v x ok tight few falls moves rests is next within fast enough =
    let own : braked_of rates.d rates.j w v + min rates.d (reach_of v rates.j) ≡ v = braked_falls rates.d rates.j w v (some rates ok) (omega arith) in
    let fall : 0 < reach_of v rates.j = reach_some v rates.j (some rates ok) moves in
    let slow : 0 < rates.d = slows rates ok in
    let least : 0 < rates.j = some rates ok in
    let loses : w ≤ v + rates.d = tight.kept.loses in
    let fewer : reach_of (suc x) rates.j ≤ reach_of v rates.j = reach_mono (suc x) v rates.j (some rates ok) (omega arith) in
    let lands : Rests (suc q) rates.d rates.j (suc v) (suc x) =
    landing_rests q rates.d rates.j (suc v) (suc x) (some rates ok) (omega arith) (omega arith) (omega arith) in
    let longer : way_of rates.d rates.j (suc v) (suc x) ≤ way_of rates.d rates.j v x + q = way_faster q rates.d rates.j v x (slows rates ok) (some rates ok) lands in
    let near : way ≤ way_of rates.d rates.j w (suc v) = tight.near in
    let unfolds : way_of rates.d rates.j w (suc v) ≡ suc x + way_of rates.d rates.j (suc v) (suc x) =
    rw next at (way_unfold rates.d rates.j w (suc v) (slows rates ok) (some rates ok)) in
    rest_arrives m n (suc q) rates (way - x) v x ok rests (omega arith) (omega arith)

-- from a tight motion that falls by d or lands
pub flat_arrives : (m n q : ℕ) (rates : JerkRates) (way w v : ℕ) → AreJerkRates rates → IsTight rates way w v → rates.d ≤ q * rates.j → Falls rates w v →
    Rests n rates.d rates.j w v → n + q + 3 ≤ m → IsArrivedWithin m rates way w v
flat_arrives zero n q rates way w v ok tight few falls rests enough = absurd (omega arith)
flat_arrives (suc m) zero q rates way w v ok tight few falls rests enough = tight_stands (suc m) rates way w v ok tight rests (omega arith)
flat_arrives (suc m) (suc n) q rates way w v ok tight few falls rests enough =
    elim (cases_lt 0 v) [
      | inr stands ↦ tight_stands (suc m) rates way w v ok tight (omega arith) (omega arith)
      | inl moves ↦ inr (λ x move. elim (cases_lt x (braked_of rates.d rates.j w (suc v))) [
        | inr past ↦ past_brake m (suc n) rates way w v x ok tight move (falls_faster n rates w v ok falls rests) past (omega arith)
        | inl under ↦
            let least : braked_of rates.d rates.j w v ≤ x = safe_least rates.v rates.a rates.d rates.j way w v x (some rates ok) move.safe in
            let close : braked_of rates.d rates.j w (suc v) ≤ suc (braked_of rates.d rates.j w v) = braked_close rates w v ok falls in
            let is : x ≡ braked_of rates.d rates.j w v = omega arith in
            let brakes : braked_of rates.d rates.j w v ≡ x = omega arith in
            let down : Rests n rates.d rates.j v x = rw brakes at rests in
            elim (cases_lt x (fastest_of rates w v)) [
              | inl below ↦ flat_arrives m n q rates (way - x) v x ok (tight_next rates way w v x ok tight.kept move below) few
                  (falls_on rates w v x ok moves falls is) down (omega arith)
              | inr forced ↦ forced_arrives m n q rates way w v x ok tight few falls moves down is (omega arith) move.safe.after.within forced (omega arith)
            ]
      ])
    ]

-- where the motion brakes by its change
pub record BrakesByChange (rates : JerkRates) (w v : ℕ) : Type 0 where
  pub own : braked_of rates.d rates.j w v + w + rates.j ≡ 2 * v
  pub next : braked_of rates.d rates.j w (suc v) ≡ suc (suc (braked_of rates.d rates.j w v))

pub brakes_by_change : (rates : JerkRates) (w v : ℕ) → AreJerkRates rates → w + rates.j ≤ v + min rates.d (reach_of v rates.j) → BrakesByChange rates w v
unfolding braked_of
brakes_by_change rates w v ok ramps =
    let more : reach_of v rates.j ≤ reach_of (suc v) rates.j = reach_mono v (suc v) rates.j (some rates ok) (omega arith) in
    let within : reach_of v rates.j ≤ v = reach_within v rates.j (some rates ok) in
    record {
      own = omega arith;
      next = omega arith;
    }

-- there the fastest speed is above the braked one, where the last one was below the fastest
pub change_below : (rates : JerkRates) (way w v : ℕ) → AreJerkRates rates → IsTight rates way w v → BrakesByChange rates w v →
    braked_of rates.d rates.j w v < fastest_of rates w v
unfolding fastest_of
change_below rates way w v ok tight change =
    let own : braked_of rates.d rates.j w v + w + rates.j ≡ 2 * v = change.own in
    let gains : v ≤ w + rates.a = tight.kept.gains in
    let slow : v ≤ rates.v = tight.kept.speed in
    let least : 2 ≤ rates.j = ok.j_least in
    let fits : run_of (suc v - w) rates.j ≤ rates.v - w = fits_below_reach (suc v - w) (rates.v - w) rates.j (some rates ok) (omega (arith, tight.below)) in
    let unfolds : run_of (suc v - w) rates.j ≡ (suc v - w) + run_of (suc v - w - rates.j) rates.j = run_unfold (suc v - w) rates.j (some rates ok) in
    let reach : suc v - w - rates.j ≤ reach_of (rates.v - v) rates.j =
    reach_greatest (suc v - w - rates.j) (rates.v - v) rates.j (some rates ok) (omega arith) in
    elim (cases_lt v rates.v) [
      | inl slower ↦ let one : 0 < reach_of (rates.v - v) rates.j = reach_some (rates.v - v) rates.j (some rates ok) (omega arith) in omega arith
      | inr top ↦ omega arith
    ]
