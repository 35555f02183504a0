-- Moves arrive within cycles counted by their rates: they speed up at their fastest, go at the
-- greatest speed, turn to a fall as soon as their way slows them, and land.
-- for: moves_arrive
use Rattle.std.proofs.Common.{inl, inr, ◌≡◌, ℕ, ◌+◌, ◌-◌, ◌*◌, ◌<◌, ◌≤◌, zero, suc, min, arith}
use Rattle.std.proofs.lemmas.Bool.{cases_lt}
use Rattle.std.proofs.lemmas.Grind.{div_ceil_times}
use Rattle.std.specs.Int.{div_ceil}
use Rattle.motion_numbers.specs.Run.{reach_of}
use Rattle.jerk_core.specs.declared.rates.JerkRates.{JerkRates}
use Rattle.jerk_core.specs.Braking.{braked_of}
use Rattle.jerk_core.specs.Rates.{AreJerkRates, IsKeptBy}
use Rattle.jerk_core.proofs.Brakes.{reach_within, reach_some}
use Rattle.jerk_core.proofs.KeptMotions.{safe_least, standing_kept}
use Rattle.jerk_core.proofs.Spending.{IsUpWithin, IsDownWithin, up_up, up_down, up_falls, up_start, up_some, up_next, up_rates, down_some, down_next, lower}
use Rattle.jerk_core.proofs.Rests.{Rests, reach_falls, up_rests, down_rests}
use Rattle.jerk_plan.specs.Wanted.{IsMoveSpeed, IsArrivedWithin, move_cycles_of}
use Rattle.jerk_plan.proofs.Units.{stop_arrives}
use Rattle.jerk_plan.proofs.Tight.{slows, some, fastest_of, under_fastest, IsTight, tight_next, tight_tops, past_brake, flat_arrives, BrakesByChange, brakes_by_change, change_below}

-- where a move is once its way has slowed it, or once its change of speed is falling to reach the
-- greatest speed: within n cycles of braking, l of the greatest speed, q of the landing's leftover
data IsPhase (rates : JerkRates) (i q n l m way w v : ℕ) : Type 0 where
  -- slowed by its way, and speeding up by a
  rises : (a : ℕ) → v ≡ w + a → IsTight rates way w v → IsUpWithin n rates.v rates.d i a → way ≤ l * rates.v → n + l + q + 5 ≤ m → IsPhase rates i q n l m way w v
  -- slowed by its way, and slowing by u and 1
  falls : (u : ℕ) → w ≡ v + suc u → IsTight rates way w v → IsDownWithin n rates.d i v (suc u) → n + q + 4 ≤ m → IsPhase rates i q n l m way w v
  -- just below the greatest speed, and speeding up by a and 1, which must fall by j from now on
  tops : (a : ℕ) → v ≡ w + suc a → suc a ≡ reach_of (rates.v - w) rates.j → IsKeptBy rates way w v → IsUpWithin n rates.v rates.d i (suc a) → way ≤ l * rates.v →
      n + l + q + 5 ≤ m → IsPhase rates i q n l m way w v
  -- at the greatest speed
  cruises : w ≡ rates.v → v ≡ rates.v → IsKeptBy rates way w v → IsUpWithin n rates.v rates.d i 0 → way ≤ l * rates.v → n + l + q + 4 ≤ m → IsPhase rates i q n l m way w v

-- what comes after a speed: another phase, or what arrives
data IsNext (rates : JerkRates) (i q m way w v : ℕ) : Type 0 where
  goes_on : (n l : ℕ) → IsPhase rates i q n l m way w v → IsNext rates i q m way w v
  arrives : IsArrivedWithin m rates way w v → IsNext rates i q m way w v

-- a phase has arrived in time, or each speed leaves one that has a cycle less
data IsStep (rates : JerkRates) (i q m way w v : ℕ) : Type 0 where
  done : IsArrivedWithin (suc m) rates way w v → IsStep rates i q m way w v
  steps : ((x : ℕ) → IsMoveSpeed rates way w v x → IsNext rates i q m (way - x) v x) → IsStep rates i q m way w v

-- a speed below the fastest one and the last one falls
slowed : (i q n m : ℕ) (rates : JerkRates) (way w v x a : ℕ) → AreJerkRates rates → IsKeptBy rates way w v → IsMoveSpeed rates way w v x → x < fastest_of rates w v → x < v →
    IsUpWithin n rates.v rates.d i a → n + q + 4 ≤ m → IsNext rates i q m (way - x) v x
slowed i q n m rates way w v x a ok kept move below down spent enough =
    let loses : v ≤ x + rates.d = move.safe.after.kept.loses in
    let slow : v ≤ rates.v = kept.speed in
    let same : suc (v - x - 1) ≡ v - x = omega arith in
    goes_on n 0 (falls (v - x - 1) (omega arith) (tight_next rates way w v x ok kept move below)
    (rw same (up_falls n rates.v rates.d i a x (v - x) (omega arith) (omega arith) spent)) enough)

-- what comes after a speed below the fastest
slowed_again : (i q n l m : ℕ) (rates : JerkRates) (way w v x a : ℕ) → AreJerkRates rates → IsKeptBy rates way w v → IsMoveSpeed rates way w v x → x < fastest_of rates w v →
    way ≤ l * rates.v → IsUpWithin n rates.v rates.d i a → x ≤ v + a → n + l + q + 5 ≤ m → IsNext rates i q m (way - x) v x
slowed_again i q n l m rates way w v x a ok kept move below far spent within enough =
    elim (cases_lt x v) [
      | inr up ↦ goes_on n l (rises (x - v) (omega arith) (tight_next rates way w v x ok kept move below)
          (up_start n rates.v rates.d i (x - v) a (omega arith) spent) (omega arith) enough)
      | inl down ↦ slowed i q n m rates way w v x a ok kept move below down spent (omega arith)
    ]

-- at the fastest speed whose change the greatest speed limits, the next ones are limited so too
topped : (i q n l m : ℕ) (rates : JerkRates) (way w v x : ℕ) → AreJerkRates rates → IsMoveSpeed rates way w v x → x ≡ v + reach_of (rates.v - v) rates.j →
    0 < reach_of (rates.v - v) rates.j → way ≤ l * rates.v → IsUpWithin n rates.v rates.d i (reach_of (rates.v - v) rates.j) → n + l + q + 5 ≤ m →
    IsNext rates i q m (way - x) v x
topped i q n l m rates way w v x ok move is more far spent enough =
    let same : suc (reach_of (rates.v - v) rates.j - 1) ≡ reach_of (rates.v - v) rates.j = omega arith in
    goes_on n l (tops (reach_of (rates.v - v) rates.j - 1) (omega arith) same move.safe.after.kept (rw same spent) (omega arith) enough)

-- and where it is none the greatest speed is reached
cruised : (i q n l m : ℕ) (rates : JerkRates) (way w v x : ℕ) → AreJerkRates rates → IsMoveSpeed rates way w v x → v ≤ rates.v →
    x ≡ v + reach_of (rates.v - v) rates.j → reach_of (rates.v - v) rates.j ≤ 0 → way ≤ l * rates.v → IsUpWithin n rates.v rates.d i 0 → n + l + q + 4 ≤ m →
    IsNext rates i q m (way - x) v x
cruised i q n l m rates way w v x ok move slow is none far spent enough =
    elim (cases_lt v rates.v) [
      | inl less ↦ absurd (let one : 0 < reach_of (rates.v - v) rates.j = reach_some (rates.v - v) rates.j (some rates ok) (omega arith) in omega arith)
      | inr full ↦ goes_on n l (cruises (omega arith) (omega arith) move.safe.after.kept spent (omega arith) enough)
    ]

-- either
reached : (i q n l m : ℕ) (rates : JerkRates) (way w v x : ℕ) → AreJerkRates rates → IsMoveSpeed rates way w v x → v ≤ rates.v →
    x ≡ v + reach_of (rates.v - v) rates.j → way ≤ l * rates.v → IsUpWithin n rates.v rates.d i (reach_of (rates.v - v) rates.j) → n + l + q + 5 ≤ m →
    IsNext rates i q m (way - x) v x
reached i q n l m rates way w v x ok move slow is far spent enough =
    elim (cases_lt 0 (reach_of (rates.v - v) rates.j)) [
      | inl more ↦ topped i q n l m rates way w v x ok move is more far spent enough
      | inr none ↦ cruised i q n l m rates way w v x ok move slow is none far
          (up_start n rates.v rates.d i 0 (reach_of (rates.v - v) rates.j) (omega arith) spent) (omega arith)
    ]

-- the fastest speed where the change falls by i: the one that the greatest speed allows
fastest_tops : (i : ℕ) (rates : JerkRates) (w v x : ℕ) → rates.j ≡ suc i → 0 < i → v ≤ w + rates.a → x ≡ fastest_of rates w v → x + w + i ≡ 2 * v →
    x ≡ v + reach_of (rates.v - v) rates.j
unfolding fastest_of
fastest_tops i rates w v x is least gains fast next = omega arith

-- the speeds of a slowed motion that speeds up by a, while it brakes by its change: the braked one,
-- and the next greater one
turns_up : (i q n l m : ℕ) (rates : JerkRates) (way w v x a : ℕ) → AreJerkRates rates → rates.j ≡ suc i → v ≡ w + a → IsTight rates way w v →
    IsMoveSpeed rates way w v x → IsUpWithin (suc n) rates.v rates.d i a → way ≤ l * rates.v → n + l + q + 5 ≤ m → BrakesByChange rates w v →
    x ≤ suc (braked_of rates.d rates.j w v) → IsNext rates i q m (way - x) v x
turns_up i q n l m rates way w v x a ok is up tight move spent far enough change close =
    let own : braked_of rates.d rates.j w v + w + rates.j ≡ 2 * v = change.own in
    let least : 0 < i = omega (arith, ok.j_least) in
    let lowest : braked_of rates.d rates.j w v ≤ x = safe_least rates.v rates.a rates.d rates.j way w v x (some rates ok) move.safe in
    let loses : v ≤ x + rates.d = move.safe.after.kept.loses in
    let slow : v ≤ rates.v = tight.kept.speed in
    let gains : v ≤ w + rates.a = tight.kept.gains in
    elim (cases_lt x (fastest_of rates w v)) [
      | inl below ↦ elim (cases_lt x v) [
        | inr on ↦ goes_on n l (rises (x - v) (omega arith) (tight_next rates way w v x ok tight.kept move below)
            (up_up n rates.v rates.d i a (x - v) (omega arith) spent) (omega arith) enough)
        | inl down ↦ goes_on n l (falls (v - x - 1) (omega arith) (tight_next rates way w v x ok tight.kept move below)
            (let equal : suc (v - x - 1) ≡ v - x = omega arith in
            rw equal (up_down n rates.v rates.d i a x (v - x) (omega arith) (omega arith) (omega arith) (omega arith) spent)) (omega arith))
      ]
      | inr forced ↦
          let under : braked_of rates.d rates.j w v < fastest_of rates w v = change_below rates way w v ok tight change in
          let fast : x ≤ fastest_of rates w v = under_fastest rates way w v x ok move in
          let top : x ≡ v + reach_of (rates.v - v) rates.j = fastest_tops i rates w v x is least gains (omega arith) (omega arith) in
          let next : IsUpWithin n rates.v rates.d i (reach_of (rates.v - v) rates.j) = up_up n rates.v rates.d i a (reach_of (rates.v - v) rates.j) (omega arith) spent in
          reached i q n l m rates way w v x ok move slow top far next enough
    ]

-- below a falling speed the fastest one is above that of a change by i
fastest_falls : (i : ℕ) (rates : JerkRates) (w v x : ℕ) → rates.j ≡ suc i → 0 < i → v < w → x + i + w ≤ 2 * v → x < fastest_of rates w v
unfolding fastest_of
fastest_falls i rates w v x is least slower next = omega arith

-- the speeds of one that slows by u and 1
turns_down : (i q n m : ℕ) (rates : JerkRates) (way w v x u : ℕ) → AreJerkRates rates → rates.j ≡ suc i → w ≡ v + suc u → IsTight rates way w v →
    IsMoveSpeed rates way w v x → IsDownWithin (suc n) rates.d i v (suc u) → n + q + 4 ≤ m → BrakesByChange rates w v →
    x ≤ suc (braked_of rates.d rates.j w v) → IsNext rates i q m (way - x) v x
turns_down i q n m rates way w v x u ok is down tight move spent enough change close =
    let own : braked_of rates.d rates.j w v + w + rates.j ≡ 2 * v = change.own in
    let least : 0 < i = omega (arith, ok.j_least) in
    let lowest : braked_of rates.d rates.j w v ≤ x = safe_least rates.v rates.a rates.d rates.j way w v x (some rates ok) move.safe in
    let loses : v ≤ x + rates.d = move.safe.after.kept.loses in
    let below : x < fastest_of rates w v = fastest_falls i rates w v x is least (omega arith) (omega arith) in
    let tight_x : IsTight rates (way - x) v x = tight_next rates way w v x ok tight.kept move below in
    elim (cases_lt (braked_of rates.d rates.j w v) x) [
      | inr brakes ↦
          let equal : suc (u + rates.j) ≡ suc u + rates.j = omega arith in
          goes_on n 0 (falls (u + rates.j) (omega arith) tight_x (rw equal (lower n rates.d i rates.j v (suc u) x (omega arith) (omega arith) (omega arith) (omega arith) spent)) enough)
      | inl more ↦
          let equal : suc (u + i) ≡ suc u + i = omega arith in
          goes_on n 0 (falls (u + i) (omega arith) tight_x (rw equal (lower n rates.d i i v (suc u) x (omega arith) (omega arith) (omega arith) (omega arith) spent)) enough)
    ]

-- a slowed motion that speeds up
rising : (i q n l m : ℕ) (rates : JerkRates) (way w v a : ℕ) → AreJerkRates rates → rates.j ≡ suc i → rates.d ≤ q * rates.j → v ≡ w + a → IsTight rates way w v →
    IsUpWithin n rates.v rates.d i a → way ≤ l * rates.v → n + l + q + 5 ≤ suc m → IsStep rates i q m way w v
rising i q zero l m rates way w v a ok is few up tight spent far enough = absurd (up_some rates.v rates.d i a (slows rates ok) spent)
rising i q (suc n) l m rates way w v a ok is few up tight spent far enough =
    let least : 0 < i = omega (arith, ok.j_least) in
    let slow : v ≤ rates.v = tight.kept.speed in
    elim (cases_lt (w + rates.j) (suc v + min rates.d (reach_of v rates.j))) [
      | inr flat ↦
          let rests : Rests (suc (suc n)) rates.d rates.j w v =
          up_rests (suc n) rates.v rates.d i rates.j w v a (slows rates ok) least (omega arith) (omega arith) up tight.kept.tops spent in
          done (flat_arrives (suc m) (suc (suc n)) q rates way w v ok tight few flat rests (omega arith))
      | inl ramps ↦
          let rests : Rests (suc (suc (suc n))) rates.d rates.j w (suc v) =
          up_rests (suc (suc n)) rates.v rates.d i rates.j w (suc v) (suc a) (slows rates ok) least (omega arith) (omega arith) (omega arith)
          (tight_tops rates way w v ok tight (omega arith) slow) (up_next (suc n) rates.v rates.d i a least spent) in
          let change : BrakesByChange rates w v = brakes_by_change rates w v ok (omega arith) in
          let next : braked_of rates.d rates.j w (suc v) ≡ suc (suc (braked_of rates.d rates.j w v)) = change.next in
          steps (λ x move. elim (cases_lt x (braked_of rates.d rates.j w (suc v))) [
            | inr past ↦ arrives (past_brake m (suc (suc n)) rates way w v x ok tight move rests past (omega arith))
            | inl under ↦ turns_up i q n l m rates way w v x a ok is up tight move spent far (omega arith) change (omega arith)
          ])
    ]

-- one that slows
falling : (i q n m : ℕ) (rates : JerkRates) (way w v u : ℕ) → AreJerkRates rates → rates.j ≡ suc i → rates.d ≤ q * rates.j → w ≡ v + suc u → IsTight rates way w v →
    IsDownWithin n rates.d i v (suc u) → n + q + 4 ≤ suc m → IsStep rates i q m way w v
falling i q zero m rates way w v u ok is few down tight spent enough =
    let loses : w ≤ v + rates.d = tight.kept.loses in
    absurd (down_some rates.d i v (suc u) (slows rates ok) (omega arith) spent)
falling i q (suc n) m rates way w v u ok is few down tight spent enough =
    let least : 0 < i = omega (arith, ok.j_least) in
    let loses : w ≤ v + rates.d = tight.kept.loses in
    elim (cases_lt (w + rates.j) (suc v + min rates.d (reach_of v rates.j))) [
      | inr flat ↦
          let rests : Rests (suc (suc n)) rates.d rates.j w v =
          down_rests (suc n) rates.d i rates.j w v (suc u) (slows rates ok) least (omega arith) (omega arith) down (omega arith) spent in
          done (flat_arrives (suc m) (suc (suc n)) q rates way w v ok tight few flat rests (omega arith))
      | inl ramps ↦
          let rests : Rests (suc (suc (suc n))) rates.d rates.j w (suc v) =
          down_rests (suc (suc n)) rates.d i rates.j w (suc v) u (slows rates ok) least (omega arith) (omega arith) (omega arith) (omega arith)
          (down_next (suc n) rates.d i v u (slows rates ok) least spent) in
          let change : BrakesByChange rates w v = brakes_by_change rates w v ok (omega arith) in
          let next : braked_of rates.d rates.j w (suc v) ≡ suc (suc (braked_of rates.d rates.j w v)) = change.next in
          steps (λ x move. elim (cases_lt x (braked_of rates.d rates.j w (suc v))) [
            | inr past ↦ arrives (past_brake m (suc (suc n)) rates way w v x ok tight move rests past (omega arith))
            | inl under ↦ turns_down i q n m rates way w v x u ok is down tight move spent (omega arith) change (omega arith)
          ])
    ]

-- the fastest speed just below the greatest one
fastest_near : (rates : JerkRates) (w v a : ℕ) → v ≡ w + a → a ≤ rates.a → reach_of (rates.v - v) rates.j ≤ a →
    fastest_of rates w v ≡ v + reach_of (rates.v - v) rates.j
unfolding fastest_of
fastest_near rates w v a up gains less = omega arith

-- a motion whose change the greatest speed limits
topping : (i q n l m : ℕ) (rates : JerkRates) (way w v a : ℕ) → AreJerkRates rates → rates.j ≡ suc i → v ≡ w + suc a → suc a ≡ reach_of (rates.v - w) rates.j →
    IsKeptBy rates way w v → IsUpWithin n rates.v rates.d i (suc a) → way ≤ l * rates.v → n + l + q + 5 ≤ suc m → IsStep rates i q m way w v
topping i q zero l m rates way w v a ok is up limits kept spent far enough = absurd (up_some rates.v rates.d i (suc a) (slows rates ok) spent)
topping i q (suc n) l m rates way w v a ok is up limits kept spent far enough =
    let least : 0 < i = omega (arith, ok.j_least) in
    let slow : v ≤ rates.v = kept.speed in
    let gains : v ≤ w + rates.a = kept.gains in
    let left : rates.v - w - reach_of (rates.v - w) rates.j ≡ rates.v - v = omega arith in
    let lower : reach_of (rates.v - w - reach_of (rates.v - w) rates.j) rates.j ≤ reach_of (rates.v - w) rates.j - i = reach_falls (rates.v - w) i rates.j is least in
    let fewer : reach_of (rates.v - v) rates.j ≤ suc a - i = rw (left, ← limits) at lower in
    let fast : fastest_of rates w v ≡ v + reach_of (rates.v - v) rates.j = fastest_near rates w v (suc a) up (omega arith) (omega arith) in
    steps (λ x move.
    let loses : v ≤ x + rates.d = move.safe.after.kept.loses in
    let under : x ≤ fastest_of rates w v = under_fastest rates way w v x ok move in
    elim (cases_lt x (fastest_of rates w v)) [
      | inl below ↦ elim (cases_lt x v) [
        | inr on ↦ goes_on n l (rises (x - v) (omega arith) (tight_next rates way w v x ok kept move below)
            (up_up n rates.v rates.d i (suc a) (x - v) (omega arith) spent) (omega arith) (omega arith))
        | inl down ↦ slowed i q (suc n) m rates way w v x (suc a) ok kept move below down spent (omega arith)
      ]
      | inr top ↦ elim (cases_lt 0 (reach_of (rates.v - v) rates.j)) [
        | inl more ↦ topped i q n l m rates way w v x ok move (omega arith) more far
            (up_up n rates.v rates.d i (suc a) (reach_of (rates.v - v) rates.j) (omega arith) spent) (omega arith)
        | inr none ↦ cruised i q (suc n) l m rates way w v x ok move slow (omega arith) none far
            (up_start (suc n) rates.v rates.d i 0 (suc a) (omega arith) spent) (omega arith)
      ]
    ])

-- the fastest speed at the greatest one
fastest_full : (rates : JerkRates) (w v : ℕ) → AreJerkRates rates → w ≡ rates.v → v ≡ rates.v → fastest_of rates w v ≡ rates.v
unfolding fastest_of
fastest_full rates w v ok last full =
    let none : reach_of (rates.v - v) rates.j ≤ rates.v - v = reach_within (rates.v - v) rates.j (some rates ok) in
    omega arith

-- a motion at the greatest speed
cruising : (i q n l m : ℕ) (rates : JerkRates) (way w v : ℕ) → AreJerkRates rates → w ≡ rates.v → v ≡ rates.v → IsKeptBy rates way w v →
    IsUpWithin n rates.v rates.d i 0 → way ≤ l * rates.v → n + l + q + 4 ≤ suc m → IsStep rates i q m way w v
cruising i q n zero m rates way w v ok last full kept spent far enough = steps (λ x move.
    let within : x ≤ way = move.safe.after.within in
    arrives (stop_arrives m rates (way - x) v x ok (omega arith) (omega arith) (omega arith)))
cruising i q n (suc l) m rates way w v ok last full kept spent far enough =
    let fast : fastest_of rates w v ≡ rates.v = fastest_full rates w v ok last full in
    steps (λ x move.
    let within : x ≤ way = move.safe.after.within in
    let under : x ≤ fastest_of rates w v = under_fastest rates way w v x ok move in
    elim (cases_lt x (fastest_of rates w v)) [
      | inl below ↦ slowed i q n m rates way w v x 0 ok kept move below (omega arith) spent (omega arith)
      | inr top ↦ goes_on n l (cruises full (omega arith) move.safe.after.kept spent (omega arith) (omega arith))
    ])

-- each cycle of a phase
next_phase : (i q n l m : ℕ) (rates : JerkRates) (way w v : ℕ) → AreJerkRates rates → rates.j ≡ suc i → rates.d ≤ q * rates.j → IsPhase rates i q n l (suc m) way w v →
    IsStep rates i q m way w v
next_phase i q n l m rates way w v ok is few (rises a up tight spent far enough) = rising i q n l m rates way w v a ok is few up tight spent far enough
next_phase i q n l m rates way w v ok is few (falls u down tight spent enough) = falling i q n m rates way w v u ok is few down tight spent enough
next_phase i q n l m rates way w v ok is few (tops a up limits kept spent far enough) = topping i q n l m rates way w v a ok is up limits kept spent far enough
next_phase i q n l m rates way w v ok is few (cruises last full kept spent far enough) = cruising i q n l m rates way w v ok last full kept spent far enough

no_phase : (i q n l : ℕ) (rates : JerkRates) (way w v : ℕ) → IsPhase rates i q n l 0 way w v → ⊥
no_phase i q n l rates way w v (rises a up tight spent far enough) = omega arith
no_phase i q n l rates way w v (falls u down tight spent enough) = omega arith
no_phase i q n l rates way w v (tops a up limits kept spent far enough) = omega arith
no_phase i q n l rates way w v (cruises last full kept spent far enough) = omega arith

-- so a phase arrives in time
phase_arrives : (m i q n l : ℕ) (rates : JerkRates) (way w v : ℕ) → AreJerkRates rates → rates.j ≡ suc i → rates.d ≤ q * rates.j → IsPhase rates i q n l m way w v →
    IsArrivedWithin m rates way w v
phase_arrives zero i q n l rates way w v ok is few phase = absurd (no_phase i q n l rates way w v phase)
phase_arrives (suc m) i q n l rates way w v ok is few phase =
    by_step (next_phase i q n l m rates way w v ok is few phase)
    (λ x n l after. phase_arrives m i q n l rates (way - x) v x ok is few after)
  where
    by_next : (x : ℕ) → IsNext rates i q m (way - x) v x →
        ((x n l : ℕ) → IsPhase rates i q n l m (way - x) v x → IsArrivedWithin m rates (way - x) v x) → IsArrivedWithin m rates (way - x) v x
    by_next x (goes_on n l after) later = later x n l after
    by_next x (arrives arrived) later = arrived

    by_step : IsStep rates i q m way w v → ((x n l : ℕ) → IsPhase rates i q n l m (way - x) v x → IsArrivedWithin m rates (way - x) v x) →
        IsArrivedWithin (suc m) rates way w v
    by_step (done arrived) later = arrived
    by_step (steps next) later = inr (λ x move. by_next x (next x move) later)

-- and what comes before one
next_arrives : (m i q : ℕ) (rates : JerkRates) (way w v : ℕ) → AreJerkRates rates → rates.j ≡ suc i → rates.d ≤ q * rates.j → IsNext rates i q m way w v →
    IsArrivedWithin m rates way w v
next_arrives m i q rates way w v ok is few (goes_on n l phase) = phase_arrives m i q n l rates way w v ok is few phase
next_arrives m i q rates way w v ok is few (arrives arrived) = arrived

-- the speed after a fastest one that has changed by a, or that the greatest speed limits
data IsRaised (rates : JerkRates) (w v x : ℕ) : Type 0 where
  by_change : x + w ≡ 2 * v + rates.j → IsRaised rates w v x
  by_gain : x ≡ v + rates.a → rates.a < reach_of (rates.v - v) rates.j → IsRaised rates w v x
  by_top : x ≡ v + reach_of (rates.v - v) rates.j → reach_of (rates.v - v) rates.j ≤ rates.a → IsRaised rates w v x

raised : (rates : JerkRates) (w v x : ℕ) → x ≡ fastest_of rates w v → x + w ≤ 2 * v + rates.j → IsRaised rates w v x
unfolding fastest_of
raised rates w v x is bent =
    elim (cases_lt (v + min rates.a (reach_of (rates.v - v) rates.j)) (2 * v + rates.j - w)) [
      | inr change ↦ by_change (omega arith)
      | inl other ↦ elim (cases_lt rates.a (reach_of (rates.v - v) rates.j)) [
        | inl gain ↦ by_gain (omega arith) gain
        | inr top ↦ by_top (omega arith) top
      ]
    ]

-- the fastest speed is within what the greatest speed allows
fastest_within : (rates : JerkRates) (w v : ℕ) → fastest_of rates w v ≤ v + reach_of (rates.v - v) rates.j
unfolding fastest_of
fastest_within rates w v = omega arith

-- a move that speeds up by a in each cycle
flat_rises : (m g i q n l : ℕ) (rates : JerkRates) (way w v : ℕ) → AreJerkRates rates → rates.j ≡ suc i → rates.d ≤ q * rates.j → IsKeptBy rates way w v →
    rates.a + w ≤ v → rates.v ≤ v + g * rates.a → way ≤ l * rates.v → IsUpWithin n rates.v rates.d i rates.a → g + (n + l + q + 5) ≤ m → IsArrivedWithin m rates way w v
flat_rises zero g i q n l rates way w v ok is few kept up near far spent enough = absurd (omega arith)
flat_rises (suc m) zero i q n l rates way w v ok is few kept up near far spent enough = inr (λ x move.
    let slow : v ≤ rates.v = kept.speed in
    let none : reach_of (rates.v - v) rates.j ≤ rates.v - v = reach_within (rates.v - v) rates.j (some rates ok) in
    let under : x ≤ fastest_of rates w v = under_fastest rates way w v x ok move in
    let within : fastest_of rates w v ≤ v + reach_of (rates.v - v) rates.j = fastest_within rates w v in
    next_arrives m i q rates (way - x) v x ok is few (elim (cases_lt x (fastest_of rates w v)) [
      | inl below ↦ slowed i q n m rates way w v x rates.a ok kept move below (omega arith) spent (omega arith)
      | inr top ↦ by_speed x move slow (omega arith) (raised rates w v x (omega arith) move.safe.rises)
    ]))
  where
    by_speed : (x : ℕ) → IsMoveSpeed rates way w v x → v ≤ rates.v → reach_of (rates.v - v) rates.j ≤ 0 → IsRaised rates w v x → IsNext rates i q m (way - x) v x
    by_speed x move slow none (by_change change) = absurd (omega (arith, move.safe.after.kept.gains, ok.j_least))
    by_speed x move slow none (by_gain gain more) = absurd (omega arith)
    by_speed x move slow none (by_top top less) = cruised i q n l m rates way w v x ok move slow top none far
        (up_start n rates.v rates.d i 0 rates.a (omega arith) spent) (omega arith)
flat_rises (suc m) (suc g) i q n l rates way w v ok is few kept up near far spent enough = inr (λ x move.
    let gains : x ≤ v + rates.a = move.safe.after.kept.gains in
    let slow : v ≤ rates.v = kept.speed in
    let under : x ≤ fastest_of rates w v = under_fastest rates way w v x ok move in
    elim (cases_lt x (fastest_of rates w v)) [
      | inl below ↦ next_arrives m i q rates (way - x) v x ok is few
          (slowed_again i q n l m rates way w v x rates.a ok kept move below far spent gains (omega arith))
      | inr top ↦ by_speed x move slow (raised rates w v x (omega arith) move.safe.rises)
          (λ up near. flat_rises m g i q n l rates (way - x) v x ok is few move.safe.after.kept up near (omega arith) spent (omega arith))
    ])
  where
    by_speed : (x : ℕ) → IsMoveSpeed rates way w v x → v ≤ rates.v → IsRaised rates w v x →
        (rates.a + v ≤ x → rates.v ≤ x + g * rates.a → IsArrivedWithin m rates (way - x) v x) → IsArrivedWithin m rates (way - x) v x
    by_speed x move slow (by_change change) later = absurd (omega (arith, move.safe.after.kept.gains, ok.j_least))
    by_speed x move slow (by_top top less) later = next_arrives m i q rates (way - x) v x ok is few
        (reached i q n l m rates way w v x ok move slow top far
        (up_start n rates.v rates.d i (reach_of (rates.v - v) rates.j) rates.a less spent) (omega arith))
    by_speed x move slow (by_gain gain more) later = later (omega arith) (omega arith)

-- and one whose gain still rises
pub ramp_rises : (m k g i q n l : ℕ) (rates : JerkRates) (way w v : ℕ) → AreJerkRates rates → rates.j ≡ suc i → rates.d ≤ q * rates.j → IsKeptBy rates way w v →
    rates.a + w ≤ v + k * rates.j → rates.v ≤ g * rates.a → way ≤ l * rates.v → IsUpWithin n rates.v rates.d i rates.a → k + g + (n + l + q + 5) ≤ m →
    IsArrivedWithin m rates way w v
ramp_rises m zero g i q n l rates way w v ok is few kept up near far spent enough =
    flat_rises m g i q n l rates way w v ok is few kept (omega arith) (omega arith) far spent (omega arith)
ramp_rises zero (suc k) g i q n l rates way w v ok is few kept up near far spent enough = absurd (omega arith)
ramp_rises (suc m) (suc k) g i q n l rates way w v ok is few kept up near far spent enough = inr (λ x move.
    let gains : x ≤ v + rates.a = move.safe.after.kept.gains in
    let slow : v ≤ rates.v = kept.speed in
    let under : x ≤ fastest_of rates w v = under_fastest rates way w v x ok move in
    elim (cases_lt x (fastest_of rates w v)) [
      | inl below ↦ next_arrives m i q rates (way - x) v x ok is few
          (slowed_again i q n l m rates way w v x rates.a ok kept move below far spent gains (omega arith))
      | inr top ↦ by_speed x move slow (raised rates w v x (omega arith) move.safe.rises)
          (λ up. ramp_rises m k g i q n l rates (way - x) v x ok is few move.safe.after.kept up near (omega arith) spent (omega arith))
    ])
  where
    by_speed : (x : ℕ) → IsMoveSpeed rates way w v x → v ≤ rates.v → IsRaised rates w v x →
        (rates.a + v ≤ x + k * rates.j → IsArrivedWithin m rates (way - x) v x) → IsArrivedWithin m rates (way - x) v x
    by_speed x move slow (by_change change) later = later (omega arith)
    by_speed x move slow (by_top top less) later = next_arrives m i q rates (way - x) v x ok is few
        (reached i q n l m rates way w v x ok move slow top far
        (up_start n rates.v rates.d i (reach_of (rates.v - v) rates.j) rates.a less spent) (omega arith))
    by_speed x move slow (by_gain gain more) later =
        flat_rises m g i q n l rates (way - x) v x ok is few move.safe.after.kept (omega arith) (omega arith) (omega arith) spent (omega arith)

-- so a move arrives within cycles that its rates count
pub arrives_by_rates : (rates : JerkRates) (way w v l k g p n q : ℕ) → AreJerkRates rates → IsKeptBy rates way w v →
    way ≤ l * rates.v → rates.a + w ≤ v + k * rates.j → rates.v ≤ g * rates.a → rates.a + rates.d ≤ p * (rates.j - 1) → rates.v ≤ n * rates.d → rates.d ≤ q * rates.j →
    IsArrivedWithin (l + k + g + p + n + q + 5) rates way w v
arrives_by_rates rates way w v l k g p n q ok kept far up near ramp flat few =
    ramp_rises (l + k + g + p + n + q + 5) k g (rates.j - 1) q (p + n) l rates way w v ok (omega (arith, ok.j_least)) few kept up near far
    (up_rates p n rates.v rates.d (rates.j - 1) rates.a ramp flat) (omega arith)

-- and from rest within those that the quotients count, each rounded up
pub arrives_from_rest : (rates : JerkRates) (way : ℕ) → AreJerkRates rates → IsArrivedWithin (move_cycles_of rates way) rates way 0 0
unfolding move_cycles_of
arrives_from_rest rates way ok =
    let speed : 0 < rates.v = omega (arith, ok.v_least) in
    let gain : 0 < rates.a = omega (arith, ok.a_least) in
    let loss : 0 < rates.d = omega (arith, ok.d_least) in
    let change : 0 < rates.j = omega (arith, ok.j_least) in
    let less : 0 < rates.j - 1 = omega (arith, ok.j_least) in
    arrives_by_rates rates way 0 0 (div_ceil way rates.v) (div_ceil rates.a rates.j) (div_ceil rates.v rates.a) (div_ceil (rates.a + rates.d) (rates.j - 1))
    (div_ceil rates.v rates.d) (div_ceil rates.d rates.j) ok (standing_kept rates.v rates.a rates.d rates.j way loss change)
    ((div_ceil_times way rates.v speed).0) (let up : rates.a ≤ div_ceil rates.a rates.j * rates.j = (div_ceil_times rates.a rates.j change).0 in omega arith)
    ((div_ceil_times rates.v rates.a gain).0) ((div_ceil_times (rates.a + rates.d) (rates.j - 1) less).0)
    ((div_ceil_times rates.v rates.d loss).0) ((div_ceil_times rates.d rates.j change).0)
