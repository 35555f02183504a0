-- The nearest safe step, counted in the direction of the motion.
-- for: greatest_back, nearest_ahead
use Rattle.std.proofs.Common.{inl, inr, ◌≡◌, ◌⊎◌, ℕ, ◌+◌, ◌-◌, ◌≤◌, ℤ, pos, neg_ℤ, ◌-ℤ◌, ◌≤ℤ◌, unsigned_abs, min, max, arith}
use Rattle.std.proofs.lemmas.Int.{ints, by_lt_z}
use Rattle.std.proofs.lemmas.Bool.{cases_lt}
use Rattle.motion_numbers.specs.Run.{reach_of}
use Rattle.jerk_core.specs.declared.rates.JerkRates.{JerkRates}
use Rattle.jerk_core.specs.declared.motions.Motion.{Motion}
use Rattle.jerk_core.specs.Braking.{braked_of}
use Rattle.jerk_core.specs.Rates.{AreJerkRates, IsKeptBy, IsLeftBy, IsSafeBy}
use Rattle.jerk_core.specs.Taken.{IsSafeFrom}
use Rattle.jerk_core.specs.Taken.IsSafeFrom.{goes_on, turns}
use Rattle.jerk_core.proofs.Brakes.{braked_zero}
use Rattle.jerk_core.proofs.KeptMotions.{safe_least, safe_between, standing_kept, kept_between, within_tops}

-- the greatest safe speed g up to m is no farther from m than any other safe speed x
nearest_speed : (rates : JerkRates) (room w v m g x : ℕ) → AreJerkRates rates → IsKeptBy rates room w v → IsSafeBy rates room w v g →
    ((y : ℕ) → IsSafeBy rates room w v y → y ≤ m → y ≤ g) → g ≤ max m (braked_of rates.d rates.j w v) → IsSafeBy rates room w v x →
    (g ≡ x) ⊎ (((x ≤ g) × (g ≤ m)) ⊎ ((m ≤ g) × (g ≤ x)))
nearest_speed rates room w v m g x ok kept safe greatest within other =
    let least : braked_of rates.d rates.j w v ≤ x = safe_least rates.v rates.a rates.d rates.j room w v x (omega (arith, ok.j_least)) other in
    let own : braked_of rates.d rates.j w v ≤ g = safe_least rates.v rates.a rates.d rates.j room w v g (omega (arith, ok.j_least)) safe in
    elim (cases_lt m x) [
      | inr below ↦ let under : x ≤ g = greatest x other below in inr (inl (under, omega arith))
      | inl above ↦ elim (cases_lt m g) [
        | inl over ↦ inr (inr (omega arith, omega arith))
        | inr under ↦ let there : IsSafeBy rates room w v m =
            safe_between rates.v rates.a rates.d rates.j room w v m x (omega (arith, ok.d_least)) (omega (arith, ok.j_least)) kept (omega arith) (omega arith) other in
            let most : m ≤ g = greatest m there (omega arith) in
            inr (inr (most, omega arith))
      ]
    ]

-- so of the steps ahead none is nearer
nearer_speed : (wanted : ℤ) (m g x : ℕ) → (pos 0 ≤ℤ wanted → wanted ≡ pos m) → (wanted ≤ℤ pos 0 → m ≡ 0) →
    (g ≡ x) ⊎ (((x ≤ g) × (g ≤ m)) ⊎ ((m ≤ g) × (g ≤ x))) → unsigned_abs (pos g -ℤ wanted) ≤ unsigned_abs (pos x -ℤ wanted)
nearer_speed wanted m g x up down (inl same) = omega (arith, ints)
nearer_speed wanted m g x up down (inr (inr over)) =
    by_lt_z wanted (pos 0)
    (λ less. let low : m ≤ g = over.0 in let high : g ≤ x = over.1 in omega (arith, ints))
    (λ more. let is : wanted ≡ pos m = up more in let low : m ≤ g = over.0 in let high : g ≤ x = over.1 in omega (arith, ints))
nearer_speed wanted m g x up down (inr (inl under)) =
    by_lt_z wanted (pos 0)
    (λ less. let none : m ≡ 0 = down (omega (arith, ints)) in let low : x ≤ g = under.0 in let high : g ≤ m = under.1 in omega (arith, ints))
    (λ more. let is : wanted ≡ pos m = up more in let low : x ≤ g = under.0 in let high : g ≤ m = under.1 in omega (arith, ints))

-- going on, no safe step is nearer than the greatest safe speed up to the wanted one
pub nearest_on : (rates : JerkRates) (motion : Motion) (wanted : ℤ) (m g : ℕ) → AreJerkRates rates →
    IsKeptBy rates motion.ahead motion.last motion.speed → (pos 0 ≤ℤ wanted → wanted ≡ pos m) → (wanted ≤ℤ pos 0 → m ≡ 0) →
    (motion.speed ≡ 0 → pos 0 ≤ℤ wanted) →
    IsSafeBy rates motion.ahead motion.last motion.speed g →
    ((y : ℕ) → IsSafeBy rates motion.ahead motion.last motion.speed y → y ≤ m → y ≤ g) →
    g ≤ max m (braked_of rates.d rates.j motion.last motion.speed) →
    (other : ℤ) → IsSafeFrom rates motion other → unsigned_abs (pos g -ℤ wanted) ≤ unsigned_abs (other -ℤ wanted)
nearest_on rates motion wanted m g ok kept up down stands safe greatest within other (goes_on x is other_safe) =
    rw is (nearer_speed wanted m g x up down (nearest_speed rates motion.ahead motion.last motion.speed m g x ok kept safe greatest within other_safe))
nearest_on rates motion wanted m g ok kept up down stands safe greatest within other (turns x is rest bends left) =
    let ahead : pos 0 ≤ℤ wanted = stands rest in
    let here : wanted ≡ pos m = up ahead in
    let none : braked_of rates.d rates.j motion.last motion.speed ≡ 0 = rw rest (braked_zero rates.d rates.j motion.last) in
    let below : g ≤ m = omega (arith, within) in
    omega (arith, ints)

-- standing leaves a kept motion in any room
pub standing_left : (rates : JerkRates) (room : ℕ) → AreJerkRates rates → IsLeftBy rates room 0 0
standing_left rates room ok = record {
  within = omega arith;
  kept = let same : room - 0 ≡ room = omega arith in
      rw same (standing_kept rates.v rates.a rates.d rates.j room (omega (arith, ok.d_least)) (omega (arith, ok.j_least)));
}

-- what leaves a kept motion after standing is within the fastest start
pub left_within : (rates : JerkRates) (room x : ℕ) → AreJerkRates rates → IsLeftBy rates room 0 x → x ≤ min rates.a (reach_of rates.v rates.j)
left_within rates room x ok left =
    let tops : x ≤ 0 + reach_of (rates.v - 0) rates.j = within_tops rates.v 0 x rates.j (omega (arith, ok.j_least)) left.kept.tops in
    let same : rates.v - 0 ≡ rates.v = omega arith in
    let reach : x ≤ 0 + reach_of rates.v rates.j = rw same at tops in
    omega (arith, left.kept.gains)

-- all below a speed that leaves a kept motion after standing do so
pub left_below : (rates : JerkRates) (room x y : ℕ) → AreJerkRates rates → x ≤ y → IsLeftBy rates room 0 y → IsLeftBy rates room 0 x
left_below rates room x y ok below left =
    kept_between rates.v rates.a rates.d rates.j room 0 0 x y (omega (arith, ok.d_least)) (omega (arith, ok.j_least)) (omega arith) below (standing_left rates room ok) left

-- turning, no safe step is nearer than the greatest speed back up to the wanted one
pub nearest_back : (rates : JerkRates) (motion : Motion) (wanted : ℤ) (m g : ℕ) → AreJerkRates rates →
    wanted ≡ neg_ℤ (pos m) → IsLeftBy rates motion.behind 0 g → g ≤ motion.last + rates.j → g ≤ m →
    ((y : ℕ) → IsLeftBy rates motion.behind 0 y → y ≤ motion.last + rates.j → y ≤ m → y ≤ g) →
    (other : ℤ) → IsSafeFrom rates motion other → unsigned_abs (neg_ℤ (pos g) -ℤ wanted) ≤ unsigned_abs (other -ℤ wanted)
nearest_back rates motion wanted m g ok here left bends within greatest other (goes_on x is safe) = omega (arith, ints)
nearest_back rates motion wanted m g ok here left bends within greatest other (turns x is rest slow other_left) =
    elim (cases_lt m x) [
      | inr below ↦ let under : x ≤ g = greatest x other_left slow below in omega (arith, ints)
      | inl above ↦ let most : m ≤ g = greatest m (left_below rates motion.behind m x ok (omega arith) other_left) (omega arith) (omega arith) in
          omega (arith, ints)
    ]
