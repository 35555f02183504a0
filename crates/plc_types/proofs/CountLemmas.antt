-- Counts and places of an axis.
-- for: place, targets_lie_near, counts_are_read_back and others
use Rattle.std.specs.Prelude.{suc, ◌≡◌, ◌+◌, ◌*◌, ◌≤◌, ◌<◌, ℤ, pos, negsuc, neg_ℤ, ◌+ℤ◌, ◌-ℤ◌, ◌*ℤ◌, ◌≤ℤ◌, ◌<ℤ◌, int_lt, Bool, ◌&&◌, if◌then◌else◌, unsigned_abs}
use Rattle.std.specs.Int.{int_div_euclid}
use Rattle.std.proofs.Common.{arith, refl, ap, ◌⊎◌, inl, inr}
use Rattle.std.proofs.Math.Nat.{mul-le-mul_right}
use Rattle.std.proofs.lemmas.Int.{ints}
use Rattle.std.proofs.lemmas.Bool.{cases_Bool, cases_lt}
use Rattle.plc_types.specs.declared.limits.Limits.{Limits}
use Rattle.plc_types.specs.Counts.{count_of, place_of, IsCount, HasCounts}
use borrow.Author.Differences.{up, down}

-- a quotient and what it leaves
pub record IsFloor (a q k : ℤ) : Type 0 where
  pub below : (q *ℤ k) ≤ℤ a
  pub above : a <ℤ ((q *ℤ k) +ℤ k)

quotient-floor : (a k : ℤ) → pos 1 ≤ℤ k → IsFloor a (int_div_euclid a k) k
quotient-floor (pos a) (pos k) one = let some : 0 < k = omega (arith, ints) in record { below = omega (arith, ints); above = omega (arith, ints) }
quotient-floor (negsuc a) (pos k) one = let some : 0 < k = omega (arith, ints) in record { below = omega (arith, ints); above = omega (arith, ints) }
quotient-floor a (negsuc k) one = absurd (omega (arith, ints))

-- a quotient keeps the order
floor-mono : (a b q r k : ℤ) → pos 1 ≤ℤ k → a ≤ℤ b → IsFloor a q k → IsFloor b r k → q ≤ℤ r
floor-mono a b q r (negsuc k) one le f g = absurd (omega (arith, ints))
floor-mono a b q r (pos k) one le f g =
    elim (cases_lt (up r + down q) (up q + down r)) [
      | inl less ↦ (let more : (suc (up r + down q)) * k ≤ (up q + down r) * k = mul-le-mul_right k less in absurd (omega (arith, ints)))
      | inr le ↦ omega (arith, ints)
    ]

-- there is one quotient
floor-only : (a q r k : ℤ) → pos 1 ≤ℤ k → IsFloor a q k → IsFloor a r k → q ≡ r
floor-only a q r k one f g =
    let same : a ≤ℤ a = omega (arith, ints) in
    let low = floor-mono a a q r k one same f g in
    let high = floor-mono a a r q k one same g f in
    omega (arith, ints)

-- the count of a place is the quotient of its distance from the offset
count-floor : (place offset inc : ℤ) → pos 1 ≤ℤ inc → IsFloor (place -ℤ offset) (count_of place offset inc) inc
unfolding count_of
count-floor place offset inc one = quotient-floor (place -ℤ offset) inc one

-- a count is that of a place that it is the quotient of
count-only : (place offset inc count : ℤ) → pos 1 ≤ℤ inc → IsFloor (place -ℤ offset) count inc → count_of place offset inc ≡ count
count-only place offset inc count one f =
    floor-only (place -ℤ offset) (count_of place offset inc) count inc one (count-floor place offset inc one) f

-- a place above another has no lower count
pub count_of-mono : (a b offset inc : ℤ) → pos 1 ≤ℤ inc → a ≤ℤ b → count_of a offset inc ≤ℤ count_of b offset inc
count_of-mono a b offset inc one le =
    floor-mono (a -ℤ offset) (b -ℤ offset) _ _ inc one (omega (arith, ints)) (count-floor a offset inc one) (count-floor b offset inc one)

-- each place within the limits has a count of 32 bits where the lowest and the highest have
pub count_of-within : (limits : Limits) (place offset inc : ℤ) → pos 1 ≤ℤ inc → HasCounts limits offset inc →
    limits.lo ≤ℤ place → place ≤ℤ limits.hi → IsCount (count_of place offset inc)
count_of-within limits place offset inc one counts above below =
    let low = count_of-mono limits.lo place offset inc one above in
    let high = count_of-mono place limits.hi offset inc one below in
    record { least = omega (arith, ints, counts.lowest); most = omega (arith, ints, counts.highest) }

-- what moves with the offset keeps its count
pub count_of-moved : (place offset inc way : ℤ) → count_of (place +ℤ way) (offset +ℤ way) inc ≡ count_of place offset inc
unfolding count_of
count_of-moved place offset inc way =
    let same : (place +ℤ way) -ℤ (offset +ℤ way) ≡ place -ℤ offset = omega (arith, ints) in
    ap (λ z. int_div_euclid z inc) same

-- a counted place that lies less than an increment below the lowest one, in whose place that one
-- stands
pub record IsLowest (lo inc counted place : ℤ) : Type 0 where
  pub near : (lo -ℤ inc) <ℤ counted
  pub below : counted <ℤ lo
  pub is : place ≡ lo

-- a counted place that stands as it is
pub record IsCounted (lo inc counted place : ℤ) : Type 0 where
  pub apart : (counted ≤ℤ (lo -ℤ inc)) ⊎ (lo ≤ℤ counted)
  pub is : place ≡ counted

chosen : (lo inc counted : ℤ) →
    IsLowest lo inc counted (if int_lt (lo -ℤ inc) counted && int_lt counted lo then lo else counted)
    ⊎ IsCounted lo inc counted (if int_lt (lo -ℤ inc) counted && int_lt counted lo then lo else counted)
chosen lo inc counted =
    elim (cases_Bool (int_lt (lo -ℤ inc) counted)) [
      | inl near ↦ elim (cases_Bool (int_lt counted lo)) [
        | inl below ↦ inl (record { near = omega (arith, ints); below = omega (arith, ints); is = rw (near, below) refl })
        | inr above ↦ inr (record { apart = inr (omega (arith, ints)); is = rw (near, above) refl })
      ]
      | inr far ↦ inr (record { apart = inl (omega (arith, ints)); is = rw far refl })
    ]

place-chosen : (lo count offset inc : ℤ) →
    IsLowest lo inc ((count *ℤ inc) +ℤ offset) (place_of lo count offset inc) ⊎ IsCounted lo inc ((count *ℤ inc) +ℤ offset) (place_of lo count offset inc)
unfolding place_of
place-chosen lo count offset inc = chosen lo inc ((count *ℤ inc) +ℤ offset)

-- the place by its test
pub place-tested : (lo count offset inc counted : ℤ) (test : Bool) → counted ≡ (count *ℤ inc) +ℤ offset →
    test ≡ (int_lt (lo -ℤ inc) counted && int_lt counted lo) → place_of lo count offset inc ≡ (if test then lo else counted)
unfolding place_of
place-tested lo count offset inc counted test same tested = rw (tested, same) refl

-- the place of a count lies less than an increment above the counted one
pub place-floor : (lo count offset inc : ℤ) → pos 1 ≤ℤ inc → IsFloor (place_of lo count offset inc -ℤ offset) count inc
place-floor lo count offset inc one =
    elim (place-chosen lo count offset inc) [
      | inl l ↦ (let near = l.near in let below = l.below in let is = l.is in record { below = omega (arith, ints); above = omega (arith, ints) })
      | inr p ↦ (let is = p.is in record { below = omega (arith, ints); above = omega (arith, ints) })
    ]

-- a count is read back from its place
pub count_of-place_of : (lo count offset inc : ℤ) → pos 1 ≤ℤ inc → count_of (place_of lo count offset inc) offset inc ≡ count
count_of-place_of lo count offset inc one = count-only (place_of lo count offset inc) offset inc count one (place-floor lo count offset inc one)

-- the place of a target, where the target's setpoint is at or above the lowest place
pub record IsNear (lo setpoint inc place : ℤ) : Type 0 where
  pub above : lo ≤ℤ place
  pub below : place ≤ℤ setpoint
  pub near : (setpoint -ℤ place) <ℤ inc

pub target-near : (lo setpoint offset inc : ℤ) → pos 1 ≤ℤ inc → lo ≤ℤ setpoint →
    IsNear lo setpoint inc (place_of lo (count_of setpoint offset inc) offset inc)
target-near lo setpoint offset inc one least =
    let f = count-floor setpoint offset inc one in
    let f_below = f.below in
    let f_above = f.above in
    elim (place-chosen lo (count_of setpoint offset inc) offset inc) [
      | inl l ↦ (let near = l.near in let below = l.below in let is = l.is in
          record { above = omega (arith, ints); below = omega (arith, ints); near = omega (arith, ints) })
      | inr p ↦ (let is = p.is in
          elim p.apart [
            | inl far ↦ absurd (omega (arith, ints))
            | inr high ↦ record { above = omega (arith, ints); below = omega (arith, ints); near = omega (arith, ints) }
          ])
    ]

-- as many increments as a count says, which is not below the least of 32 bits
multiple-low : (count inc : ℤ) → pos 1 ≤ℤ inc → inc ≤ℤ pos 1000000000 → neg_ℤ (pos 2147483648) ≤ℤ count →
    neg_ℤ (pos 2147483648000000000) ≤ℤ (count *ℤ inc)
multiple-low count (negsuc k) one most least = absurd (omega (arith, ints))
multiple-low count (pos k) one most least =
    let order : down count ≤ 2147483648 + up count = omega (arith, ints) in
    let more : down count * k ≤ (2147483648 + up count) * k = mul-le-mul_right k order in
    omega (arith, ints)

-- as many increments as a count says, which is not above the greatest of 32 bits
multiple-high : (count inc : ℤ) → pos 1 ≤ℤ inc → inc ≤ℤ pos 1000000000 → count ≤ℤ pos 2147483647 →
    ((count *ℤ inc) +ℤ inc) ≤ℤ pos 2147483648000000000
multiple-high count (negsuc k) one most greatest = absurd (omega (arith, ints))
multiple-high count (pos k) one most greatest =
    let order : suc (up count) ≤ 2147483648 + down count = omega (arith, ints) in
    let more : suc (up count) * k ≤ (2147483648 + down count) * k = mul-le-mul_right k order in
    omega (arith, ints)

-- as many increments as a count of 32 bits says
pub count-size : (count inc : ℤ) → pos 1 ≤ℤ inc → inc ≤ℤ pos 1000000000 → IsCount count →
    unsigned_abs (count *ℤ inc) ≤ 2147483648000000000
count-size count inc one most counts =
    let low = multiple-low count inc one most counts.least in
    let high = multiple-high count inc one most counts.most in
    omega (arith, ints)

-- the place of a count of 32 bits lies near the offset
pub place-distance : (lo count offset inc : ℤ) → pos 1 ≤ℤ inc → inc ≤ℤ pos 1000000000 → IsCount count →
    unsigned_abs (place_of lo count offset inc -ℤ offset) ≤ 2147483649000000000
place-distance lo count offset inc one most counts =
    let f = place-floor lo count offset inc one in
    let size = count-size count inc one most counts in
    omega (arith, ints, f.below, f.above)

-- the offset of an axis whose places have counts of 32 bits is small
pub offset-small : (limits : Limits) (offset inc : ℤ) → pos 1 ≤ℤ inc → inc ≤ℤ pos 1000000000 →
    neg_ℤ (pos 1000000000000000) ≤ℤ limits.lo → limits.lo ≤ℤ limits.hi → limits.hi ≤ℤ pos 1000000000000000 →
    HasCounts limits offset inc → unsigned_abs offset ≤ 2148483648000000000
offset-small limits offset inc one most bottom order top counts =
    let low = multiple-low (count_of limits.lo offset inc) inc one most counts.lowest in
    let high = multiple-high (count_of limits.hi offset inc) inc one most counts.highest in
    let low_floor = (count-floor limits.lo offset inc one).below in
    let high_floor = (count-floor limits.hi offset inc one).above in
    omega (arith, ints)

-- the count of a multiple of the increment
pub multiple-count : (k inc : ℤ) → pos 1 ≤ℤ inc → count_of (k *ℤ inc) (pos 0) inc ≡ k
multiple-count k inc one = count-only (k *ℤ inc) (pos 0) inc k one (record { below = omega (arith, ints); above = omega (arith, ints) })

-- the place of a multiple of the increment within the limits
pub multiple-place : (lo k inc : ℤ) → lo ≤ℤ (k *ℤ inc) → place_of lo k (pos 0) inc ≡ k *ℤ inc
multiple-place lo k inc least =
    elim (place-chosen lo k (pos 0) inc) [
      | inl l ↦ absurd (omega (arith, ints, l.below))
      | inr p ↦ omega (arith, ints, p.is)
    ]
