-- Quotients rounded down: what they keep, and how large they are.
-- for: gears_keep_their_ratio, cam_position, cam_positions_lie_between_points
use Rattle.std.proofs.Common.{◌≡◌, ℕ, suc, ◌+◌, ◌*◌, ◌<◌, ◌≤◌, arith, ℤ, pos, negsuc, ◌+ℤ◌, ◌*ℤ◌, ◌≤ℤ◌, ◌<ℤ◌, unsigned_abs}
use Rattle.std.proofs.Math.Nat.{mul-le-mul_right, mul-le-mul_left, div-le_self}
use Rattle.std.proofs.lemmas.Int.{ints, by_lt_z}
use borrow.Author.Differences.{up, down}
use Rattle.follow_plan.specs.Floor.{floor_of}

-- the quotient q of n by k, rounded down, has q * k at most n, and n below q * k + k
pub floor_parts : (n : ℤ) (k : ℕ) → 0 < k → (up (floor_of n (pos k)) * k + down n ≤ down (floor_of n (pos k)) * k + up n) × (down (floor_of n (pos k)) * k + up n < up (floor_of n (pos k)) * k + down n + k)
unfolding floor_of
floor_parts (pos a) k some = omega arith
floor_parts (negsuc a) k some = omega arith

-- the same on whole numbers
pub rounded_down : (n d : ℤ) → pos 1 ≤ℤ d → ((d *ℤ floor_of n d) ≤ℤ n) × (n <ℤ (d *ℤ floor_of n d +ℤ d))
rounded_down n (pos k) some = let parts = floor_parts n k (omega (arith, ints)) in (omega (arith, ints, parts.0), omega (arith, ints, parts.1))
rounded_down n (negsuc k) some = absurd (omega (arith, ints))

-- a quotient rounded down is no larger than what is divided
pub floor_small : (n d : ℤ) → pos 1 ≤ℤ d → unsigned_abs (floor_of n d) ≤ unsigned_abs n
unfolding floor_of
floor_small (pos a) (pos k) some = div-le_self a k
floor_small (negsuc a) (pos k) some = omega (arith, div-le_self a k)
floor_small n (negsuc k) some = absurd (omega (arith, ints))

-- a quotient rounded down is at most z where z times the divisor reaches what is divided
pub floor_most : (n z : ℤ) (k : ℕ) → 0 < k → up n + down z * k ≤ down n + up z * k → floor_of n (pos k) ≤ℤ z
floor_most n z k some reached =
    by_lt_z z (floor_of n (pos k))
    (λ above. (let order : up z + down (floor_of n (pos k)) + 1 ≤ up (floor_of n (pos k)) + down z = omega (arith, ints) in
    absurd (omega (arith, floor_parts n k some, mul-le-mul_right k order))))
    (λ below. below)

-- and at least z where z times the divisor doesn't pass it
pub floor_least : (n z : ℤ) (k : ℕ) → 0 < k → up z * k + down n ≤ down z * k + up n → z ≤ℤ floor_of n (pos k)
floor_least n z k some kept =
    by_lt_z (floor_of n (pos k)) z
    (λ above. (let order : up (floor_of n (pos k)) + down z + 1 ≤ up z + down (floor_of n (pos k)) = omega (arith, ints) in
    absurd (omega (arith, floor_parts n k some, mul-le-mul_right k order))))
    (λ below. below)

-- the part of a way upward, rounded down, lies between nothing and the whole way
pub floor_of_way_up : (a t x : ℕ) → 0 < x → t ≤ x → (pos 0 ≤ℤ floor_of (pos a *ℤ pos t) (pos x)) × (floor_of (pos a *ℤ pos t) (pos x) ≤ℤ pos a)
floor_of_way_up a t x some within =
    (floor_least (pos a *ℤ pos t) (pos 0) x some (omega (arith, ints)), floor_most (pos a *ℤ pos t) (pos a) x some (omega (arith, ints, mul-le-mul_left a within)))

-- and that of a way downward
pub floor_of_way_down : (a t x : ℕ) → 0 < x → t ≤ x → (negsuc a ≤ℤ floor_of (negsuc a *ℤ pos t) (pos x)) × (floor_of (negsuc a *ℤ pos t) (pos x) ≤ℤ pos 0)
floor_of_way_down a t x some within =
    (floor_least (negsuc a *ℤ pos t) (negsuc a) x some (omega (arith, ints, mul-le-mul_left (suc a) within)), floor_most (negsuc a *ℤ pos t) (pos 0) x some (omega (arith, ints)))

-- the part of a way, rounded down, lies between the ends that hold nothing and the whole way
pub floor_between : (a t x low high : ℤ) → pos 0 ≤ℤ t → t ≤ℤ x → pos 1 ≤ℤ x → low ≤ℤ pos 0 → pos 0 ≤ℤ high → low ≤ℤ a → a ≤ℤ high → (low ≤ℤ floor_of (a *ℤ t) x) × (floor_of (a *ℤ t) x ≤ℤ high)
floor_between (pos a) (pos t) (pos x) low high some within room low_at high_at low_to high_to =
    let part = floor_of_way_up a t x (omega (arith, ints)) (omega (arith, ints)) in (omega (arith, ints, part.0), omega (arith, ints, part.1))
floor_between (negsuc a) (pos t) (pos x) low high some within room low_at high_at low_to high_to =
    let part = floor_of_way_down a t x (omega (arith, ints)) (omega (arith, ints)) in (omega (arith, ints, part.0), omega (arith, ints, part.1))
floor_between a (negsuc t) x low high some within room low_at high_at low_to high_to = absurd (omega (arith, ints))
floor_between a (pos t) (negsuc x) low high some within room low_at high_at low_to high_to = absurd (omega (arith, ints))

-- nothing of a way is nothing
pub floor_none : (a t x : ℤ) → t ≡ pos 0 → pos 1 ≤ℤ x → floor_of (a *ℤ t) x ≡ pos 0
floor_none a t (pos x) none room =
    let some : 0 < x = omega (arith, ints) in
    let empty : up t ≡ down t = omega (arith, ints) in
    omega (arith, ints, floor_least (a *ℤ t) (pos 0) x some (rw none (omega (arith, ints))), floor_most (a *ℤ t) (pos 0) x some (rw none (omega (arith, ints))))
floor_none a t (negsuc x) none room = absurd (omega (arith, ints))
