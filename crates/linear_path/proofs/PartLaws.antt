-- The parts of a way: how they grow, and how they bend.
-- for: path_limits
use Rattle.std.proofs.Common.{◌≡◌, ℕ, zero, suc, ◌+◌, ◌-◌, ◌*◌, ◌/◌, ◌<◌, ◌≤◌, refl, inl, inr, arith, true, false, nat_eq, eq-eqb}
use Rattle.std.proofs.Math.Nat.{mul-le-mul_right, mul-le-mul_left}
use Rattle.std.proofs.lemmas.Nat.{div-add-mod', mod_below}
use Rattle.std.proofs.lemmas.Bool.{cases_lt, cases_eq, leb-true}
use Rattle.linear_path.specs.Line.{part_of, ceil_of, keeps_velocity, keeps_change}

-- two numbers that differ
pub eq_false : (a b : ℕ) → (a ≡ b → ⊥) → nat_eq a b ≡ false
eq_false a b h = grind arith

-- a quotient and its remainder
pub quotient : (n d : ℕ) → 0 < d → (n / d * d ≤ n) × (n < n / d * d + d)
quotient n d some = (
  omega (arith, div-add-mod' n d, mod_below n d some),
  omega (arith, div-add-mod' n d, mod_below n d some),
)

-- the part on a path with a length
pub part_is : (way length s : ℕ) → 0 < length → part_of way length s ≡ way * s / length
unfolding part_of
part_is way length s some = rw (eq_false length 0 (λ e. omega arith)) refl

-- and on one without
pub part_none : (way s : ℕ) → part_of way 0 s ≡ 0
unfolding part_of
part_none way s = refl

-- the part times the length is the way times the place, rounded down
pub parts : (way length s : ℕ) → 0 < length →
    (part_of way length s * length ≤ way * s) × (way * s < part_of way length s * length + length)
parts way length s some = rw (part_is way length s some) (quotient (way * s) length some)

-- what is below by a factor is below
pub below_factor : (a b k : ℕ) → a * k < b * k → a < b
below_factor a b k less =
    elim (cases_lt a b) [ inl h ↦ h | inr h ↦ absurd (omega (arith, mul-le-mul_right k h)) ]

-- no part at the start
pub part_start : (way length : ℕ) → part_of way length 0 ≡ 0
part_start way zero = part_none way 0
part_start way (suc n) =
    omega (arith, parts way (suc n) 0 (omega arith), below_factor (part_of way (suc n) 0) 1 (suc n))

-- the whole way at the end
pub part_end : (way length : ℕ) → way ≤ length → part_of way length length ≡ way
part_end way zero within = omega (arith, part_none way 0)
part_end way (suc n) within =
    let ends = parts way (suc n) (suc n) (omega arith) in
    let low : way < part_of way (suc n) (suc n) + 1 =
    below_factor way (part_of way (suc n) (suc n) + 1) (suc n) (omega (arith, ends.1)) in
    let high : part_of way (suc n) (suc n) < way + 1 =
    below_factor (part_of way (suc n) (suc n)) (way + 1) (suc n) (omega (arith, ends.0)) in
    omega arith

-- parts rise with the places
pub parts_rise : (way length s t : ℕ) → s ≤ t → part_of way length s ≤ part_of way length t
parts_rise way zero s t order = omega (arith, part_none way s, part_none way t)
parts_rise way (suc n) s t order =
    let less : part_of way (suc n) s < part_of way (suc n) t + 1 =
    below_factor (part_of way (suc n) s) (part_of way (suc n) t + 1) (suc n)
    (omega (
      arith,
      parts way (suc n) s (omega arith),
      parts way (suc n) t (omega arith),
      mul-le-mul_left way order,
    )) in
    omega arith

-- no part is more than the way
pub part_within : (way length s : ℕ) → way ≤ length → s ≤ length → part_of way length s ≤ way
part_within way length s within at =
    omega (arith, parts_rise way length s length at, part_end way length within)

-- a way as long as the path has the places themselves for its parts
pub part_same : (way s : ℕ) → 0 < way → part_of way way s ≡ s
part_same way s some =
    let ends = parts way way s some in
    let low : s < part_of way way s + 1 =
    below_factor s (part_of way way s + 1) way (omega (arith, ends.1)) in
    let high : part_of way way s < s + 1 =
    below_factor (part_of way way s) (s + 1) way (omega (arith, ends.0)) in
    omega arith

-- an axis that rests has no parts
pub part_rest : (length s : ℕ) → part_of 0 length s ≡ 0
part_rest zero s = part_none 0 s
part_rest (suc n) s =
    omega (arith, parts 0 (suc n) s (omega arith), below_factor (part_of 0 (suc n) s) 1 (suc n))

-- a quotient rounded up, times the divisor, reaches what is divided
pub ceil_reaches : (n d : ℕ) → 0 < d → n ≤ ceil_of n d * d
unfolding ceil_of
ceil_reaches n d some = omega (arith, quotient (n + (d - 1)) d some)

-- and is the least that does
pub ceil_least : (n d m : ℕ) → 0 < d → n ≤ m * d → ceil_of n d ≤ m
unfolding ceil_of
ceil_least n d m some reached =
    let less : (n + (d - 1)) / d < m + 1 =
    below_factor ((n + (d - 1)) / d) (m + 1) d (omega (arith, quotient (n + (d - 1)) d some)) in
    omega arith

-- a path's velocity that an axis allows moves it by at most vmax a cycle
pub step_kept : (way length vmax w s t : ℕ) → 0 < length → keeps_velocity way length vmax w ≡ true →
    t ≤ s + w → part_of way length t ≤ part_of way length s + vmax
unfolding keeps_velocity
step_kept way length vmax w s t some kept step =
    let ceil : ceil_of (way * w) length ≤ vmax = leb-true _ _ kept in
    let reach : way * w ≤ vmax * length =
    omega (arith, ceil_reaches (way * w) length some, mul-le-mul_right length ceil) in
    let less : part_of way length t < part_of way length s + vmax + 1 =
    below_factor (part_of way length t) (part_of way length s + vmax + 1) length
    (omega (arith, parts way length s some, parts way length t some, mul-le-mul_left way step)) in
    omega arith

-- what a change of the path's step must keep
pub data Change (way length most b : ℕ) : Type 0 where
  rests : way ≡ 0 → Change way length most b
  leads : way ≡ length → b ≤ most → Change way length most b
  rounds : ceil_of (way * b) length + 1 ≤ most → Change way length most b

pub change_of : (way length most b : ℕ) → keeps_change way length most b ≡ true →
    Change way length most b
unfolding keeps_change
change_of way length most b kept =
    elim (cases_eq way 0) [
      | inl rest ↦ rests rest
      | inr moves ↦ elim (cases_eq way length) [
        | inl longest ↦ leads longest (leb-true _ _
            (rw (eq_false way 0 moves, eq-eqb way length longest) at kept))
        | inr shorter ↦ rounds (leb-true _ _
            (rw (eq_false way 0 moves, eq_false way length shorter) at kept))
      ]
    ]

pub bends_same : (way length s : ℕ) → 0 < length → way ≡ length → part_of way length s ≡ s
bends_same way length s some longest = rw longest (part_same length s some)

-- the change of the step of an axis upward
pub bend_up : (way length most b s0 s1 s2 : ℕ) → 0 < length →
    keeps_change way length most b ≡ true → s2 + s0 ≤ s1 + s1 + b →
    part_of way length s2 + part_of way length s0 ≤ part_of way length s1 + part_of way length s1
    + most
bend_up way length most b s0 s1 s2 some kept bend =
    elim (change_of way length most b kept) [
      | rests rest ↦ (let none : (s : ℕ) →
          part_of way length s ≡ 0 = λ s. rw rest (part_rest length s) in
          omega (arith, none s2, none s0))
      | leads longest change ↦ omega (
        arith,
        bends_same way length s0 some longest,
        bends_same way length s1 some longest,
        bends_same way length s2 some longest,
      )
      | rounds change ↦ (let reach : way * b + length ≤ most * length =
          omega (arith, ceil_reaches (way * b) length some, mul-le-mul_right length change) in
          let less : part_of way length s2 + part_of way length s0 < part_of way length s1
          + part_of way length s1 + most + 1 =
          below_factor (part_of way length s2 + part_of way length s0)
          (part_of way length s1 + part_of way length s1 + most + 1) length
          (omega (
            arith,
            parts way length s0 some,
            parts way length s1 some,
            parts way length s2 some,
            mul-le-mul_left way bend,
          )) in
          omega arith)
    ]

-- and downward
pub bend_down : (way length most b s0 s1 s2 : ℕ) → 0 < length →
    keeps_change way length most b ≡ true → s1 + s1 ≤ s2 + s0 + b →
    part_of way length s1 + part_of way length s1 ≤ part_of way length s2 + part_of way length s0
    + most
bend_down way length most b s0 s1 s2 some kept bend =
    elim (change_of way length most b kept) [
      | rests rest ↦ (let none : (s : ℕ) →
          part_of way length s ≡ 0 = λ s. rw rest (part_rest length s) in omega (arith, none s1))
      | leads longest change ↦ omega (
        arith,
        bends_same way length s0 some longest,
        bends_same way length s1 some longest,
        bends_same way length s2 some longest,
      )
      | rounds change ↦ (let reach : way * b + length ≤ most * length =
          omega (arith, ceil_reaches (way * b) length some, mul-le-mul_right length change) in
          let less : part_of way length s1 + part_of way length s1 < part_of way length s2
          + part_of way length s0 + most + 1 =
          below_factor (part_of way length s1 + part_of way length s1)
          (part_of way length s2 + part_of way length s0 + most + 1) length
          (omega (
            arith,
            parts way length s0 some,
            parts way length s1 some,
            parts way length s2 some,
            mul-le-mul_left way bend,
          )) in
          omega arith)
    ]
