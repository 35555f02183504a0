-- Which velocities and changes of a path an axis keeps, by the share of them that it has.
-- for: path_limits
use Rattle.std.proofs.Common.{◌≡◌, ℕ, ◌+◌, ◌-◌, ◌*◌, ◌/◌, ◌<◌, ◌≤◌, min, refl, inl, inr, arith, Bool, true, nat_le, eq-eqb, ◌↔◌}
use Rattle.std.proofs.Math.Nat.{mul-le-mul_right, mul-le-mul_left}
use Rattle.std.proofs.lemmas.Bool.{cases_eq, leb-true, le-leb}
use Rattle.motion_numbers.specs.declared.TheConstants.{MOST_STEP}
use Rattle.linear_path.specs.Line.{ceil_of, keeps_velocity, keeps_change}
use Rattle.linear_path.specs.Rates.{IsRateOf}
use Rattle.linear_path.proofs.PartLaws.{quotient, below_factor, ceil_least, ceil_reaches, eq_false}

-- the rates up to the axis's own one, times its way, fit its limit times the length
pub rate_exact : (way length rate r own : ℕ) → 0 < way → own ≡ min MOST_STEP (rate * length / way) →
    r ≤ MOST_STEP → (way * r ≤ rate * length) ↔ (r ≤ own)
rate_exact way length rate r own some is bound = (
  λ fits. (let less : r < rate * length / way + 1 =
      below_factor r (rate * length / way + 1) way
      (omega (arith, quotient (rate * length) way some)) in omega arith),
  λ within. (let below : r ≤ rate * length / way = omega arith in
      omega (arith, quotient (rate * length) way some, mul-le-mul_right way below)),
)

-- a velocity keeps the axis's vmax where its share fits
pub velocity_exact : (way length vmax w : ℕ) → 0 < length →
    (keeps_velocity way length vmax w ≡ true) ↔ (way * w ≤ vmax * length)
unfolding keeps_velocity
velocity_exact way length vmax w some = (
  λ kept. (let ceil : ceil_of (way * w) length ≤ vmax = leb-true _ _ kept in
      omega (arith, ceil_reaches (way * w) length some, mul-le-mul_right length ceil)),
  λ fits. le-leb _ _ (ceil_least (way * w) length vmax some fits),
)

-- an axis that rests keeps every velocity
pub velocity_at_rest : (way length vmax w : ℕ) → way ≡ 0 → 0 < length →
    keeps_velocity way length vmax w ≡ true
velocity_at_rest way length vmax w rest some =
    (velocity_exact way length vmax w some).1 (rw rest (omega arith))

pub change_at_rest : (way length most b : ℕ) → way ≡ 0 → keeps_change way length most b ≡ true
unfolding keeps_change
change_at_rest way length most b rest = rw rest refl

pub change_longest : (way length most b : ℕ) → (way ≡ 0 → ⊥) → way ≡ length →
    keeps_change way length most b ≡ nat_le b most
unfolding keeps_change
change_longest way length most b moves longest =
    rw (eq_false way 0 moves, eq-eqb way length longest) refl

pub change_shorter : (way length most b : ℕ) → (way ≡ 0 → ⊥) → (way ≡ length → ⊥) →
    keeps_change way length most b ≡ nat_le (ceil_of (way * b) length + 1) most
unfolding keeps_change
change_shorter way length most b moves shorter =
    rw (eq_false way 0 moves, eq_false way length shorter) refl

pub change_exact : (way length most b : ℕ) → (way ≡ 0 → ⊥) → (way ≡ length → ⊥) → 0 < length →
    1 ≤ most → (keeps_change way length most b ≡ true) ↔ (way * b ≤ (most - 1) * length)
change_exact way length most b moves shorter some room = (
  λ kept. (let ceil : ceil_of (way * b) length + 1 ≤ most =
      leb-true _ _ (rw (change_shorter way length most b moves shorter) at kept) in
      let less : ceil_of (way * b) length ≤ most - 1 = omega arith in
      omega (arith, ceil_reaches (way * b) length some, mul-le-mul_right length less)),
  λ fits. rw (change_shorter way length most b moves shorter)
      (le-leb _ _ (let less : ceil_of (way * b) length + 1 ≤ most =
      omega (arith, ceil_least (way * b) length (most - 1) some fits) in less)),
)

-- an axis that rests allows every rate
pub rate_of_rest : (test : ℕ → Bool) → ((r : ℕ) → test r ≡ true) → IsRateOf MOST_STEP test
rate_of_rest test all =
    record { within = omega arith; exact = λ r bound. ((λ h. bound), (λ h. all r)) }

pub rate_of_velocity : (way length vmax own : ℕ) → 0 < way → 0 < length →
    own ≡ min MOST_STEP (vmax * length / way) → IsRateOf own (keeps_velocity way length vmax)
rate_of_velocity way length vmax own moves some is =
    record {
      within = omega arith;
      exact = λ r bound. (
        (λ h. (rate_exact way length vmax r own moves is bound).0
            ((velocity_exact way length vmax r some).0 h)),
        (λ h. (velocity_exact way length vmax r some).1
            ((rate_exact way length vmax r own moves is bound).1 h)),
      );
    }

pub rate_of_longest : (way length most : ℕ) → (way ≡ 0 → ⊥) → way ≡ length → most ≤ MOST_STEP →
    IsRateOf most (keeps_change way length most)
rate_of_longest way length most moves longest bound =
    record {
      within = bound;
      exact = λ r h. (
        (λ kept. leb-true _ _
            (rw (change_longest way length most r moves longest) at kept)),
        (λ less. rw (change_longest way length most r moves longest) (le-leb _ _ less)),
      );
    }

pub rate_of_change : (way length most own : ℕ) → (way ≡ 0 → ⊥) → (way ≡ length → ⊥) → 0 < length →
    1 ≤ most → own ≡ min MOST_STEP ((most - 1) * length / way) →
    IsRateOf own (keeps_change way length most)
rate_of_change way length most own moves shorter some room is =
    let positive : 0 < way = omega arith in
    record {
      within = omega arith;
      exact = λ r bound. (
        (λ h. (rate_exact way length (most - 1) r own positive is bound).0
            ((change_exact way length most r moves shorter some room).0 h)),
        (λ h. (change_exact way length most r moves shorter some room).1
            ((rate_exact way length (most - 1) r own positive is bound).1 h)),
      );
    }

-- a smaller velocity is kept where a greater one is
pub velocity_falls : (way length vmax r s : ℕ) → 0 < length → r ≤ s →
    keeps_velocity way length vmax s ≡ true → keeps_velocity way length vmax r ≡ true
velocity_falls way length vmax r s some order kept =
    (velocity_exact way length vmax r some).1
    (omega (arith, (velocity_exact way length vmax s some).0 kept, mul-le-mul_left way order))

-- and so is a smaller change
pub change_falls : (way length most r s : ℕ) → 0 < length → 1 ≤ most → r ≤ s →
    keeps_change way length most s ≡ true → keeps_change way length most r ≡ true
change_falls way length most r s some room order kept =
    elim (cases_eq way 0) [
      | inl rest ↦ change_at_rest way length most r rest
      | inr moves ↦ elim (cases_eq way length) [
        | inl longest ↦ (let kept_less : s ≤ most =
            leb-true _ _ (rw (change_longest way length most s moves longest) at kept) in
            rw (change_longest way length most r moves longest)
            (le-leb _ _ (let less : r ≤ most = omega arith in less)))
        | inr shorter ↦ (change_exact way length most r moves shorter some room).1
            (omega (
              arith,
              (change_exact way length most s moves shorter some room).0 kept,
              mul-le-mul_left way order,
            ))
      ]
    ]

-- a change that a smaller limit allows a greater one allows
pub change_more : (way length most more r : ℕ) → 0 < length → 1 ≤ most → most ≤ more →
    keeps_change way length most r ≡ true → keeps_change way length more r ≡ true
change_more way length most more r some room order kept =
    elim (cases_eq way 0) [
      | inl rest ↦ change_at_rest way length more r rest
      | inr moves ↦ elim (cases_eq way length) [
        | inl longest ↦ (let kept_less : r ≤ most =
            leb-true _ _ (rw (change_longest way length most r moves longest) at kept) in
            rw (change_longest way length more r moves longest)
            (le-leb _ _ (let less : r ≤ more = omega arith in less)))
        | inr shorter ↦ (change_exact way length more r moves shorter some (omega arith)).1
            (let less : most - 1 ≤ more - 1 = omega arith in
            omega (
              arith,
              (change_exact way length most r moves shorter some room).0 kept,
              mul-le-mul_right length less,
            ))
      ]
    ]

-- no change is kept by all
pub change_none : (way length most : ℕ) → 0 < length → 1 ≤ most →
    keeps_change way length most 0 ≡ true
change_none way length most some room =
    elim (cases_eq way 0) [
      | inl rest ↦ change_at_rest way length most 0 rest
      | inr moves ↦ elim (cases_eq way length) [
        | inl longest ↦ rw (change_longest way length most 0 moves longest)
            (le-leb _ _ (let less : 0 ≤ most = omega arith in less))
        | inr shorter ↦ (change_exact way length most 0 moves shorter some room).1 (omega arith)
      ]
    ]

-- a change of 1 is kept by a limit from 2
pub change_one : (way length most : ℕ) → 0 < length → way ≤ length → 2 ≤ most →
    keeps_change way length most 1 ≡ true
change_one way length most some within room =
    elim (cases_eq way 0) [
      | inl rest ↦ change_at_rest way length most 1 rest
      | inr moves ↦ elim (cases_eq way length) [
        | inl longest ↦ rw (change_longest way length most 1 moves longest)
            (le-leb _ _ (let less : 1 ≤ most = omega arith in less))
        | inr shorter ↦ (change_exact way length most 1 moves shorter some (omega arith)).1
            (let less : 1 ≤ most - 1 = omega arith in omega (arith, mul-le-mul_right length less))
      ]
    ]

pub velocity_one : (way length vmax : ℕ) → 0 < length → way ≤ length → 1 ≤ vmax →
    keeps_velocity way length vmax 1 ≡ true
velocity_one way length vmax some within room =
    (velocity_exact way length vmax 1 some).1 (omega (arith, mul-le-mul_right length room))
