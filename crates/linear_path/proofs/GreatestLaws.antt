-- The greatest number that passes a test, and the greatest that passes the test of each axis.
-- for: path_limits
use Rattle.std.proofs.Common.{◌≡◌, ℕ, zero, suc, ◌+◌, ◌<◌, ◌≤◌, min, refl, ◌∙◌, ap, inl, inr, arith, Bool, true, false, ◌↔◌}
use Rattle.std.proofs.lemmas.Bool.{cases_eq, cases_lt, cond_both, and_parts, and_from}
use Rattle.motion_numbers.specs.declared.TheConstants.{MOST_STEP}
use Rattle.linear_path.specs.Line.{greatest_up_to, all_axes}
use Rattle.linear_path.specs.Rates.{IsGreatestRate}

-- the greatest number that passes is none beyond the bound
pub greatest_within : (n : ℕ) (test : ℕ → Bool) → greatest_up_to n test ≤ n
unfolding greatest_up_to
greatest_within zero test = omega arith
greatest_within (suc n) test =
    cond_both (test (suc n)) (suc n) (greatest_up_to n test) (λ k. k ≤ suc n) (λ _. omega arith)
    (λ _. omega (arith, greatest_within n test))

-- it passes, where zero does
greatest_passes : (n : ℕ) (test : ℕ → Bool) → test zero ≡ true → test (greatest_up_to n test) ≡ true
unfolding greatest_up_to
greatest_passes zero test at_zero = at_zero
greatest_passes (suc n) test at_zero =
    cond_both (test (suc n)) (suc n) (greatest_up_to n test) (λ m. test m ≡ true) (λ passes. passes)
    (λ fails. greatest_passes n test at_zero)

-- a number that passes is no number that fails
top_fails : (n m : ℕ) (test : ℕ → Bool) → m ≡ suc n → test m ≡ true → test (suc n) ≡ false → ⊥
top_fails n m test top passes fails = cc

-- and no greater number up to the bound does
greatest_above : (n : ℕ) (test : ℕ → Bool) (m : ℕ) → m ≤ n → test m ≡ true →
    m ≤ greatest_up_to n test
unfolding greatest_up_to
greatest_above zero test m within passes = within
greatest_above (suc n) test m within passes =
    cond_both (test (suc n)) (suc n) (greatest_up_to n test) (λ k. m ≤ k) (λ _. within)
    (λ fails. greatest_above n test m
    (elim (cases_lt n m) [
      | inl more ↦ absurd (let top : m ≡ suc n = omega arith in top_fails n m test top passes fails)
      | inr less ↦ less
    ])
    passes)

-- all axes pass, so each one does
pub each_axis : (n : ℕ) (test : ℕ → Bool) (axis : ℕ) → all_axes n test ≡ true → axis < n →
    test axis ≡ true
unfolding all_axes
each_axis zero test axis all within = absurd (omega arith)
each_axis (suc n) test axis all within =
    elim (cases_eq axis n) [
      | inl last ↦ ap test last ∙ (and_parts (all_axes n test) (test n) all).1
      | inr before ↦ each_axis n test axis (and_parts (all_axes n test) (test n) all).0
          (omega arith)
    ]

-- and each axis passes, so all do
pub every_axis : (n : ℕ) (test : ℕ → Bool) → ((axis : ℕ) → axis < n → test axis ≡ true) →
    all_axes n test ≡ true
unfolding all_axes
every_axis zero test each = refl
every_axis (suc n) test each =
    and_from (all_axes n test) (test n) (every_axis n test (λ axis h. each axis (omega arith)))
    (each n (omega arith))

-- a rate that is the greatest so far is the greatest number that passes
pub greatest_is : (n most : ℕ) (test : ℕ → ℕ → Bool) (rate : ℕ) → most ≡ MOST_STEP →
    IsGreatestRate n test rate → rate ≡ greatest_up_to most (λ r. all_axes n (λ axis. test axis r))
greatest_is n most test rate bound is =
    let all : ℕ → Bool = λ r. all_axes n (λ axis. test axis r) in
    let own : all rate ≡ true = every_axis n (λ axis. test axis rate)
    (λ axis h. is.passes rate axis (omega arith) h) in
    let none : all 0 ≡ true = every_axis n (λ axis. test axis 0)
    (λ axis h. is.passes 0 axis (omega arith) h) in
    let found : all (greatest_up_to most all) ≡ true = greatest_passes most all none in
    let least : rate ≤ greatest_up_to most all =
    greatest_above most all rate (omega (arith, is.within)) own in
    let top : greatest_up_to most all ≤ most = greatest_within most all in
    let above : greatest_up_to most all ≤ rate =
    is.most (greatest_up_to most all) (omega arith)
    (λ axis h. each_axis n (λ a. test a (greatest_up_to most all)) axis found h) in
    omega arith

-- no axis so far, and every rate
pub greatest_first : (test : ℕ → ℕ → Bool) → IsGreatestRate 0 test MOST_STEP
greatest_first test =
    record {
      within = omega arith;
      passes = λ r axis h within. absurd (omega arith);
      most = λ r h each. h;
    }

-- one more axis, whose greatest rate is known
pub greatest_more : (n : ℕ) (test : ℕ → ℕ → Bool) (rate own next : ℕ) → IsGreatestRate n test rate →
    own ≤ MOST_STEP → ((r : ℕ) → r ≤ MOST_STEP → (test n r ≡ true) ↔ (r ≤ own)) →
    next ≡ min own rate → IsGreatestRate (n + 1) test next
greatest_more n test rate own next is bound exact both =
    record {
      within = omega (arith, is.within);
      passes = λ r axis h within. elim (cases_eq axis n) [
        | inl last ↦ ap (λ a. test a r) last ∙ (exact r (omega (arith, is.within))).1 (omega arith)
        | inr before ↦ is.passes r axis (omega arith) (omega arith)
      ];
      most = λ r h each. (let here : r ≤ own = (exact r h).0 (each n (omega arith)) in
          let others : r ≤ rate = is.most r h (λ axis before. each axis (omega arith)) in
          omega arith);
    }

-- the greatest number that passes is the greatest rate, where smaller rates pass as well
pub greatest_holds : (n most : ℕ) (test : ℕ → ℕ → Bool) → most ≡ MOST_STEP →
    ((axis r s : ℕ) → axis < n → r ≤ s → test axis s ≡ true → test axis r ≡ true) →
    ((axis : ℕ) → axis < n → test axis 0 ≡ true) →
    IsGreatestRate n test (greatest_up_to most (λ r. all_axes n (λ axis. test axis r)))
greatest_holds n most test bound falls none =
    let all : ℕ → Bool = λ r. all_axes n (λ axis. test axis r) in
    let found : all (greatest_up_to most all) ≡ true =
    greatest_passes most all (every_axis n (λ axis. test axis 0) none) in
    record {
      within = omega (arith, greatest_within most all);
      passes = λ r axis h within. falls axis r (greatest_up_to most all) within h
          (each_axis n (λ a. test a (greatest_up_to most all)) axis found within);
      most = λ r h each. greatest_above most all r (omega arith)
          (every_axis n (λ axis. test axis r) each);
    }
