-- How many looks a search takes that first doubles its way from the least and then halves what is
-- left.
-- for: greatest_between
use Rattle.std.proofs.Common.{inl, inr, ◌≡◌, ℕ, ◌+◌, ◌-◌, ◌*◌, ◌/◌, ◌<◌, ◌≤◌, zero, suc, min, max, arith, refl}
use Rattle.std.proofs.lemmas.Bool.{cases_lt}
use Rattle.std.proofs.lemmas.Nat.{mul-le}

-- 1 doubled n times
pub doubled : ℕ → ℕ
doubled zero = 1
doubled (suc n) = 2 * doubled n

doubled_none : doubled 0 ≡ 1
unfolding doubled
doubled_none = refl

doubled_next : (n : ℕ) → doubled (suc n) ≡ 2 * doubled n
unfolding doubled
doubled_next n = refl

-- and times a number
doubled_times : (a n : ℕ) → a * doubled (suc n) ≡ 2 * (a * doubled n)
doubled_times a n = rw (doubled_next n) (omega arith)

doubled_nothing : (a : ℕ) → a * doubled 0 ≡ a
doubled_nothing a = rw doubled_none (omega arith)

-- it is some
doubled_some : (n : ℕ) → 1 ≤ doubled n
doubled_some zero = omega (arith, doubled_none)
doubled_some (suc n) = omega (arith, doubled_some n, doubled_next n)

-- more times it is more
doubled_more : (n m : ℕ) → n < m → doubled n < doubled m
doubled_more n zero h = absurd (omega arith)
doubled_more n (suc m) h =
    elim (cases_lt n m) [
      | inl below ↦ omega (arith, doubled_more n m below, doubled_some m, doubled_next m)
      | inr same ↦ let is : n ≡ m = omega arith in rw is (omega (arith, doubled_some m, doubled_next m))
    ]

-- so it is small only a few times
doubled_few : (n m : ℕ) → doubled n ≤ doubled m → n ≤ m
doubled_few n m h = elim (cases_lt m n) [ inr few ↦ few | inl many ↦ absurd (omega (arith, doubled_more m n many)) ]

-- 36 times
doubled_36 : doubled 36 ≡ 68719476736
unfolding doubled
doubled_36 = refl

-- the looks so far are no more: as often the way from the least was doubled, or what is left halved
pub record Spent (way left now start : ℕ) : Type 0 where
  pub up : ℕ
  pub down : ℕ
  pub sum : now ≤ start + (up + down)
  pub gained : doubled up ≤ max (2 * way) 1
  pub halved : (left - 1) * doubled down ≤ doubled 36
  pub few_up : up ≤ 36
  pub few_down : down ≤ 37

-- none yet
pub spent_none : (left start : ℕ) → left ≤ 20000000000 → Spent 0 left start start
spent_none left start h = record {
  up = 0;
  down = 0;
  sum = omega arith;
  gained = omega (arith, doubled_none);
  halved = omega (arith, doubled_36, doubled_nothing (left - 1));
  few_up = omega arith;
  few_down = omega arith;
}

-- what is left was halved, or more
halved_once : (way way1 left left1 now start : ℕ) → 2 ≤ left → 2 * (left1 - 1) ≤ left - 1 → way ≤ way1 → Spent way left now start → Spent way1 left1 (now + 1) start
halved_once way way1 left left1 now start some half more spent =
    let least : 1 * doubled spent.down ≤ (left - 1) * doubled spent.down = mul-le 1 (doubled spent.down) (left - 1) (doubled spent.down) (omega arith) (omega arith) in
    let few : spent.down ≤ 36 = doubled_few spent.down 36 (omega (arith, spent.halved)) in
    let times : (2 * (left1 - 1)) * doubled spent.down ≤ (left - 1) * doubled spent.down = mul-le (2 * (left1 - 1)) (doubled spent.down) (left - 1) (doubled spent.down) half (omega arith) in
    record {
      up = spent.up;
      down = suc spent.down;
      sum = omega (arith, spent.sum);
      gained = omega (arith, spent.gained);
      halved = omega (arith, spent.halved, doubled_times (left1 - 1) spent.down);
      few_up = spent.few_up;
      few_down = omega arith;
    }

-- the way from the least was doubled
doubled_once : (way way1 left left1 now start : ℕ) → way1 ≤ 20000000000 → max (2 * way) 1 ≤ way1 → left1 ≤ left → Spent way left now start → Spent way1 left1 (now + 1) start
doubled_once way way1 left left1 now start small twice less spent =
    let gained : doubled (suc spent.up) ≤ max (2 * way1) 1 = omega (arith, spent.gained, doubled_next spent.up) in
    let few : suc spent.up ≤ 36 = doubled_few (suc spent.up) 36 (omega (arith, doubled_36)) in
    let times : (left1 - 1) * doubled spent.down ≤ (left - 1) * doubled spent.down = mul-le (left1 - 1) (doubled spent.down) (left - 1) (doubled spent.down) (omega arith) (omega arith) in
    record {
      up = suc spent.up;
      down = spent.down;
      sum = omega (arith, spent.sum);
      gained = gained;
      halved = omega (arith, spent.halved);
      few_up = few;
      few_down = spent.few_down;
    }

-- a speed between that fits
pub spent_fits : (least fits fails middle now start : ℕ) → least ≤ fits → fails ≤ least + 20000000000 → fits + 1 < fails →
    middle ≡ fits + min (max (fits - least) 1) ((fails - fits) / 2) → Spent (fits - least) (fails - fits) now start → Spent (middle - least) (fails - middle) (now + 1) start
spent_fits least fits fails middle now start above small gap is spent =
    elim (cases_lt ((fails - fits) / 2) (max (fits - least) 1)) [
      | inl half ↦ halved_once (fits - least) (middle - least) (fails - fits) (fails - middle) now start (omega arith) (omega arith) (omega arith) spent
      | inr whole ↦ doubled_once (fits - least) (middle - least) (fails - fits) (fails - middle) now start (omega arith) (omega arith) (omega arith) spent
    ]

-- one that fails
pub spent_fails : (least fits fails middle now start : ℕ) → fits + 1 < fails →
    middle ≡ fits + min (max (fits - least) 1) ((fails - fits) / 2) → Spent (fits - least) (fails - fits) now start → Spent (fits - least) (middle - fits) (now + 1) start
spent_fails least fits fails middle now start gap is spent =
    halved_once (fits - least) (fits - least) (fails - fits) (middle - fits) now start (omega arith) (omega arith) (omega arith) spent

-- so many at most
pub spent_few : (way left now start : ℕ) → Spent way left now start → now ≤ start + 73
spent_few way left now start spent = omega (arith, spent.sum, spent.few_up, spent.few_down)
