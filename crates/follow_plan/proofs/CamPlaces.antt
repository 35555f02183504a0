-- Where a cam stands: by the points that the master has passed.
-- for: cam_position, cam_positions_lie_between_points
use Rattle.std.proofs.Common.{◌≡◌, ℕ, zero, suc, ◌+◌, ◌-◌, ◌<◌, ◌≤◌, refl, sym, ◌∙◌, ap, subst, inl, inr, arith, ℤ, pos, ◌-ℤ◌, ◌*ℤ◌, ◌≤ℤ◌, ◌<ℤ◌, int_lt, int_le, true, false, List, [], ◌∷◌, length, slice_index_or}
use Rattle.std.proofs.lemmas.Bool.{cases_lt}
use Rattle.std.proofs.lemmas.Int.{ints}
use Rattle.cam_table.specs.CamTable.{size_of, IsGoodRow, IsCamTable}
use Rattle.follow_plan.specs.Floor.{floor_of}
use Rattle.follow_plan.specs.Cam.{position_between, position_after, cam_position_of}
use Rattle.follow_plan.proofs.Floors.{floor_between, floor_none}

-- the point at an index, the indices counted from 0
abbrev pub at_of : List (ℤ × ℤ) → ℕ → ℤ × ℤ
at_of points at = slice_index_or points at (pos 0, pos 0)

rises_at : (points : List (ℤ × ℤ)) (row i j : ℕ) → IsGoodRow points row → 1 < row → row - 1 ≡ j → row - 1 - 1 ≡ i → (at_of points i).0 <ℤ (at_of points j).0
rises_at points row i j good second here before = rw (← before, ← here) (good.rises second)

-- each point lies ahead of the one before it
pub neighbours_rise : (points : List (ℤ × ℤ)) (i j : ℕ) → IsCamTable points → j ≡ suc i → j < length points → (at_of points i).0 <ℤ (at_of points j).0
neighbours_rise points i j table next within = rises_at points (j + 1) i j (table.rows (j + 1) (omega arith) (omega arith)) (omega arith) (omega arith) (omega arith)

same_point : (points : List (ℤ × ℤ)) (i j : ℕ) → i ≡ j → (at_of points i).0 ≤ℤ (at_of points j).0
same_point points i j same = rw same (omega (arith, ints))

-- and of all before it
pub points_rise : (points : List (ℤ × ℤ)) (i j : ℕ) → IsCamTable points → i ≤ j → j < length points → (at_of points i).0 ≤ℤ (at_of points j).0
points_rise points i zero table order within = same_point points i zero (omega arith)
points_rise points i (suc j) table order within =
    elim (cases_lt i (suc j)) [
      | inl before ↦ (let earlier : (at_of points i).0 ≤ℤ (at_of points j).0 = points_rise points i j table (omega arith) (omega arith) in
          let last : (at_of points j).0 <ℤ (at_of points (suc j)).0 = neighbours_rise points j (suc j) table (omega arith) within in omega (arith, ints))
      | inr not_before ↦ same_point points i (suc j) (omega arith)
    ]

-- before the first point
pub before_first : (points : List (ℤ × ℤ)) (master : ℤ) → 0 < length points → master <ℤ (at_of points 0).0 → cam_position_of points master ≡ (at_of points 0).1
unfolding cam_position_of
before_first [] master some before = absurd (omega arith)
before_first (p ∷ more) master some before = let test : int_lt master p.0 ≡ true = grind (arith, ints) in rw test refl

-- at or after the first point
pub passed_first : (p : ℤ × ℤ) (more : List (ℤ × ℤ)) (master : ℤ) → p.0 ≤ℤ master → cam_position_of (p ∷ more) master ≡ position_after p more master
unfolding cam_position_of
passed_first p more master passed = let test : int_lt master p.0 ≡ false = grind (arith, ints) in rw test refl

pub next_passed : (p q : ℤ × ℤ) (more : List (ℤ × ℤ)) (master : ℤ) → q.0 ≤ℤ master → position_after p (q ∷ more) master ≡ position_after q more master
unfolding position_after
next_passed p q more master passed = let test : int_lt master q.0 ≡ false = grind (arith, ints) in rw test refl

pub next_ahead : (p q : ℤ × ℤ) (more : List (ℤ × ℤ)) (master : ℤ) → master <ℤ q.0 → position_after p (q ∷ more) master ≡ position_between p q master
unfolding position_after
next_ahead p q more master ahead = let test : int_lt master q.0 ≡ true = grind (arith, ints) in rw test refl

pub none_next : (p : ℤ × ℤ) (master : ℤ) → position_after p [] master ≡ p.1
unfolding position_after
none_next p master = refl

between_from : (p : ℤ × ℤ) (more : List (ℤ × ℤ)) (master : ℤ) (at : ℕ) → ((k : ℕ) → k ≤ at → (at_of (p ∷ more) k).0 ≤ℤ master) → suc at < length (p ∷ more) → master <ℤ (at_of (p ∷ more) (suc at)).0 → position_after p more master ≡ position_between (at_of (p ∷ more) at) (at_of (p ∷ more) (suc at)) master
between_from p [] master at passed within ahead = absurd (omega arith)
between_from p (q ∷ more) master zero passed within ahead = next_ahead p q more master ahead
between_from p (q ∷ more) master (suc at) passed within ahead =
    next_passed p q more master (passed 1 (omega arith))
    ∙ between_from q more master at (λ k h. passed (suc k) (omega arith)) (omega arith) ahead

-- at or after a point, before the next one
pub after_point : (points : List (ℤ × ℤ)) (master : ℤ) (at next : ℕ) → next ≡ suc at → ((k : ℕ) → k ≤ at → (at_of points k).0 ≤ℤ master) → next < length points → master <ℤ (at_of points next).0 → cam_position_of points master ≡ position_between (at_of points at) (at_of points next) master
after_point [] master at next follows passed within ahead = absurd (omega arith)
after_point (p ∷ more) master at next follows passed within ahead =
    let P : ℕ → Type 0 = λ n. n < length (p ∷ more) → master <ℤ (at_of (p ∷ more) n).0 → cam_position_of (p ∷ more) master ≡ position_between (at_of (p ∷ more) at) (at_of (p ∷ more) n) master in
    subst P (sym follows) (λ w a. passed_first p more master (passed 0 (omega arith)) ∙ between_from p more master at passed w a) within ahead

behind_from : (p : ℤ × ℤ) (more : List (ℤ × ℤ)) (master : ℤ) (at : ℕ) → ((k : ℕ) → k ≤ at → (at_of (p ∷ more) k).0 ≤ℤ master) → suc at ≡ length (p ∷ more) → position_after p more master ≡ (at_of (p ∷ more) at).1
behind_from p [] master zero passed last = none_next p master
behind_from p [] master (suc at) passed last = absurd (omega arith)
behind_from p (q ∷ more) master zero passed last = absurd (omega arith)
behind_from p (q ∷ more) master (suc at) passed last =
    next_passed p q more master (passed 1 (omega arith))
    ∙ behind_from q more master at (λ k h. passed (suc k) (omega arith)) (omega arith)

-- at or after the last point
pub behind_last : (points : List (ℤ × ℤ)) (master : ℤ) (at : ℕ) → suc at ≡ length points → ((k : ℕ) → k ≤ at → (at_of points k).0 ≤ℤ master) → cam_position_of points master ≡ (at_of points at).1
behind_last [] master at last passed = absurd (omega arith)
behind_last (p ∷ more) master at last passed =
    passed_first p more master (passed 0 (omega arith)) ∙ behind_from p more master at passed last

-- on a line between two points that lie within a range
pub between_in_range : (p q : ℤ × ℤ) (low high master : ℤ) → p.0 ≤ℤ master → master <ℤ q.0 → low ≤ℤ p.1 → p.1 ≤ℤ high → low ≤ℤ q.1 → q.1 ≤ℤ high → (low ≤ℤ position_between p q master) × (position_between p q master ≤ℤ high)
unfolding position_between
between_in_range p q low high master passed ahead p_low p_high q_low q_high =
    let part : ((low -ℤ p.1) ≤ℤ floor_of ((q.1 -ℤ p.1) *ℤ (master -ℤ p.0)) (q.0 -ℤ p.0)) × (floor_of ((q.1 -ℤ p.1) *ℤ (master -ℤ p.0)) (q.0 -ℤ p.0) ≤ℤ (high -ℤ p.1)) =
    floor_between (q.1 -ℤ p.1) (master -ℤ p.0) (q.0 -ℤ p.0) (low -ℤ p.1) (high -ℤ p.1)
    (omega (arith, ints)) (omega (arith, ints)) (omega (arith, ints)) (omega (arith, ints)) (omega (arith, ints)) (omega (arith, ints)) (omega (arith, ints)) in
    (omega (arith, ints, part.0), omega (arith, ints, part.1))

-- at a point the line to the next stands at the point
pub between_at_point : (p q : ℤ × ℤ) (master : ℤ) → master ≡ p.0 → p.0 <ℤ q.0 → position_between p q master ≡ p.1
unfolding position_between
between_at_point p q master here ahead =
    let none : floor_of ((q.1 -ℤ p.1) *ℤ (master -ℤ p.0)) (q.0 -ℤ p.0) ≡ pos 0 = floor_none (q.1 -ℤ p.1) (master -ℤ p.0) (q.0 -ℤ p.0) (omega (arith, ints)) (omega (arith, ints)) in
    omega (arith, ints)

same_default : (points : List (ℤ × ℤ)) (i : ℕ) (d : ℤ × ℤ) → i < length points → slice_index_or points i d ≡ at_of points i
same_default [] i d within = absurd (omega arith)
same_default (p ∷ more) zero d within = refl
same_default (p ∷ more) (suc i) d within = same_default more i d (omega arith)

-- a point before one that was passed was passed
pub still_passed : (points : List (ℤ × ℤ)) (i j : ℕ) (d : ℤ × ℤ) (master : ℤ) → IsCamTable points → i ≤ j → j < length points → int_le (slice_index_or points j d).0 master ≡ true → int_le (slice_index_or points i d).0 master ≡ true
still_passed points i j d master table order within passed =
    rw (same_default points i d (omega arith))
    (let there : int_le (at_of points j).0 master ≡ true = rw (same_default points j d within) at passed in
    let rise : (at_of points i).0 ≤ℤ (at_of points j).0 = points_rise points i j table order within in grind (arith, ints))

row_in_range : (points : List (ℤ × ℤ)) (row at : ℕ) → IsGoodRow points row → row - 1 ≡ at → size_of (at_of points at) ≤ 1000000000000000
row_in_range points row at good here = rw (← here) good.within

-- each point of a table is within 10^15
pub point_in_range : (points : List (ℤ × ℤ)) (at : ℕ) → IsCamTable points → at < length points → size_of (at_of points at) ≤ 1000000000000000
point_in_range points at table within = row_in_range points (at + 1) at (table.rows (at + 1) (omega arith) (omega arith)) (omega arith)

pub same_table : (points table : List (ℤ × ℤ)) → points ≡ table → IsCamTable table → IsCamTable points
same_table points table same is = rw same is

-- the position by the points is that by the table that they are
pub same_position : (points table : List (ℤ × ℤ)) (master z y : ℤ) → z ≡ y → cam_position_of points master ≡ y → points ≡ table → z ≡ cam_position_of table master
same_position points table master z y read is same = read ∙ sym is ∙ ap (λ l. cam_position_of l master) same
