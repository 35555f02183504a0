-- The test of points and what a cam table keeps.
-- for: cam_tables_are_told
use Rattle.std.proofs.Common.{◌≡◌, refl, ℕ, zero, suc, ◌-◌, ◌<◌, ◌≤◌, ℤ, ◌<ℤ◌, true, false, Bool, List, length, ◌&&◌, ◌||◌, inl, inr, arith, subst}
use Rattle.std.specs.Prelude.{nat_le, int_lt, ◌↔◌}
use Rattle.std.proofs.lemmas.Bool.{and_parts, cases_Bool, cases_eq, leb-false, leb-true, le-leb}
use Rattle.std.proofs.lemmas.Int.{ints}
use Rattle.motion_numbers.specs.declared.TheConstants.{MOST_PLACE}
use Rattle.cam_table.specs.CamTable.{IsCamTable, IsGoodRow, are_good_rows, is_cam_table, is_good_row, point_of, size_of}
use Rattle.cam_table.specs.declared.table.TheConstants.{MOST_POINTS}

-- a row after the first rises
either_rises : (row : ℕ) (a b : ℤ) → (nat_le row 1 || int_lt a b) ≡ true → 1 < row → a <ℤ b
either_rises row a b h later =
    elim (cases_Bool (int_lt a b)) [
      | inl rises ↦ omega (arith, ints, rises)
      | inr falls ↦
          let first : (nat_le row 1 || false) ≡ true = rw falls at h in
          elim (cases_Bool (nat_le row 1)) [
            | inl yet ↦ let l = leb-true _ _ yet in absurd (omega (arith, l, later))
            | inr behind ↦ let e : false ≡ true = rw behind at first in absurd (cc)
          ]
    ]

rises_either : (row : ℕ) (a b : ℤ) → (1 < row → a <ℤ b) → (nat_le row 1 || int_lt a b) ≡ true
rises_either row a b h =
    elim (cases_Bool (nat_le row 1)) [
      | inl yet ↦ rw yet refl
      | inr behind ↦ elim (cases_Bool (int_lt a b)) [
        | inl rises ↦ rw (behind, rises) refl
        | inr falls ↦ let up : a <ℤ b = h (leb-false _ _ behind) in absurd (omega (arith, ints, falls, up))
      ]
    ]

good_row : (points : List (ℤ × ℤ)) (row : ℕ) → is_good_row points row ≡ true → IsGoodRow points row
good_row points row h =
    let parts = and_parts (nat_le (size_of (point_of points row)) MOST_PLACE) (nat_le row 1 || int_lt (point_of points (row - 1)).0 (point_of points row).0) h in
    record {
      within = leb-true _ _ parts.0;
      rises = λ later. either_rises row (point_of points (row - 1)).0 (point_of points row).0 parts.1 later;
    }

row_good : (points : List (ℤ × ℤ)) (row : ℕ) → IsGoodRow points row → is_good_row points row ≡ true
row_good points row h =
    rw (le-leb (size_of (point_of points row)) MOST_PLACE h.within) (rises_either row (point_of points (row - 1)).0 (point_of points row).0 h.rises)

-- the first rows that pass are good
good_rows : (points : List (ℤ × ℤ)) (rows : ℕ) → are_good_rows points rows ≡ true → (row : ℕ) → 1 ≤ row → row ≤ rows → IsGoodRow points row
good_rows points zero h row first last = absurd (omega arith)
good_rows points (suc rows) h row first last =
    let parts = and_parts (are_good_rows points rows) (is_good_row points (suc rows)) h in
    elim (cases_eq row (suc rows)) [
      | inl same ↦ subst (λ r. IsGoodRow points r) (let e : suc rows ≡ row = omega (arith, same) in e) (good_row points (suc rows) parts.1)
      | inr other ↦ good_rows points rows parts.0 row first (omega (arith, other))
    ]

-- good rows pass
rows_good : (points : List (ℤ × ℤ)) (rows : ℕ) → ((row : ℕ) → 1 ≤ row → row ≤ rows → IsGoodRow points row) → are_good_rows points rows ≡ true
rows_good points zero h = refl
rows_good points (suc rows) h =
    rw (rows_good points rows (λ row first last. h row first (omega arith)), row_good points (suc rows) (h (suc rows) (omega arith) (omega arith))) refl

pub is_cam_table-told : (points : List (ℤ × ℤ)) → (is_cam_table points ≡ true) ↔ IsCamTable points
unfolding is_cam_table
is_cam_table-told points = (
  λ h.
      let parts = and_parts (nat_le 2 (length points) && nat_le (length points) MOST_POINTS) _ h in
      let sizes = and_parts (nat_le 2 (length points)) _ parts.0 in
      record { enough = leb-true _ _ sizes.0; few = leb-true _ _ sizes.1; rows = good_rows points (length points) parts.1 },
  λ t. rw (le-leb 2 (length points) t.enough, le-leb (length points) MOST_POINTS t.few, rows_good points (length points) t.rows) refl,
)
