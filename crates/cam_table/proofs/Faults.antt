-- What is wrong with points is reported by one fault alone.
-- for: new
use Rattle.std.proofs.Common.{◌≡◌, ℕ, ◌+◌, ◌-◌, ◌<◌, ◌≤◌, ℤ, ◌<ℤ◌, List, length, refl, sym, ap, subst, inl, inr, arith}
use Rattle.std.proofs.lemmas.Bool.{cases_lt}
use Rattle.std.proofs.lemmas.Int.{ints}
use Rattle.cam_table.specs.declared.fault.CamFault.{CamFault}
use Rattle.cam_table.specs.declared.fault.CamFault.TheVariants.{TooFew, TooMany, BadRow, NotRising, OutOfMemory}
use Rattle.cam_table.specs.CamTable.{point_of, size_of, IsGoodRow, IsCamTable}
use Rattle.cam_table.specs.CamFault.{IsBeyond, IsFalling, IsReached, IsFault, IsRowFault}

-- one more good row
pub good_more : (points : List (ℤ × ℤ)) (at : ℕ) → ((row : ℕ) → 1 ≤ row → row < at + 1 → IsGoodRow points row) → IsGoodRow points (at + 1) → (row : ℕ) → 1 ≤ row → row < at + 1 + 1 → IsGoodRow points row
good_more points at so_far here row first last =
    elim (cases_lt row (at + 1)) [
      | inl before ↦ so_far row first before
      | inr not_before ↦ (let same : at + 1 ≡ row = omega arith in let P : ℕ → Type 0 = λ n. IsGoodRow points n in subst P same here)
    ]

-- the fault of the first row that isn't good is that of the points
pub fault_of_row : (points : List (ℤ × ℤ)) (row : ℕ) (fault : CamFault) → IsReached points row → IsRowFault points row fault → IsFault points fault
fault_of_row points row (BadRow told) reached (same, beyond) =
    (let P : ℕ → Type 0 = λ n. IsReached points n × IsBeyond points n in subst P (sym same) (reached, beyond))
fault_of_row points row (NotRising told) reached (same, falling) =
    (let P : ℕ → Type 0 = λ n. IsReached points n × IsFalling points n in subst P (sym same) (reached, falling))
fault_of_row points row TooFew reached fault = absurd fault
fault_of_row points row TooMany reached fault = absurd fault
fault_of_row points row OutOfMemory reached fault = absurd fault

-- two rows that are reached and not good are one
same_row : (points : List (ℤ × ℤ)) (r s : ℕ) → IsReached points r → IsReached points s → (IsGoodRow points r → ⊥) → (IsGoodRow points s → ⊥) → r ≡ s
same_row points r s at_r at_s bad_r bad_s =
    elim (cases_lt r s) [
      | inl before ↦ absurd (bad_r (at_s.before r at_r.first before))
      | inr not_before ↦ elim (cases_lt s r) [
        | inl after ↦ absurd (bad_s (at_r.before s at_s.first after))
        | inr not_after ↦ omega arith
      ]
    ]

beyond_is_bad : (points : List (ℤ × ℤ)) (row : ℕ) → IsBeyond points row → IsGoodRow points row → ⊥
beyond_is_bad points row beyond good = let within : size_of (point_of points row) ≤ 1000000000000000 = good.within in omega arith

falling_is_bad : (points : List (ℤ × ℤ)) (row : ℕ) → IsFalling points row → IsGoodRow points row → ⊥
falling_is_bad points row falling good = let rises : (point_of points (row - 1)).0 <ℤ (point_of points row).0 = good.rises falling.second in omega (arith, ints)

beyond_or_falling : (points : List (ℤ × ℤ)) (r s : ℕ) → r ≡ s → IsBeyond points r → IsFalling points s → ⊥
beyond_or_falling points r s same beyond falling =
    let P : ℕ → Type 0 = λ n. IsBeyond points n in
    let there : IsBeyond points s = subst P same beyond in
    let within : size_of (point_of points s) ≤ 1000000000000000 = falling.within in omega arith

-- points that have one fault have no other
pub fault_is_one : (points : List (ℤ × ℤ)) (f g : CamFault) → IsFault points f → IsFault points g → f ≡ g
fault_is_one points TooFew TooFew a b = refl
fault_is_one points TooFew TooMany a b = absurd (omega arith)
fault_is_one points TooFew (BadRow s) a b = let enough : 2 ≤ length points = b.0.enough in absurd (omega arith)
fault_is_one points TooFew (NotRising s) a b = let enough : 2 ≤ length points = b.0.enough in absurd (omega arith)
fault_is_one points TooFew OutOfMemory a b = absurd b
fault_is_one points TooMany TooFew a b = absurd (omega arith)
fault_is_one points TooMany TooMany a b = refl
fault_is_one points TooMany (BadRow s) a b = let few : length points ≤ 4096 = b.0.few in absurd (omega arith)
fault_is_one points TooMany (NotRising s) a b = let few : length points ≤ 4096 = b.0.few in absurd (omega arith)
fault_is_one points TooMany OutOfMemory a b = absurd b
fault_is_one points (BadRow r) TooFew a b = let enough : 2 ≤ length points = a.0.enough in absurd (omega arith)
fault_is_one points (BadRow r) TooMany a b = let few : length points ≤ 4096 = a.0.few in absurd (omega arith)
fault_is_one points (BadRow r) (BadRow s) a b = ap BadRow (same_row points r s a.0 b.0 (beyond_is_bad points r a.1) (beyond_is_bad points s b.1))
fault_is_one points (BadRow r) (NotRising s) a b =
    absurd (beyond_or_falling points r s (same_row points r s a.0 b.0 (beyond_is_bad points r a.1) (falling_is_bad points s b.1)) a.1 b.1)
fault_is_one points (BadRow r) OutOfMemory a b = absurd b
fault_is_one points (NotRising r) TooFew a b = let enough : 2 ≤ length points = a.0.enough in absurd (omega arith)
fault_is_one points (NotRising r) TooMany a b = let few : length points ≤ 4096 = a.0.few in absurd (omega arith)
fault_is_one points (NotRising r) (BadRow s) a b =
    absurd (beyond_or_falling points s r (sym (same_row points r s a.0 b.0 (falling_is_bad points r a.1) (beyond_is_bad points s b.1))) b.1 a.1)
fault_is_one points (NotRising r) (NotRising s) a b = ap NotRising (same_row points r s a.0 b.0 (falling_is_bad points r a.1) (falling_is_bad points s b.1))
fault_is_one points (NotRising r) OutOfMemory a b = absurd b
fault_is_one points OutOfMemory g a b = absurd a

-- and a cam table has none
pub table_has_none : (points : List (ℤ × ℤ)) (f : CamFault) → IsCamTable points → IsFault points f → ⊥
table_has_none points TooFew table a = let enough : 2 ≤ length points = table.enough in omega arith
table_has_none points TooMany table a = let few : length points ≤ 4096 = table.few in omega arith
table_has_none points (BadRow r) table a = beyond_is_bad points r a.1 (table.rows r a.0.first a.0.last)
table_has_none points (NotRising r) table a = falling_is_bad points r a.1 (table.rows r a.0.first a.0.last)
table_has_none points OutOfMemory table a = a
