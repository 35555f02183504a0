-- What the line of a load counts.
-- for: dones, last_sum, refusals and others
use Rattle.std.specs.Prelude.{◌≡◌, refl, ℕ, ℤ, zero, suc, ◌+◌, ◌-◌, ◌<◌, ◌≤◌, pos, ◌+ℤ◌, Bool, true, false, cond, Option, Some, None, IfSome, List, [], ◌∷◌, ◌++◌, length, drop, take, count_by, slice_get, slice_index_or}
use Rattle.std.specs.Option.{unwrap_or}
use Rattle.std.proofs.Common.{◌∙◌, sym, ap, arith}
use Rattle.std.proofs.lemmas.List.{drop_all, drop_more, take_more}
use Rattle.std.proofs.lemmas.List.Sums.{sum_by_more}
use Rattle.motion_history.specs.Entries.{Entry, end_of}
use Rattle.plc_types.specs.declared.axis.AxisRow.{AxisRow}
use Rattle.load_job.specs.Lines.{rows_behind, last_rows, rows_of, setpoint_sum}

-- the entry at a place
entry-at : (P : Entry → Type 0) (es : List Entry) (i : ℕ) → i < length es → IfSome (slice_get es i) P →
    P (slice_index_or es i (end_of 0))
entry-at P [] i lt h = absurd (omega arith)
entry-at P (e ∷ es) zero lt h = h
entry-at P (e ∷ es) (suc i) lt h = entry-at P es i (omega arith) h

-- one entry more is counted
pub count-more : (p : Entry → Bool) (es : List Entry) (i count one : ℕ) (b : Bool) → i < length es →
    IfSome (slice_get es i) (λ e. b ≡ p e) → count ≡ count_by p (take i es) →
    (b ≡ true → one ≡ 1) → (b ≡ false → one ≡ 0) → count + one ≡ count_by p (take (i + 1) es)
count-more p es i count one b lt at is yet not =
    let e = slice_index_or es i (end_of 0) in
    let same : b ≡ p e = entry-at (λ x. b ≡ p x) es i lt at in
    let o : one ≡ cond b 1 0 = as-counted b one yet not in
    (λ j. is j + (o ∙ ap (λ t. cond t 1 0) same) j)
    ∙ sym (sum_by_more (λ x. cond (p x) 1 0) es i (end_of 0) lt)
  where
    as-counted : (c : Bool) (n : ℕ) → (c ≡ true → n ≡ 1) → (c ≡ false → n ≡ 0) → n ≡ cond c 1 0
    as-counted true n t f = t refl
    as-counted false n t f = f refl

pub at-most-one : (b : Bool) (one : ℕ) → (b ≡ true → one ≡ 1) → (b ≡ false → one ≡ 0) → one ≤ 1
at-most-one true one yet not = let e = yet refl in omega (arith, e)
at-most-one false one yet not = let e = not refl in omega (arith, e)

-- one entry more
rows-more : (rows : List AxisRow) (es : List Entry) (e : Entry) →
    rows_behind rows (es ++ e ∷ []) ≡ unwrap_or (rows_of e) (rows_behind rows es)
rows-more rows [] e = refl
rows-more rows (d ∷ es) e = rows-more (unwrap_or (rows_of d) rows) es e

-- the last rows of the first entries
rows-at : (es : List Entry) (i : ℕ) (o : Option (List AxisRow)) → i < length es →
    IfSome (slice_get es i) (λ e. o ≡ rows_of e) →
    last_rows (take (i + 1) es) ≡ unwrap_or o (last_rows (take i es))
unfolding last_rows
rows-at es i o lt at =
    let e = slice_index_or es i (end_of 0) in
    let same : o ≡ rows_of e = entry-at (λ x. o ≡ rows_of x) es i lt at in
    ap (rows_behind []) (take_more es i (end_of 0) lt) ∙ rows-more [] (take i es) e
    ∙ ap (λ x. unwrap_or x (rows_behind [] (take i es))) (sym same)

-- the entry in front of those that were looked at
pub rows-found : (es : List Entry) (n behind : ℕ) (o : Option (List AxisRow)) (rows : List AxisRow) →
    n ≡ length es → behind < n → last_rows (take (n - behind) es) ≡ last_rows es →
    IfSome (slice_get es (n - 1 - behind)) (λ e. o ≡ rows_of e) → o ≡ Some rows → rows ≡ last_rows es
rows-found es n behind o rows all lt left at is =
    let one : n - 1 - behind + 1 ≡ n - behind = omega arith in
    ap (λ x. unwrap_or x (last_rows (take (n - 1 - behind) es))) (sym is)
    ∙ sym (rows-at es (n - 1 - behind) o (omega (arith, all)) at)
    ∙ ap (λ m. last_rows (take m es)) one ∙ left

pub rows-further : (es : List Entry) (n behind : ℕ) (o : Option (List AxisRow)) →
    n ≡ length es → behind < n → last_rows (take (n - behind) es) ≡ last_rows es →
    IfSome (slice_get es (n - 1 - behind)) (λ e. o ≡ rows_of e) → o ≡ None →
    last_rows (take (n - (behind + 1)) es) ≡ last_rows es
rows-further es n behind o all lt left at is =
    let one : n - 1 - behind + 1 ≡ n - behind = omega arith in
    let next : n - (behind + 1) ≡ n - 1 - behind = omega arith in
    ap (λ m. last_rows (take m es)) next
    ∙ ap (λ x. unwrap_or x (last_rows (take (n - 1 - behind) es))) (sym is)
    ∙ sym (rows-at es (n - 1 - behind) o (omega (arith, all)) at)
    ∙ ap (λ m. last_rows (take m es)) one ∙ left

pub no-rows-left : (es : List Entry) (n behind : ℕ) → n ≤ behind →
    last_rows (take (n - behind) es) ≡ last_rows es → [] ≡ last_rows es
unfolding last_rows
no-rows-left es n behind past left =
    let none : n - behind ≡ 0 = omega arith in
    sym (ap (λ m. rows_behind [] (take m es)) none) ∙ left

-- the sum of the rows that are left, by the next
pub sum-more : (rows : List AxisRow) (i : ℕ) (d : AxisRow) (z : ℤ) → i < length rows →
    z ≡ (slice_index_or rows i d).setpoint →
    setpoint_sum (drop i rows) ≡ z +ℤ setpoint_sum (drop (i + 1) rows)
unfolding setpoint_sum
sum-more rows i d z lt is =
    ap setpoint_sum (drop_more rows i d lt) ∙ ap (λ x. x +ℤ setpoint_sum (drop (i + 1) rows)) (sym is)

pub sum-none : (rows : List AxisRow) (i : ℕ) → length rows ≤ i → setpoint_sum (drop i rows) ≡ pos 0
unfolding setpoint_sum
sum-none rows i past = ap setpoint_sum (drop_all i rows past)

pub sum-of-none : (rows : List AxisRow) → [] ≡ rows → pos 0 ≡ setpoint_sum rows
unfolding setpoint_sum
sum-of-none rows is = ap setpoint_sum is
