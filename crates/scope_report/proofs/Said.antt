-- What the reports say.
-- for: reports_say_what_is_asked
use Rattle.std.proofs.Common.{◌≡◌, ◌⊎◌, inl, inr, ⊎_elim, ◌≤ℤ◌, ◌<◌, ◌+◌, ℕ, ℤ, pos, zero, suc, Option, Some, None, List, [], ◌∷◌, length, slice_index_or, refl, ap, sym, ◌∙◌, subst, arith}
use Rattle.std.specs.Prelude.{Contains, slice_get}
use Rattle.std.specs.Int.{int_min, int_max}
use Rattle.std.proofs.lemmas.Int.{by_lt_z, clamps, ints}
use Rattle.std.proofs.lemmas.List.Elements.{All-cons, All-nil, All-same, All-weaker}
use Rattle.plc_types.specs.declared.axis.AxisDef.{AxisDef}
use Rattle.plc_types.specs.declared.axis.AxisRow.{AxisRow}
use Rattle.motion_history.specs.Entries.{Entry}
use Rattle.motion_history.specs.declared.config.BlockDef.{BlockDef}
use Rattle.trace_text.specs.TraceState.{TraceState, entries_of}
use Rattle.scope_report.proofs.Cutting.{none-is-not}
use Rattle.scope_report.specs.Laws.{AreNeighbours, IsGreatest, IsLeast, SaysOfAxis, SaysOfEach, SaysOfRows}
use Rattle.scope_report.specs.Replies.{replies_of}
use Rattle.scope_report.specs.Reports.{axis_report_of, axis_reports_from, block_report_of, block_reports_from}
use Rattle.scope_report.specs.Rows.{rows_of}
use Rattle.scope_report.specs.Setpoints.{driven_of, greatest_of, least_of, neighbours_of, pairs_from, picked, setpoints_of}
use Rattle.scope_report.specs.declared.report.AxisReport.{AxisReport}
use Rattle.scope_report.specs.declared.report.BlockReport.{BlockReport}
use Rattle.std.proofs.lemmas.Option.{same_Some}

-- ---- the least and the greatest

contains-first : (x : ℤ) (xs : List ℤ) → Contains (x ∷ xs) x
contains-first x xs = (zero, omega arith, refl)

contains-more : (y x : ℤ) (xs : List ℤ) → Contains xs x → Contains (y ∷ xs) x
contains-more y x xs h = (suc h.0, (let lt = h.1 in omega (arith, lt)), h.2)

min-cases : (x z : ℤ) →
    ((int_min x z ≡ x) × (x ≤ℤ z)) ⊎ ((int_min x z ≡ z) × (z ≤ℤ x))
min-cases x z = by_lt_z x z
    (λ h. inl (omega (arith, ints, clamps), omega (arith, ints)))
    (λ h. inr (omega (arith, ints, clamps), h))

max-cases : (x z : ℤ) →
    ((int_max x z ≡ x) × (z ≤ℤ x)) ⊎ ((int_max x z ≡ z) × (x ≤ℤ z))
max-cases x z = by_lt_z x z
    (λ h. inr (omega (arith, ints, clamps), omega (arith, ints)))
    (λ h. inl (omega (arith, ints, clamps), h))

least-more : (x : ℤ) (xs : List ℤ) (o : Option ℤ) → IsLeast xs o →
    IsLeast (x ∷ xs) (picked int_min (Some x) o)
least-more x xs None none = (
  contains-first x xs,
  All-cons (λ y. x ≤ℤ y) x xs (omega (arith, ints))
      (All-same (λ y. x ≤ℤ y) xs [] none (All-nil (λ y. x ≤ℤ y))),
)
least-more x xs (Some z) h = ⊎_elim
    (λ e. subst (λ m. IsLeast (x ∷ xs) (Some m)) (sym e.0) (
      contains-first x xs,
      All-cons (λ y. x ≤ℤ y) x xs (omega (arith, ints))
          (All-weaker (λ y. z ≤ℤ y) (λ y. x ≤ℤ y)
          (λ y le. let k : x ≤ℤ z = e.1 in omega (arith, ints)) xs h.1),
    ))
    (λ e. subst (λ m. IsLeast (x ∷ xs) (Some m)) (sym e.0) (
      contains-more x z xs h.0,
      All-cons (λ y. z ≤ℤ y) x xs e.1 h.1,
    ))
    (min-cases x z)

least-is : (xs : List ℤ) → IsLeast xs (least_of xs)
least-is [] = refl
least-is (x ∷ xs) = least-more x xs (least_of xs) (least-is xs)

greatest-more : (x : ℤ) (xs : List ℤ) (o : Option ℤ) → IsGreatest xs o →
    IsGreatest (x ∷ xs) (picked int_max (Some x) o)
greatest-more x xs None none = (
  contains-first x xs,
  All-cons (λ y. y ≤ℤ x) x xs (omega (arith, ints))
      (All-same (λ y. y ≤ℤ x) xs [] none (All-nil (λ y. y ≤ℤ x))),
)
greatest-more x xs (Some z) h = ⊎_elim
    (λ e. subst (λ m. IsGreatest (x ∷ xs) (Some m)) (sym e.0) (
      contains-first x xs,
      All-cons (λ y. y ≤ℤ x) x xs (omega (arith, ints))
          (All-weaker (λ y. y ≤ℤ z) (λ y. y ≤ℤ x)
          (λ y le. let k : z ≤ℤ x = e.1 in omega (arith, ints)) xs h.1),
    ))
    (λ e. subst (λ m. IsGreatest (x ∷ xs) (Some m)) (sym e.0) (
      contains-more x z xs h.0,
      All-cons (λ y. y ≤ℤ z) x xs e.1 h.1,
    ))
    (max-cases x z)

greatest-is : (xs : List ℤ) → IsGreatest xs (greatest_of xs)
greatest-is [] = refl
greatest-is (x ∷ xs) = greatest-more x xs (greatest_of xs) (greatest-is xs)

-- ---- neighbours

pairs-count : (x : ℤ) (xs : List ℤ) → length (pairs_from x xs) ≡ length xs
pairs-count x [] = refl
pairs-count x (y ∷ ys) = ap suc (pairs-count y ys)

pairs-at : (x : ℤ) (xs : List ℤ) (k : ℕ) → k < length xs → slice_get (pairs_from x xs) k ≡
    Some (slice_index_or (x ∷ xs) k (pos 0), slice_index_or xs k (pos 0))
pairs-at x [] k lt = absurd (omega arith)
pairs-at x (y ∷ ys) zero lt = refl
pairs-at x (y ∷ ys) (suc k) lt = pairs-at y ys k (omega arith)

neighbours-are : (xs : List ℤ) → AreNeighbours xs (neighbours_of xs)
neighbours-are [] = record { count = refl; each = λ k lt. absurd (omega arith) }
neighbours-are (x ∷ xs) = record {
  count = (let e = pairs-count x xs in omega (arith, e));
  each = (λ k lt. pairs-at x xs k (omega arith) ∙ ap (λ n. Some (
    slice_index_or (x ∷ xs) k (pos 0),
    slice_index_or (x ∷ xs) n (pos 0),
  )) (let e : suc k ≡ k + 1 = omega arith in e));
}

-- ---- reports at their places

axis-at : (k : ℕ) (ds : List AxisDef) (es : List Entry) (a : ℕ) (def : AxisDef) (r : AxisReport) →
    slice_get ds a ≡ Some def → slice_get (axis_reports_from k ds es) a ≡ Some r →
    r ≡ axis_report_of def.name (rows_of (k + a) es)
axis-at k [] es a def r e f = absurd (none-is-not def e)
axis-at k (d ∷ ds) es zero def r e f =
    sym (same_Some _ _ f)
    ∙ ap (λ (x : AxisDef). axis_report_of x.name (rows_of k es)) (same_Some _ _ e)
    ∙ ap (λ n. axis_report_of def.name (rows_of n es)) (let z : k ≡ k + 0 = omega arith in z)
axis-at k (d ∷ ds) es (suc a) def r e f =
    axis-at (suc k) ds es a def r e f
    ∙ ap (λ n. axis_report_of def.name (rows_of n es))
    (let z : suc k + a ≡ k + suc a = omega arith in z)

block-at : (k : ℕ) (ds : List BlockDef) (es : List Entry) (b : ℕ) (def : BlockDef)
    (r : BlockReport) → slice_get ds b ≡ Some def →
    slice_get (block_reports_from k ds es) b ≡ Some r →
    r ≡ block_report_of def.name (replies_of (k + b) es)
block-at k [] es b def r e f = absurd (none-is-not def e)
block-at k (d ∷ ds) es zero def r e f =
    sym (same_Some _ _ f)
    ∙ ap (λ (x : BlockDef). block_report_of x.name (replies_of k es)) (same_Some _ _ e)
    ∙ ap (λ n. block_report_of def.name (replies_of n es)) (let z : k ≡ k + 0 = omega arith in z)
block-at k (d ∷ ds) es (suc b) def r e f =
    block-at (suc k) ds es b def r e f
    ∙ ap (λ n. block_report_of def.name (replies_of n es))
    (let z : suc k + b ≡ k + suc b = omega arith in z)

none-before : (n : ℕ) → 0 + n ≡ n
none-before n = omega arith

axes-count : (k : ℕ) (ds : List AxisDef) (es : List Entry) →
    length (axis_reports_from k ds es) ≡ length ds
axes-count k [] es = refl
axes-count k (d ∷ ds) es = ap suc (axes-count (suc k) ds es)

blocks-count : (k : ℕ) (ds : List BlockDef) (es : List Entry) →
    length (block_reports_from k ds es) ≡ length ds
blocks-count k [] es = refl
blocks-count k (d ∷ ds) es = ap suc (blocks-count (suc k) ds es)

says-of-rows : (name : List ℕ) (rows : List AxisRow) → SaysOfRows rows (axis_report_of name rows)
says-of-rows name rows = record {
  driven = refl;
  least = least-is (setpoints_of (driven_of rows));
  greatest = greatest-is (setpoints_of (driven_of rows));
  pairs = neighbours_of (setpoints_of rows);
  neighbours = neighbours-are (setpoints_of rows);
  still = refl;
  travel = refl;
}

says-of-axis : (t : TraceState) (a : ℕ) (def : AxisDef) (r : AxisReport) →
    r ≡ axis_report_of def.name (rows_of a (entries_of t)) → SaysOfAxis t a def r
says-of-axis t a def r e = subst (SaysOfAxis t a def) (sym e)
    (record { name = refl; rows = says-of-rows def.name (rows_of a (entries_of t)) })

pub says-of-each : (t : TraceState) → SaysOfEach t
says-of-each t = record {
  axes = axes-count 0 t.config.axes (entries_of t);
  blocks = blocks-count 0 t.config.blocks (entries_of t);
  each_axis = λ a def r e f. says-of-axis t a def r
      (axis-at 0 t.config.axes (entries_of t) a def r e f
      ∙ ap (λ n. axis_report_of def.name (rows_of n (entries_of t))) (none-before a));
  each_block = λ b def r e f. block-at 0 t.config.blocks (entries_of t) b def r e f
      ∙ ap (λ n. block_report_of def.name (replies_of n (entries_of t))) (none-before b);
}
