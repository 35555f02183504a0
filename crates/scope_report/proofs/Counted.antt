-- Entries are counted one after another, and shares are put after each other.
-- for: scope
use Rattle.std.proofs.Common.{◌≡◌, ℕ, ◌+◌, ◌^◌, ◌<◌, ◌≤◌, ◌==◌, Bool, true, false, cond, Option, Some, None, List, [], ◌∷◌, ◌++◌, length, take, slice_index_or, refl, ap, sym, ◌∙◌, subst, arith, length-append}
use Rattle.std.specs.Prelude.{slice_get, Result, Ok, IfOk}
use Rattle.std.specs.List.{flat_map}
use Rattle.std.specs.Option.{option_to_list}
use Rattle.std.proofs.lemmas.List.{append-nil}
use Rattle.std.proofs.lemmas.List.Sums.{sum_by-append, count_by-le-length}
use Rattle.std.proofs.lemmas.Grind.{common_steps, flat_map-append}
use Rattle.plc_types.specs.declared.axis.AxisRow.{AxisRow}
use Rattle.plc_types.specs.declared.outputs.Outputs.{Outputs}
use Rattle.motion_history.specs.Entries.{Entry, call, cycle, end_of}
use Rattle.motion_numbers.specs.declared.out_of_memory.OutOfMemory.{OutOfMemory}
use Rattle.scope_report.proofs.Cutting.{take-further}
use Rattle.scope_report.proofs.Merged.{part-append}
use Rattle.scope_report.specs.Counting.{added, counts_of}
use Rattle.scope_report.specs.Cuts.{between_cuts}
use Rattle.scope_report.specs.Joining.{CanMerge, CanSum, Merges, Sums}
use Rattle.scope_report.specs.Merging.{merged, part_of}
use Rattle.scope_report.specs.Parts.{PartState}
use Rattle.scope_report.specs.Shares.{Adds, HasRoom, IsShare, ShareState}
use Rattle.scope_report.specs.Replies.{replies_in, replies_of, reply_of}
use Rattle.scope_report.specs.Rows.{row_at, rows_in, rows_of}
use Rattle.scope_report.specs.declared.counts.Counts.{Counts}

-- ---- an entry has at most one row of an axis and one reply of a block

row-few : (o : Option AxisRow) → length (option_to_list o) ≤ 1
row-few None = omega arith
row-few (Some r) = omega arith

rows-few : (a : ℕ) (e : Entry) → length (rows_in a e) ≤ 1
rows-few a (call k i o) = omega arith
rows-few a (cycle n rows groups) = row-few (slice_get rows a)
rows-few a (end_of t) = omega arith

reply-few : (b : Bool) (o : Outputs) → length (cond b (o ∷ []) []) ≤ 1
reply-few true o = omega arith
reply-few false o = omega arith

replies-few : (b : ℕ) (e : Entry) → length (replies_in b e) ≤ 1
replies-few b (call k i o) = reply-few (k == b) o
replies-few b (cycle n rows groups) = omega arith
replies-few b (end_of t) = omega arith

flat-few : {X : Type 0} (f : Entry → List X) → ((e : Entry) → length (f e) ≤ 1) →
    (es : List Entry) → length (flat_map f es) ≤ length es
flat-few f few [] = omega arith
flat-few f few (e ∷ es) =
    let h = flat-few f few es in
    let k = few e in
    omega (arith, length-append (f e) (flat_map f es))

-- so there are no more of them than entries
rows-within : (a : ℕ) (es : List Entry) → length (rows_of a es) ≤ length es
rows-within a es = flat-few (rows_in a) (rows-few a) es

replies-within : (b : ℕ) (es : List Entry) → length (replies_of b es) ≤ length es
replies-within b es = flat-few (replies_in b) (replies-few b) es

-- no count of replies is above the number of entries
pub record IsWithin (n : ℕ) (c : Counts) : Type 0 where
  pub calls : c.calls ≤ n
  pub done : c.done ≤ n
  pub errors : c.errors ≤ n

counts-within : (b : ℕ) (es : List Entry) (c : Counts) → c ≡ counts_of (replies_of b es) →
    IsWithin (length es) c
counts-within b es c is =
    let os = replies_of b es in
    let few = replies-within b es in
    let P : Counts → Type 0 = λ x. IsWithin (length es) x in
    subst P (sym is) (record {
      calls = few;
      done = (let d = count_by-le-length (λ (o : Outputs). o.done) os in omega (arith, few, d));
      errors = (let d = count_by-le-length (λ (o : Outputs). o.error) os in omega (arith, few, d));
    })

part-within : (a : ℕ) (es : List Entry) (p : PartState) → p ≡ part_of (rows_of a es) →
    p.rows ≤ length es
part-within a es p is =
    let rows = ap (λ (q : PartState). q.rows) is in omega (arith, rows, rows-within a es)

-- ---- one entry more

flat-more : {X : Type 0} (f : Entry → List X) (es : List Entry) (e : Entry) →
    flat_map f (es ++ e ∷ []) ≡ flat_map f es ++ f e
flat-more f es e = flat_map-append f es (e ∷ []) ∙ ap (λ l. flat_map f es ++ l) (append-nil (f e))

flat-same : {X : Type 0} (f : Entry → List X) (es : List Entry) (e : Entry) → f e ≡ [] →
    flat_map f es ≡ flat_map f (es ++ e ∷ [])
flat-same f es e none =
    sym (flat-more f es e ∙ ap (λ l. flat_map f es ++ l) none ∙ append-nil (flat_map f es))

counts-append : (xs ys : List Outputs) →
    counts_of (xs ++ ys) ≡ added (counts_of xs) (counts_of ys)
counts-append xs ys = λ i. record {
  calls = length-append xs ys i;
  done = sum_by-append (λ (o : Outputs). cond o.done 1 0) xs ys i;
  errors = sum_by-append (λ (o : Outputs). cond o.error 1 0) xs ys i;
}

part-more : (a : ℕ) (es : List Entry) (e : Entry) →
    merged (part_of (rows_of a es)) (part_of (rows_in a e)) ≡ part_of (rows_of a (es ++ e ∷ []))
part-more a es e =
    sym (part-append (rows_of a es) (rows_in a e)) ∙ ap part_of (sym (flat-more (rows_in a) es e))

part-same : (a : ℕ) (es : List Entry) (e : Entry) → rows_in a e ≡ [] →
    part_of (rows_of a es) ≡ part_of (rows_of a (es ++ e ∷ []))
part-same a es e none = ap part_of (flat-same (rows_in a) es e none)

counts-more : (b : ℕ) (es : List Entry) (e : Entry) →
    added (counts_of (replies_of b es)) (counts_of (replies_in b e))
    ≡ counts_of (replies_of b (es ++ e ∷ []))
counts-more b es e =
    sym (counts-append (replies_of b es) (replies_in b e))
    ∙ ap counts_of (sym (flat-more (replies_in b) es e))

counts-same : (b : ℕ) (es : List Entry) (e : Entry) → replies_in b e ≡ [] →
    counts_of (replies_of b es) ≡ counts_of (replies_of b (es ++ e ∷ []))
counts-same b es e none = ap counts_of (flat-same (replies_in b) es e none)

-- what is reported of some entries goes on by one that is added
pub goes-on : (n m : ℕ) (es : List Entry) (e : Entry) (old new : ShareState) →
    IsShare n m es old → Adds e old new → IsShare n m (es ++ e ∷ []) new
goes-on n m es (call k i o) old new h adds = record {
  as_many_axes = ap length adds.0 ∙ h.as_many_axes;
  as_many_blocks = adds.1.len ∙ h.as_many_blocks;
  each_axis = (λ a d lt. ap (λ l. slice_index_or l a d) adds.0
      ∙ h.each_axis a d (omega (arith, lt, ap length adds.0)) ∙ part-same a es (call k i o) refl);
  each_block = (λ b d lt.
      let l : b < length old.blocks = omega (arith, lt, adds.1.len) in
      adds.1.each b d l
      ∙ ap (λ c. added c (counts_of (reply_of b k o))) (h.each_block b d l)
      ∙ counts-more b es (call k i o));
}
goes-on n m es (cycle c rows groups) old new h adds = record {
  as_many_axes = adds.0.len ∙ h.as_many_axes;
  as_many_blocks = ap length adds.1 ∙ h.as_many_blocks;
  each_axis = (λ a d lt.
      let l : a < length old.axes = omega (arith, lt, adds.0.len) in
      adds.0.each a d l
      ∙ ap (λ p. merged p (part_of (row_at a rows))) (h.each_axis a d l)
      ∙ part-more a es (cycle c rows groups));
  each_block = (λ b d lt. ap (λ l. slice_index_or l b d) adds.1
      ∙ h.each_block b d (omega (arith, lt, ap length adds.1))
      ∙ counts-same b es (cycle c rows groups) refl);
}
goes-on n m es (end_of t) old new h adds =
    let axes = ap (λ (p : ShareState). p.axes) adds in
    let blocks = ap (λ (p : ShareState). p.blocks) adds in
    record {
      as_many_axes = ap length axes ∙ h.as_many_axes;
      as_many_blocks = ap length blocks ∙ h.as_many_blocks;
      each_axis = (λ a d lt. ap (λ l. slice_index_or l a d) axes
          ∙ h.each_axis a d (omega (arith, lt, ap length axes)) ∙ part-same a es (end_of t) refl);
      each_block = (λ b d lt. ap (λ l. slice_index_or l b d) blocks
          ∙ h.each_block b d (omega (arith, lt, ap length blocks))
          ∙ counts-same b es (end_of t) refl);
    }

-- and there is room for it
pub has-room : (n m : ℕ) (es : List Entry) (p : ShareState) → IsShare n m es p →
    length es + 1 < 2 ^ 64 → HasRoom p
has-room n m es p h few = record {
  axes = (λ a d lt. omega (arith, few, part-within a es _ (h.each_axis a d lt)));
  blocks = (λ b d lt. let w = counts-within b es _ (h.each_block b d lt) in
      record {
        calls = omega (arith, few, w.calls);
        done = omega (arith, few, w.done);
        errors = omega (arith, few, w.errors);
      });
}

-- ---- a share after others

pub shares-join : (n m : ℕ) (xs ys : List Entry) (p q r : ShareState) → IsShare n m xs p →
    IsShare n m ys q → Merges p.axes q.axes r.axes → Sums p.blocks q.blocks r.blocks →
    IsShare n m (xs ++ ys) r
shares-join n m xs ys p q r hp hq axes blocks = record {
  as_many_axes = axes.len ∙ hp.as_many_axes;
  as_many_blocks = blocks.len ∙ hp.as_many_blocks;
  each_axis = (λ a d lt.
      let l : a < length p.axes = omega (arith, lt, axes.len) in
      let k : a < length q.axes = omega (arith, l, hp.as_many_axes, hq.as_many_axes) in
      axes.each a d l
      ∙ ap (λ x. merged x (slice_index_or q.axes a d)) (hp.each_axis a d l)
      ∙ ap (merged (part_of (rows_of a xs))) (hq.each_axis a d k)
      ∙ sym (part-append (rows_of a xs) (rows_of a ys))
      ∙ ap part_of (sym (flat_map-append (rows_in a) xs ys)));
  each_block = (λ b d lt.
      let l : b < length p.blocks = omega (arith, lt, blocks.len) in
      let k : b < length q.blocks =
      omega (arith, l, hp.as_many_blocks, hq.as_many_blocks) in
      blocks.each b d l
      ∙ ap (λ x. added x (slice_index_or q.blocks b d)) (hp.each_block b d l)
      ∙ ap (added (counts_of (replies_of b xs))) (hq.each_block b d k)
      ∙ sym (counts-append (replies_of b xs) (replies_of b ys))
      ∙ ap counts_of (sym (flat_map-append (replies_in b) xs ys)));
}

-- there is room for both where there is for all entries
pub can-merge : (n m : ℕ) (xs ys : List Entry) (p q : ShareState) → IsShare n m xs p →
    IsShare n m ys q → length xs + length ys < 2 ^ 64 → CanMerge p.axes q.axes
can-merge n m xs ys p q hp hq few a d lt =
    let k : a < length q.axes = omega (arith, lt, hp.as_many_axes, hq.as_many_axes) in
    let x = part-within a xs _ (hp.each_axis a d lt) in
    let y = part-within a ys _ (hq.each_axis a d k) in
    omega (arith, x, y, few)

pub can-sum : (n m : ℕ) (xs ys : List Entry) (p q : ShareState) → IsShare n m xs p →
    IsShare n m ys q → length xs + length ys < 2 ^ 64 → CanSum p.blocks q.blocks
can-sum n m xs ys p q hp hq few b d lt =
    let k : b < length q.blocks = omega (arith, lt, hp.as_many_blocks, hq.as_many_blocks) in
    let x = counts-within b xs _ (hp.each_block b d lt) in
    let y = counts-within b ys _ (hq.each_block b d k) in
    record {
      calls = omega (arith, x.calls, y.calls, few);
      done = omega (arith, x.done, y.done, few);
      errors = omega (arith, x.errors, y.errors, few);
    }

-- a share for which there was memory
pub share-there : (P : ShareState → Type 0) (made : List (Result ShareState OutOfMemory)) (k : ℕ)
    (r : Result ShareState OutOfMemory) (p : ShareState) → r ≡ slice_index_or made k r →
    r ≡ Ok p → IfOk (slice_index_or made k r) P → P p
share-there P made k r p at ok h = subst (λ x. IfOk x P) (sym at ∙ ok) h

pub shares-few : (a b : ℕ) (es : List Entry) → a ≤ b → length es < 2 ^ 64 →
    length (take a es) + length (between_cuts a b es) < 2 ^ 64
shares-few a b es le few =
    let e = ap length (take-further a b es le) in
    let l = length-append (take a es) (between_cuts a b es) in
    grind (arith, common_steps)
