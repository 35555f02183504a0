-- Rows that are found so.
-- for: check, check_from, replay and others
use Rattle.std.proofs.Common.{◌≡◌, ℕ, ◌+◌, ◌<◌, ℤ, Option, Some, List, refl, sym, ◌∙◌, ap, subst, arith, inl, inr}
use Rattle.std.specs.Prelude.{slice_get}
use Rattle.std.proofs.lemmas.Bool.{cases_eq}
use Rattle.plc_types.specs.declared.axis.AxisDef.{AxisDef}
use Rattle.plc_types.specs.declared.axis.AxisRow.{AxisRow}
use Rattle.motion_history.specs.Setup.{Setup}
use Rattle.motion_history.specs.declared.refused.TraceVersion.{TraceVersion}
use Rattle.motion_history.specs.declared.refused.TraceVersion.TheVariants.{One, Two, Three}
use Rattle.trace_text.specs.Records.{reported_text, row_fields}
use Rattle.trace_text.specs.RowRanges.{found_place}
use Rattle.trace_check.specs.FoundRecords.{found_row_fields, place_text}
use Rattle.trace_check.specs.Rows.{IsFoundAs, IsFoundAt}

some-same : {X : Type 0} (x y : X) (o : Option X) → o ≡ Some x → o ≡ Some y → x ≡ y
some-same x y o p q = let e : Some x ≡ Some y = sym p ∙ q in cc e

-- one row more
pub row-more : (v w : TraceVersion) (axes : List AxisDef) (expected rows : List AxisRow) (places : ℕ → Option ℤ) (i : ℕ) (d : AxisDef) (r row : AxisRow) (p : Option ℤ) →
    IsFoundAs w d r row p → w ≡ v → p ≡ places i → slice_get axes i ≡ Some d → slice_get expected i ≡ Some r → slice_get rows i ≡ Some row →
    ((n : ℕ) → n < i → IsFoundAt v axes expected rows places n) → (n : ℕ) → n < i + 1 → IsFoundAt v axes expected rows places n
row-more v w axes expected rows places i d r row p h same-version same-place a b c before n l = elim (cases_eq n i) [
  | inl e ↦ λ d' r' row' x y z.
      let d-is : d ≡ d' = some-same d d' (slice_get axes n) (rw e a) x in
      let r-is : r ≡ r' = some-same r r' (slice_get expected n) (rw e b) y in
      let row-is : row ≡ row' = some-same row row' (slice_get rows n) (rw e c) z in
      record {
        row = rw (← r-is, ← row-is) h.row;
        place = rw (← same-version, ← d-is, ← r-is) (h.place ∙ same-place ∙ ap places (sym e));
      }
  | inr other ↦ before n (omega (arith, other, l))
]

-- a row that is found so at its place is found so
pub row-there : (v w : TraceVersion) (axes : List AxisDef) (expected rows : List AxisRow)
    (places : ℕ → Option ℤ) (i : ℕ) (d : AxisDef) (r row : AxisRow) (p : Option ℤ) → w ≡ v →
    p ≡ places i → slice_get axes i ≡ Some d → slice_get expected i ≡ Some r →
    slice_get rows i ≡ Some row → IsFoundAt v axes expected rows places i → IsFoundAs w d r row p
row-there v w axes expected rows places i d r row p same-version same-place a b c at =
    let h = at d r row a b c in
    record { row = h.row; place = rw same-version (h.place ∙ sym same-place) }

place-same : (v : TraceVersion) (s : Setup) (n : ℕ) (places : List ℤ) (d : AxisDef) (r : AxisRow) → slice_get s.axes n ≡ Some d → found_place v d r ≡ slice_get places n →
    reported_text v s n r ≡ place_text places n
unfolding reported_text
place-same One s n places d r at e = rw (← e) refl
place-same Two s n places d r at e = rw (← e, at) refl
place-same Three s n places d r at e = rw (← e, at) refl

-- the record of a row that is found so is the one found
pub row-same : (v : TraceVersion) (s : Setup) (n : ℕ) (places : List ℤ) (d : AxisDef) (r row : AxisRow) → slice_get s.axes n ≡ Some d → IsFoundAs v d r row (slice_get places n) →
    row_fields v s n r ≡ found_row_fields s places n row
row-same v s n places d r row at h =
    let e : reported_text v s n r ≡ place_text places n = place-same v s n places d r at h.place in
    subst (λ x. row_fields v s n r ≡ found_row_fields s places n x) h.row (rw e refl)
