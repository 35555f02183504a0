-- The records of entries as they are found.
-- for: replay_from
use Rattle.std.proofs.Common.{◌≡◌, ℕ, suc, ◌+◌, ◌<◌, ◌≤◌, ℤ, Option, Some, None, List, length, refl, sym, ◌∙◌, ap, arith, inl, inr}
use Rattle.std.specs.Prelude.{slice_get, slice_set}
use Rattle.std.specs.Option.{option_map}
use Rattle.std.specs.Fmt.{signed_decimal}
use Rattle.std.proofs.lemmas.Bool.{cases_lt}
use Rattle.std.proofs.lemmas.List.{length-append}
use Rattle.plc_types.specs.declared.axis.AxisRow.{AxisRow}
use Rattle.motion_history.specs.Entries.{Entry, cycle, cycle_count}
use Rattle.motion_history.specs.Setup.{Setup}
use Rattle.motion_history.specs.declared.refused.TraceVersion.{TraceVersion}
use Rattle.motion_history.specs.declared.refused.TraceVersion.TheVariants.{One, Two, Three}
use Rattle.trace_text.specs.Found.{CycleFound}
use Rattle.trace_text.specs.Records.{grow_fields, padded, reported_text, row_fields}
use Rattle.trace_text.specs.Trace.{entry_records, numbered}
use Rattle.trace_text.specs.TraceState.{TraceState, entry_of, place_at}
use Rattle.trace_text.specs.declared.found.FoundEntry.{FoundEntry}
use Rattle.trace_text.specs.declared.found.FoundEntry.TheVariants as found
use Rattle.trace_check.specs.FoundRecords.{found_entry_records, found_row_fields}
use Rattle.trace_text.specs.TraceKept.{IsEntryRead, places_with}
use Rattle.trace_check.proofs.Numbered.{get-behind, get-numbered, length-numbered, there}
use Rattle.std.proofs.lemmas.Option.{slice_get_within}

-- a record that is read of an entry's text in a version
abbrev pub IsRead : TraceVersion → Setup → Entry → ℕ → List (List ℕ) → Type 0
IsRead v s x place r = option_map padded (slice_get (entry_records v s x) place) ≡ Some r

abbrev pub IsFoundRecord : TraceVersion → Setup → FoundEntry → ℕ → List (List ℕ) → Type 0
IsFoundRecord v s e place r = option_map padded (slice_get (found_entry_records v s e) place) ≡ Some r

first-record : (v : TraceVersion) (s : Setup) (e : FoundEntry) → slice_get (found_entry_records v s e) 0 ≡ slice_get (entry_records v s (entry_of e)) 0
unfolding found_entry_records entry_records
first-record v s (found.Call k i o) = refl
first-record v s (found.Cycle c) = refl
first-record v s (found.End task) = refl

pub found-first : (v w : TraceVersion) (s t : Setup) (e : FoundEntry) (x : Entry) (place : ℕ) (r : List (List ℕ)) → w ≡ v → t ≡ s → x ≡ entry_of e → place ≡ 0 → IsRead w t x 0 r → IsFoundRecord v s e place r
found-first v w s t e x place r version same is zero' h =
    let read : option_map padded (slice_get (entry_records v s (entry_of e)) 0) ≡ Some r = rw (← version, ← same, ← is) h in
    rw (zero', first-record v s e) read

plain-row : (s : Setup) (places : List ℤ) (n : ℕ) (r : AxisRow) → slice_get places n ≡ None → found_row_fields s places n r ≡ row_fields One s n r
unfolding reported_text
plain-row s places n r none = rw none refl

none-cycle : (v : TraceVersion) (s : Setup) (c : CycleFound) (n : ℕ) → slice_get c.places n ≡ None →
    slice_get (found_entry_records v s (found.Cycle c)) (suc n) ≡ slice_get (entry_records One s (cycle c.number c.axes c.groups)) (suc n)
unfolding found_entry_records entry_records
none-cycle v s c n none = elim (cases_lt n (length c.axes)) [
  | inl within ↦
      let row = there c.axes n within in
      get-numbered (found_row_fields s c.places) 0 c.axes (numbered (grow_fields s) 0 c.groups) n n row.0 (omega arith) row.1 ∙
      ap Some (plain-row s c.places n row.0 none) ∙
      sym (get-numbered (row_fields One s) 0 c.axes (numbered (grow_fields s) 0 c.groups) n n row.0 (omega arith) row.1)
  | inr behind ↦ get-behind (found_row_fields s c.places) (row_fields One s) 0 0 c.axes c.axes (numbered (grow_fields s) 0 c.groups) n refl behind
]

none-there : (v : TraceVersion) (s : Setup) (e : FoundEntry) (places : ℕ → Option ℤ) (n : ℕ) (r : List (List ℕ)) (t : TraceState) (entry : ℕ) → slice_get t.found entry ≡ Some e → place_at t entry n ≡ None →
    IsRead One s (entry_of e) (suc n) r → IsFoundRecord v s e (suc n) r
unfolding entry_records
none-there v s (found.Call k i o) places n r t entry at none h = absurd (cc h)
none-there v s (found.Cycle c) places n r t entry at none h =
    let p : slice_get c.places n ≡ None = rw at at none in
    rw (none-cycle v s c n p) h
none-there v s (found.End task) places n r t entry at none h = absurd (cc h)

pub found-none : (v : TraceVersion) (s u : Setup) (e : FoundEntry) (x : Entry) (place n : ℕ) (r : List (List ℕ)) (t : TraceState) (entry : ℕ) → u ≡ s → x ≡ entry_of e → place ≡ suc n → slice_get t.found entry ≡ Some e → place_at t entry n ≡ None →
    IsRead One u x place r → IsFoundRecord v s e place r
found-none v s u e x place n r t entry same is e' at none h =
    let read : IsRead One s (entry_of e) (suc n) r = rw (← same, ← is, ← e') h in
    rw e' (none-there v s e (λ k. None) n r t entry at none read)

few-places : (v : TraceVersion) (n : ℕ) → places_with v n ≤ n
few-places One n = omega arith
few-places Two n = omega arith
few-places Three n = omega arith

some-there : (v : TraceVersion) (s : Setup) (e : FoundEntry) (n : ℕ) (a : ℤ) (r : List (List ℕ)) (t : TraceState) (entry : ℕ) → IsEntryRead v s e → slice_get t.found entry ≡ Some e → place_at t entry n ≡ Some a →
    IsRead One s (entry_of e) (suc n) r → IsFoundRecord v s e (suc n) (slice_set r 11 (signed_decimal a))
unfolding entry_records found_entry_records
some-there v s (found.Call k i o) n a r t entry kept at some h = absurd (cc h)
some-there v s (found.End task) n a r t entry kept at some h = absurd (cc h)
some-there v s (found.Cycle c) n a r t entry kept at some h =
    let p : slice_get c.places n ≡ Some a = rw at at some in
    let l : n < length c.places = slice_get_within c.places n a p in
    let places = kept.places in
    let few = few-places v (length s.axes) in
    let axes = kept.axes in
    let within : n < length c.axes = omega (arith, l, places, few, axes) in
    let row = there c.axes n within in
    let found-at = get-numbered (found_row_fields s c.places) 0 c.axes (numbered (grow_fields s) 0 c.groups) n n row.0 (omega arith) row.1 in
    let read-at = get-numbered (row_fields One s) 0 c.axes (numbered (grow_fields s) 0 c.groups) n n row.0 (omega arith) row.1 in
    let h' : Some (padded (row_fields One s n row.0)) ≡ Some r = rw read-at at h in
    let is : padded (row_fields One s n row.0) ≡ r = cc h' in
    rw (found-at, ← is, p) refl

pub found-some : (v : TraceVersion) (s u : Setup) (e : FoundEntry) (x : Entry) (place n : ℕ) (a : ℤ) (last : List ℕ) (r : List (List ℕ)) (t : TraceState) (entry : ℕ) → u ≡ s → x ≡ entry_of e → place ≡ suc n → IsEntryRead v s e → slice_get t.found entry ≡ Some e → place_at t entry n ≡ Some a → last ≡ signed_decimal a →
    IsRead One u x place r → IsFoundRecord v s e place (slice_set r 11 last)
found-some v s u e x place n a last r t entry same is e' kept at some told h =
    let read : IsRead One s (entry_of e) (suc n) r = rw (← same, ← is, ← e') h in
    rw (e', told) (some-there v s e n a r t entry kept at some read)

-- ---- how many there are

pub count-cycle : (v : TraceVersion) (s : Setup) (c : CycleFound) → length (found_entry_records v s (found.Cycle c)) ≡ 1 + length c.axes + length c.groups
unfolding found_entry_records
count-cycle v s c =
    let a = length-numbered (found_row_fields s c.places) 0 c.axes in
    let b = length-numbered (grow_fields s) 0 c.groups in
    let e = length-append (numbered (found_row_fields s c.places) 0 c.axes) (numbered (grow_fields s) 0 c.groups) in
    omega (arith, a, b, e)

pub count-event : (v : TraceVersion) (s : Setup) (e : FoundEntry) → cycle_count (entry_of e) ≡ 0 → 1 ≡ length (found_entry_records v s e)
unfolding found_entry_records
count-event v s (found.Call k i o) h = refl
count-event v s (found.Cycle c) h = absurd (omega (arith, h))
count-event v s (found.End task) h = refl
