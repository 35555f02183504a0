-- Entries that are replayed.
-- for: check, check_from, replay and others
use Rattle.std.proofs.Common.{◌≡◌, ℕ, zero, suc, ◌<◌, true, false, Some, List, [], ◌∷◌, ◌++◌, length, map, refl, sym, ◌∙◌, ap, subst, arith}
use Rattle.std.specs.Prelude.{slice_get}
use Rattle.std.specs.List.{AllByRecursion}
use Rattle.std.specs.Option.{option_map}
use Rattle.std.proofs.lemmas.Bool.{and_parts, ltb-true}
use Rattle.std.proofs.lemmas.List.{length-map}
use Rattle.plc_types.specs.declared.axis.AxisDef.{AxisDef}
use Rattle.plc_types.specs.declared.axis.AxisRow.{AxisRow}
use Rattle.motion_history.specs.Entries.{Entry, call, cycle, end_of}
use Rattle.motion_history.specs.Setup.{Setup}
use Rattle.motion_history.specs.declared.refused.TraceVersion.{TraceVersion}
use Rattle.motion_history.specs.declared.refused.TraceVersion.TheVariants.{One, Two, Three}
use Rattle.motion_kernel.specs.Machine.{Machine}
use Rattle.trace_text.specs.Records.{row_fields}
use Rattle.trace_text.specs.RowRanges.{found_place, found_row}
use Rattle.trace_text.specs.Trace.{entry_records, numbered}
use Rattle.trace_text.specs.TraceState.{entry_of}
use Rattle.trace_text.specs.Writable.{found_entry, found_places, reported_places}
use Rattle.trace_text.specs.declared.found.FoundEntry.{FoundEntry}
use Rattle.trace_text.specs.declared.found.FoundEntry.TheVariants as found
use Rattle.trace_check.specs.Events.{IsEvent}
use Rattle.trace_check.specs.FoundRecords.{found_entry_records, found_row_fields}
use Rattle.trace_check.specs.Replays.{expected_of, has_room, made_from}
use Rattle.trace_check.specs.Rows.{IsFoundAt}
use Rattle.trace_check.specs.Stops.{StopsAt}
use Rattle.trace_text.specs.TraceKept.{IsEntryRead}
use Rattle.trace_check.specs.declared.difference.Stop.{Stop}
use Rattle.trace_check.proofs.CycleLaws.{all-alike}
use Rattle.trace_check.proofs.Numbered.{get-map}

-- what is looked at in a trace is an entry of it
pub told-is : (fs : List FoundEntry) (n : ℕ) (e : FoundEntry) (x : Entry) → Some x ≡ slice_get (map entry_of fs) n → slice_get fs n ≡ Some e → x ≡ entry_of e
told-is fs n e x h at =
    let p : Some x ≡ Some (entry_of e) = h ∙ get-map entry_of fs n ∙ ap (option_map entry_of) at in
    cc p

event-of : (v : TraceVersion) (s : Setup) (e : FoundEntry) → IsEntryRead v s e → IsEvent s (entry_of e)
event-of v s (found.Call k i o) h = h.call
event-of v s (found.Cycle c) h = h.axes
event-of v s (found.End task) h = h

pub event-at : (v : TraceVersion) (s : Setup) (fs : List FoundEntry) (n : ℕ) (x : Entry) → AllByRecursion (IsEntryRead v s) fs → Some x ≡ slice_get (map entry_of fs) n → IsEvent s x
event-at v s [] n x all h = absurd (cc h)
event-at v s (f ∷ fs) zero x all h = let e : x ≡ entry_of f = cc h in subst (IsEvent s) (sym e) (event-of v s f all.0)
event-at v s (f ∷ fs) (suc n) x all h = event-at v s fs n x all.1 h

last-at : (es : List Entry) (y : Entry) (n : ℕ) → length es ≡ n → slice_get (es ++ y ∷ []) n ≡ Some y
last-at [] y zero e = refl
last-at [] y (suc n) e = absurd (omega (arith, e))
last-at (x ∷ es) y zero e = absurd (omega (arith, e))
last-at (x ∷ es) y (suc n) e = last-at es y n (omega (arith, e))

-- the last entry of a history
pub made-last : (es all : List Entry) (x y : Entry) (n : ℕ) → all ≡ es ++ y ∷ [] → length es ≡ n → Some x ≡ slice_get all n → x ≡ y
made-last es all x y n is e h =
    let p : Some x ≡ Some y = h ∙ ap (λ l. slice_get l n) is ∙ last-at es y n e in
    cc p

-- ---- room

pub room-same : (v : TraceVersion) (s : Setup) (m : Machine) (es : List Entry) (e : Entry) → has_room s es e ≡ true → expected_of v s m es e ≡ entry_records v s (made_from s m es e)
unfolding expected_of
room-same v s m es e room = rw room refl

pub room-stop : (v : TraceVersion) (s : Setup) (m : Machine) (es : List Entry) (e x : Entry) (place : ℕ) (rs : List (List (List ℕ))) (st : Stop) → has_room s es e ≡ true → x ≡ made_from s m es e → StopsAt place (entry_records v s x) rs st → StopsAt place (expected_of v s m es e) rs st
room-stop v s m es e x place rs st room is h = rw (room-same v s m es e room, ← is) h

pub no-room-stop : (v : TraceVersion) (s : Setup) (m : Machine) (es : List Entry) (e : Entry) (place : ℕ) (rs : List (List (List ℕ))) (st : Stop) → has_room s es e ≡ false → StopsAt place ([] ∷ []) rs st → StopsAt place (expected_of v s m es e) rs st
unfolding expected_of
no-room-stop v s m es e place rs st none h = rw none h

pub room-for : (s : Setup) (es : List Entry) (e : Entry) → has_room s es e ≡ true → length es < s.entries
room-for s es e h = ltb-true (length es) s.entries ((and_parts _ _ h).0)

-- ---- records that are the same

reported-at : (ds : List AxisDef) (rs : List AxisRow) (j : ℕ) (d : AxisDef) (r : AxisRow) → slice_get ds j ≡ Some d → slice_get rs j ≡ Some r → found_place Two d r ≡ slice_get (reported_places ds rs) j
reported-at [] rs j d r a b = absurd (cc a)
reported-at (x ∷ ds) [] j d r a b = absurd (cc b)
reported-at (x ∷ ds) (y ∷ rs) zero d r a b = let e : x ≡ d = cc a in let f : y ≡ r = cc b in rw (e, f) refl
reported-at (x ∷ ds) (y ∷ rs) (suc j) d r a b = reported-at ds rs j d r a b

places-at : (v : TraceVersion) (ds : List AxisDef) (rs : List AxisRow) (j : ℕ) (d : AxisDef) (r : AxisRow) → slice_get ds j ≡ Some d → slice_get rs j ≡ Some r → found_place v d r ≡ slice_get (found_places v ds rs) j
places-at One ds rs j d r a b = refl
places-at Two ds rs j d r a b = reported-at ds rs j d r a b
places-at Three ds rs j d r a b = reported-at ds rs j d r a b

found-at : (v : TraceVersion) (ds : List AxisDef) (rs : List AxisRow) (j : ℕ) → IsFoundAt v ds rs (map found_row rs) (slice_get (found_places v ds rs)) j
found-at v ds rs j d r row a b c =
    let p : Some (found_row r) ≡ Some row = sym (get-map found_row rs j ∙ ap (option_map found_row) b) ∙ c in
    record { row = cc p; place = places-at v ds rs j d r a b }

-- the records of an entry as it is found are those of the entry
pub found-same : (v : TraceVersion) (s : Setup) (x : Entry) → IsEntryRead v s (found_entry v s x) → found_entry_records v s (found_entry v s x) ≡ entry_records v s x
unfolding found_entry_records entry_records
found-same v s (call k i o) h = refl
found-same v s (cycle n rows grows) h =
    let long : length rows ≡ length (map found_row rows) = sym (length-map rows found_row) in
    let same : numbered (row_fields v s) 0 rows ≡ numbered (found_row_fields s (found_places v s.axes rows)) 0 (map found_row rows) =
    all-alike v s rows (map found_row rows) (found_places v s.axes rows) (found-at v s.axes rows) long h.axes in
    rw same refl
found-same v s (end_of task) h = refl

pub records-same : (v : TraceVersion) (s : Setup) (e : FoundEntry) (x : Entry) → IsEntryRead v s e → e ≡ found_entry v s x → entry_records v s x ≡ found_entry_records v s e
records-same v s e x h is =
    let read : IsEntryRead v s (found_entry v s x) = subst (IsEntryRead v s) is h in
    rw is (sym (found-same v s x read))
