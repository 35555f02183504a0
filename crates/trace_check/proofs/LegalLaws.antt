-- Legal traces, and the first record that differs.
-- for: check, check_from, replay and others
use Rattle.std.proofs.Common.{◌≡◌, ℕ, ◌+◌, ◌<◌, ◌≤◌, true, Some, None, Ok, Err, List, [], ◌∷◌, ◌++◌, length, map, refl, sym, ◌∙◌, ap, subst, arith, append_assoc}
use Rattle.std.specs.List.{AllByRecursion, flat_map}
use Rattle.std.proofs.lemmas.Bool.{le-leb, lt-ltb}
use Rattle.std.proofs.lemmas.Grind.{flat_map-append}
use Rattle.std.proofs.lemmas.List.{append-nil, length-append, length-map, map-append}
use Rattle.plc_types.specs.declared.axis.AxisRow.{AxisRow}
use Rattle.plc_types.specs.declared.drive.DriveIn.{DriveIn}
use Rattle.motion_history.specs.Entries.{Entry, call, cycle, cycle_count, cycles_of, end_of}
use Rattle.motion_history.specs.Setup.{Setup}
use Rattle.motion_history.specs.declared.refused.TraceVersion.{TraceVersion}
use Rattle.motion_kernel.specs.Histories.{Follows, IsLegalFrom, IsOf, after, inputs_of, machine_from, replay}
use Rattle.motion_kernel.specs.Segments.{SegmentedState}
use Rattle.motion_kernel.specs.Machine.{Machine}
use Rattle.trace_text.specs.Held.{IsHeldOf, keep_within}
use Rattle.trace_text.specs.RowRanges.{found_row}
use Rattle.trace_text.specs.Trace.{drive_records, entry_records}
use Rattle.trace_text.specs.TraceState.{TraceState, entries_of, entry_of}
use Rattle.trace_text.specs.Writable.{found_entry}
use Rattle.trace_check.specs.Differences.{first_difference}
use Rattle.trace_check.specs.FoundRecords.{found_entry_records, found_records}
use Rattle.trace_check.specs.Legal.{IsLegalTraceFrom, IsTraceOf}
use Rattle.trace_check.specs.Outcomes.{Judges}
use Rattle.trace_check.specs.Progress.{DiffersAmong, EntriesReplay, IsUnderWay, difference_from, first_place}
use Rattle.trace_check.specs.Replays.{cycle_of, expected_from, expected_of, expected_records, has_cycle, has_room, made_from, with_made_from, with_taken}
use Rattle.trace_check.specs.Stops.{StopsAt}
use Rattle.trace_text.specs.TraceKept.{IsEntryRead, IsTraceKept}
use Rattle.trace_text.specs.declared.found.FoundEntry.{FoundEntry}
use Rattle.trace_check.specs.declared.difference.Difference.{Difference}
use Rattle.trace_check.specs.declared.difference.Stop.{Stop}
use Rattle.trace_check.specs.declared.difference.Stop.TheVariants as stop
use Rattle.trace_check.proofs.DriveLaws.{took, took-from}
use Rattle.trace_check.proofs.EntryLaws.{found-same, room-same}
use Rattle.trace_check.proofs.Firsts.{first-none}
use Rattle.trace_check.proofs.ReplayLaws.{all-found, drives-left}

-- ---- one entry more

cycles-more : (es : List Entry) (e : Entry) → cycles_of (es ++ e ∷ []) ≡ cycles_of es + cycle_count e
cycles-more [] e = omega arith
cycles-more (x ∷ es) e = let h = cycles-more es e in omega (arith, h)

replay-more : (s : Setup) (m : Machine) (es : List Entry) (e : Entry) → replay s m (es ++ e ∷ []) ≡ after s (replay s m es) e
replay-more s m [] e = refl
replay-more s m (x ∷ es) e = replay-more s (after s m x) es e

machine-more : (s : Setup) (m : Machine) (es : List Entry) (e : Entry) → machine_from s m (es ++ e ∷ []) ≡ after s (machine_from s m es) e
unfolding machine_from
machine-more s m es e = replay-more s m es e

pub same-inputs : (rows : List AxisRow) → inputs_of (map found_row rows) ≡ inputs_of rows
same-inputs [] = refl
same-inputs (r ∷ rows) = ap (λ t. r.input ∷ t) (same-inputs rows)

-- the machine makes a legal entry of its event
made-is : (v : TraceVersion) (s : Setup) (m : Machine) (made : List Entry) (e : Entry) → IsOf s (cycles_of made) (machine_from s m made) e → made_from s m made (entry_of (found_entry v s e)) ≡ e
made-is v s m made (call k i reply) h = ap (call k i) (sym h.1)
made-is v s m made (cycle n rows grows) h =
    let next : List DriveIn → Entry = cycle_of s (cycles_of made) (machine_from s m made) in
    let same : next (inputs_of (map found_row rows)) ≡ next (inputs_of rows) = ap next (same-inputs rows) in
    let number = sym h.0 in
    let axes = sym h.1.axes in
    let groups = sym h.1.groups in
    let is : next (inputs_of rows) ≡ cycle n rows grows = λ i. cycle (number i) (axes i) (groups i) in
    same ∙ is
made-is v s m made (end_of task) h = refl

cycle-left : (v : TraceVersion) (s : Setup) (made : List Entry) (e : Entry) (more : ℕ) → cycles_of made + (cycle_count e + more) ≤ s.cycles → has_cycle s made (entry_of (found_entry v s e)) ≡ true
cycle-left v s made (call k i reply) more l = refl
cycle-left v s made (cycle n rows grows) more l = lt-ltb (cycles_of made) s.cycles (omega (arith, l))
cycle-left v s made (end_of task) more l = refl

room-left : (v : TraceVersion) (s : Setup) (made : List Entry) (e : Entry) (more : ℕ) → length made < s.entries → cycles_of made + (cycle_count e + more) ≤ s.cycles → has_room s made (entry_of (found_entry v s e)) ≡ true
room-left v s made e more l h = rw (lt-ltb (length made) s.entries l, cycle-left v s made e more h) refl

-- the records that are expected of a legal history are those found
expected-found : (v : TraceVersion) (s : Setup) (m : Machine) (made es : List Entry) → Follows s (cycles_of made) (machine_from s m made) es → length made + length es ≤ s.entries → cycles_of made + cycles_of es ≤ s.cycles →
    AllByRecursion (IsEntryRead v s) (map (found_entry v s) es) →
    expected_from v s m made (map entry_of (map (found_entry v s) es)) ≡ flat_map (found_entry_records v s) (map (found_entry v s) es)
expected-found v s m made [] f l c kept = refl
expected-found v s m made (e ∷ es) f l c kept =
    let x = entry_of (found_entry v s e) in
    let is : made_from s m made x ≡ e = made-is v s m made e f.0 in
    let room : has_room s made x ≡ true = room-left v s made e (cycles_of es) (omega (arith, l)) c in
    let here : expected_of v s m made x ≡ found_entry_records v s (found_entry v s e) = room-same v s m made x room ∙ ap (entry_records v s) is ∙ sym (found-same v s e kept.0) in
    let count = cycles-more made e in
    let long : length (made ++ e ∷ []) ≡ length made + 1 = length-append made (e ∷ []) in
    let follows : Follows s (cycles_of (made ++ e ∷ [])) (machine_from s m (made ++ e ∷ [])) es =
    rw (count, machine-more s m made e) f.1 in
    let later = expected-found v s m (made ++ e ∷ []) es follows (omega (arith, long, l)) (omega (arith, count, c)) kept.1 in
    let same : expected_from v s m (with_made_from s m made x) (map entry_of (map (found_entry v s) es)) ≡ flat_map (found_entry_records v s) (map (found_entry v s) es) =
    ap (λ y. expected_from v s m (made ++ y ∷ []) (map entry_of (map (found_entry v s) es))) is ∙ later in
    ap (λ a. a ++ expected_from v s m (with_made_from s m made x) (map entry_of (map (found_entry v s) es))) here ∙ ap (λ a. found_entry_records v s (found_entry v s e) ++ a) same

pub cycles-found : (v : TraceVersion) (s : Setup) (es : List Entry) → cycles_of (map entry_of (map (found_entry v s) es)) ≡ cycles_of es
cycles-found v s [] = refl
cycles-found v s (call k i reply ∷ es) = ap (λ n. 0 + n) (cycles-found v s es)
cycles-found v s (cycle n rows grows ∷ es) = ap (λ n. 1 + n) (cycles-found v s es)
cycles-found v s (end_of task ∷ es) = ap (λ n. 0 + n) (cycles-found v s es)

none-of : (t : TraceState) (m : Machine) → IsTraceKept t → (es : List Entry) → IsLegalFrom t.config m es → IsTraceOf t es → expected_records m t ≡ found_records t
unfolding expected_records found_records machine_from
none-of t m kept es legal is =
    let v = t.version in
    let s = t.config in
    let read : AllByRecursion (IsEntryRead v s) (map (found_entry v s) es) = subst (AllByRecursion (IsEntryRead v s)) is.found kept.entries in
    let a : expected_from v s m [] (entries_of t) ≡ flat_map (found_entry_records v s) t.found =
    rw is.found (expected-found v s m [] es legal.follows (omega (arith, legal.entries)) (omega (arith, legal.cycles)) read) in
    let count : cycles_of (entries_of t) ≡ cycles_of es = ap (λ fs. cycles_of (map entry_of fs)) is.found ∙ cycles-found v s es in
    let b : map (with_taken (cycles_of (entries_of t))) t.drives ≡ t.drives = ap (λ n. map (with_taken n) t.drives) count ∙ took-from (cycles_of es) t.drives is.taken in
    ap (λ x. x ++ drive_records s (map (with_taken (cycles_of (entries_of t))) t.drives)) a ∙ ap (λ ds. flat_map (found_entry_records v s) t.found ++ drive_records s ds) b

-- no record of a legal trace differs
pub legal-none : (t : TraceState) (m : Machine) → IsTraceKept t → IsLegalTraceFrom m t → difference_from m t ≡ None
unfolding difference_from
legal-none t m kept l = rw (none-of t m kept l.history l.legal l.is) (first-none (first_place t) (found_records t))

-- ---- what of a trace is held

-- a trace is held so by itself
pub held-itself : (t : TraceState) → IsHeldOf t t
held-itself t = record { more = []; is = ap (λ es. record t { found = es }) (sym (append-nil t.found)); spent = λ h. refl }

-- where what is held keeps within the room it is all
held-all : (whole t : TraceState) → IsHeldOf whole t → keep_within t.config t.found ≡ true → whole ≡ t
held-all whole t h keeps = h.is ∙ ap (λ es. record t { found = t.found ++ es }) (h.spent keeps) ∙ ap (λ es. record t { found = es }) (append-nil t.found)

-- the first entries keep within what all do
cycles-first : (es more : List FoundEntry) → cycles_of (map entry_of es) ≤ cycles_of (map entry_of (es ++ more))
cycles-first [] more = omega arith
cycles-first (e ∷ es) more = let h = cycles-first es more in omega (arith, h)

keeps-of : (s : Setup) (es : List FoundEntry) → length es ≤ s.entries → cycles_of (map entry_of es) ≤ s.cycles → keep_within s es ≡ true
unfolding keep_within
keeps-of s es l c = rw (le-leb (length es) s.entries l, le-leb (cycles_of (map entry_of es)) s.cycles c) refl

-- of a legal trace all is held
pub legal-held : (whole t : TraceState) (m : Machine) → IsHeldOf whole t → IsLegalTraceFrom m whole → whole ≡ t
legal-held whole t m h l =
    let s = whole.config in
    let fs : List FoundEntry = map (found_entry whole.version s) l.history in
    let all : t.found ++ h.more ≡ fs = ap (λ (x : TraceState). x.found) (sym h.is) ∙ l.is.found in
    let long : length t.found + length h.more ≡ length l.history = sym (length-append t.found h.more) ∙ ap length all ∙ length-map l.history (found_entry whole.version s) in
    let cycles : cycles_of (map entry_of (t.found ++ h.more)) ≡ cycles_of l.history = ap (λ es. cycles_of (map entry_of es)) all ∙ cycles-found whole.version s l.history in
    let first = cycles-first t.found h.more in
    let entries = l.legal.entries in
    let most = l.legal.cycles in
    let same : s ≡ t.config = ap (λ (x : TraceState). x.config) h.is in
    held-all whole t h (rw (← same) (keeps-of s t.found (omega (arith, long, entries)) (omega (arith, first, cycles, most))))

-- after entries others are expected after their records
expected-append : (v : TraceVersion) (s : Setup) (m : Machine) (made es more : List Entry) → (rest : List (List (List ℕ))) × (expected_from v s m made (es ++ more) ≡ expected_from v s m made es ++ rest)
expected-append v s m made [] more = (expected_from v s m made more, refl)
expected-append v s m made (e ∷ es) more =
    let later = expected-append v s m (with_made_from s m made e) es more in
    (later.0, ap (λ x. expected_of v s m made e ++ x) later.1 ∙ sym (append_assoc (expected_of v s m made e) _ later.0))

-- a record that differs first whatever stands after the entries that are held differs first
differs-more : (t : TraceState) (m : Machine) (d : Difference) (more : List FoundEntry) → DiffersAmong t m d → difference_from m (record t { found = t.found ++ more }) ≡ Some d
unfolding difference_from expected_records found_records first_place
differs-more t m d more h =
    let v = t.version in
    let s = t.config in
    let all : TraceState = record t { found = t.found ++ more } in
    let split : entries_of all ≡ entries_of t ++ map entry_of more = map-append entry_of t.found more in
    let e = expected-append v s m [] (entries_of t) (map entry_of more) in
    let a : List (List (List ℕ)) = drive_records s (map (with_taken (cycles_of (entries_of all))) t.drives) in
    let b : List (List (List ℕ)) = drive_records s t.drives in
    let expected : expected_from v s m [] (entries_of all) ++ a ≡ expected_from v s m [] (entries_of t) ++ (e.0 ++ a) =
    ap (λ es. expected_from v s m [] es ++ a) split ∙ ap (λ x. x ++ a) e.1 ∙ append_assoc (expected_from v s m [] (entries_of t)) e.0 a in
    let found : flat_map (found_entry_records v s) (t.found ++ more) ++ b ≡ flat_map (found_entry_records v s) t.found ++ (flat_map (found_entry_records v s) more ++ b) =
    ap (λ x. x ++ b) (flat_map-append (found_entry_records v s) t.found more) ∙ append_assoc (flat_map (found_entry_records v s) t.found) _ b in
    ap (λ x. first_difference (first_place t) x (flat_map (found_entry_records v s) (t.found ++ more) ++ b)) expected ∙ ap (λ y. first_difference (first_place t) (expected_from v s m [] (entries_of t) ++ (e.0 ++ a)) y) found ∙ h (e.0 ++ a) (flat_map (found_entry_records v s) more ++ b)

pub differs-held : (whole t : TraceState) (m : Machine) (d : Difference) → IsHeldOf whole t → DiffersAmong t m d → difference_from m whole ≡ Some d
differs-held whole t m d held h = ap (difference_from m) held.is ∙ differs-more t m d held.more h

-- ---- what is verified

-- where all that is held was replayed it is all
pub all-replayed : (whole t : TraceState) (m : Machine) (k : SegmentedState) (place : ℕ) → IsHeldOf whole t → IsUnderWay t m k (length t.found) place → IsLegalFrom k.config k.start k.history → whole ≡ t
all-replayed whole t m k place h u legal =
    let fs = all-found t m k place u in
    let entries = legal.entries in
    let most = legal.cycles in
    let long : length t.found ≡ length k.history = ap length fs ∙ length-map k.history (found_entry t.version t.config) in
    let cycles : cycles_of (map entry_of t.found) ≡ cycles_of k.history = ap (λ es. cycles_of (map entry_of es)) fs ∙ cycles-found t.version t.config k.history in
    held-all whole t h (rw (← u.config) (keeps-of k.config t.found (omega (arith, long, entries)) (omega (arith, cycles, most))))

pub illegal-entry : (whole t : TraceState) (m : Machine) (s : Stop) (k : SegmentedState) → IsTraceKept t → IsHeldOf whole t → EntriesReplay t m k (Err s) → Judges m whole (Err s)
illegal-entry whole t m (stop.Differs d) k kept held h = (
  differs-held whole t m d held h,
  λ l.
      let fair : IsLegalTraceFrom m t = subst (IsLegalTraceFrom m) (legal-held whole t m held l) l in
      let e : Some d ≡ None = sym (differs-held t t m d (held-itself t) h) ∙ legal-none t m kept fair in
      absurd (cc e),
)
illegal-entry whole t m stop.OutOfMemory k kept held h = tt

taken-as : (t : TraceState) (m : Machine) (k : SegmentedState) (place c : ℕ) → IsUnderWay t m k (length t.found) place → c ≡ cycles_of k.history → cycles_of (entries_of t) ≡ c
taken-as t m k place c u e = ap (λ fs. cycles_of (map entry_of fs)) (all-found t m k place u) ∙ cycles-found t.version t.config k.history ∙ sym e

pub illegal-drive : (t : TraceState) (m : Machine) (s : Stop) (k : SegmentedState) (place c : ℕ) → IsTraceKept t → IsUnderWay t m k (length t.found) place → c ≡ cycles_of k.history →
    StopsAt place (drive_records t.config (map (with_taken c) t.drives)) (drive_records t.config t.drives) s → Judges m t (Err s)
illegal-drive t m (stop.Differs d) k place c kept u e h =
    let same : difference_from m t ≡ Some d =
    drives-left t m k place u ∙ ap (λ n. first_difference place (drive_records t.config (map (with_taken n) t.drives)) (drive_records t.config t.drives)) (taken-as t m k place c u e) ∙ h in
    (same, λ l. let x : Some d ≡ None = sym same ∙ legal-none t m kept l in absurd (cc x))
illegal-drive t m stop.OutOfMemory k place c kept u e h = tt

-- so of the whole, where that is held
pub illegal-drives : (whole t : TraceState) (m : Machine) (s : Stop) (k : SegmentedState) (place c : ℕ) → whole ≡ t → IsTraceKept t → IsUnderWay t m k (length t.found) place → c ≡ cycles_of k.history →
    StopsAt place (drive_records t.config (map (with_taken c) t.drives)) (drive_records t.config t.drives) s → Judges m whole (Err s)
illegal-drives whole t m s k place c all kept u e h = subst (λ x. Judges m x (Err s)) (sym all) (illegal-drive t m s k place c kept u e h)

pub legal-kernel : (t : TraceState) (m : Machine) (k : SegmentedState) (place c : ℕ) → IsUnderWay t m k (length t.found) place → c ≡ cycles_of k.history → map (with_taken c) t.drives ≡ t.drives →
    IsLegalFrom k.config k.start k.history → Judges m t (Ok k)
legal-kernel t m k place c u e same legal =
    let here : IsLegalFrom k.config m k.history = subst (λ x. IsLegalFrom k.config x k.history) u.start legal in (
      drives-left t m k place u ∙ ap (λ n. first_difference place (drive_records t.config (map (with_taken n) t.drives)) (drive_records t.config t.drives)) (taken-as t m k place c u e) ∙
          ap (λ ds. first_difference place (drive_records t.config ds) (drive_records t.config t.drives)) same ∙ first-none place (drive_records t.config t.drives),
      record {
        config = u.config;
        start = u.start;
        legal = subst (λ s. IsLegalFrom s m k.history) u.config here;
        is = record { found = all-found t m k place u; taken = rw (← e) (took c t.drives same) };
      },
    )
