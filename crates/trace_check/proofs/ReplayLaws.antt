-- Entries that are replayed one after another.
-- for: check, check_from, replay and others
use Rattle.std.proofs.Common.{◌≡◌, ℕ, zero, suc, ◌+◌, ◌≤◌, Some, Err, List, [], ◌∷◌, ◌++◌, drop, length, map, take, refl, sym, ◌∙◌, ap, arith, append_assoc, subst}
use Rattle.std.specs.Prelude.{slice_get}
use Rattle.std.specs.List.{flat_map}
use Rattle.std.specs.Option.{option_map}
use Rattle.std.proofs.lemmas.List.{drop_all, length-append, length-map, map-append, take_all}
use Rattle.motion_history.specs.Entries.{cycles_of}
use Rattle.motion_kernel.specs.Segments.{SegmentedState}
use Rattle.motion_kernel.specs.Machine.{Machine}
use Rattle.motion_history.specs.Setup.{Setup}
use Rattle.motion_history.specs.declared.refused.TraceVersion.{TraceVersion}
use Rattle.trace_text.specs.Trace.{drive_records, machine_records}
use Rattle.trace_text.specs.declared.command.Command.{Command}
use Rattle.trace_text.specs.TraceState.{TraceState, entries_of, entry_of}
use Rattle.trace_text.specs.Writable.{found_entry}
use Rattle.trace_text.specs.declared.found.FoundEntry.{FoundEntry}
use Rattle.trace_check.specs.Differences.{first_difference}
use Rattle.trace_check.specs.FoundRecords.{found_entry_records, found_records}
use Rattle.trace_check.specs.Progress.{EntriesReplay, IsUnderWay, difference_from, first_place}
use Rattle.trace_check.specs.Replays.{expected_from, expected_of, expected_records, made_from, with_made_from, with_taken}
use Rattle.trace_check.specs.Stops.{IsEntryReplayed, StopsAt}
use Rattle.trace_check.specs.declared.difference.Stop.{Stop}
use Rattle.trace_check.specs.declared.difference.Stop.TheVariants as stop
use Rattle.trace_check.proofs.Firsts.{first-past, first-stop}
use Rattle.trace_check.proofs.Numbered.{get-map}

next-drop : {X : Type 0} (xs : List X) (n : ℕ) (x : X) → slice_get xs n ≡ Some x → drop n xs ≡ x ∷ drop (n + 1) xs
next-drop [] n x h = absurd (cc h)
next-drop (y ∷ xs) zero x h = let e : y ≡ x = cc h in ap (λ z. z ∷ xs) e
next-drop (y ∷ xs) (suc n) x h = let e : suc n + 1 ≡ suc (n + 1) = omega arith in rw e (next-drop xs n x h)

next-take : {X : Type 0} (xs : List X) (n : ℕ) (x : X) → slice_get xs n ≡ Some x → take (n + 1) xs ≡ take n xs ++ x ∷ []
next-take [] n x h = absurd (cc h)
next-take (y ∷ xs) zero x h = let e : y ≡ x = cc h in ap (λ z. z ∷ []) e
next-take (y ∷ xs) (suc n) x h = let e : suc n + 1 ≡ suc (n + 1) = omega arith in rw e (ap (λ t. y ∷ t) (next-take xs n x h))

entry-at : (t : TraceState) (n : ℕ) (e : FoundEntry) → slice_get t.found n ≡ Some e → slice_get (entries_of t) n ≡ Some (entry_of e)
entry-at t n e h = get-map entry_of t.found n ∙ ap (option_map entry_of) h

-- what is left begins with the entry
pub next-rest : (t : TraceState) (m : Machine) (k : SegmentedState) (count place : ℕ) (e : FoundEntry) (xs ys : List (List (List ℕ))) → IsUnderWay t m k count place → slice_get t.found count ≡ Some e →
    first_difference (first_place t) (expected_from t.version t.config m [] (entries_of t) ++ xs) (flat_map (found_entry_records t.version t.config) t.found ++ ys) ≡
    first_difference place
    (expected_of t.version t.config m k.history (entry_of e) ++ (expected_from t.version t.config m (with_made_from t.config m k.history (entry_of e)) (drop (count + 1) (entries_of t)) ++ xs))
    (found_entry_records t.version t.config e ++ (flat_map (found_entry_records t.version t.config) (drop (count + 1) t.found) ++ ys))
next-rest t m k count place e xs ys u at =
    let a = next-drop (entries_of t) count (entry_of e) (entry-at t count e at) in
    let b = next-drop t.found count e at in
    let v = t.version in
    let s = t.config in
    u.rest xs ys ∙
    ap (λ l. first_difference place (expected_from v s m k.history l ++ xs) (flat_map (found_entry_records v s) (drop count t.found) ++ ys)) a ∙
    ap (λ l. first_difference place ((expected_of v s m k.history (entry_of e) ++ expected_from v s m (with_made_from s m k.history (entry_of e)) (drop (count + 1) (entries_of t))) ++ xs) (flat_map (found_entry_records v s) l ++ ys)) b ∙
    ap (λ l. first_difference place l ((found_entry_records v s e ++ flat_map (found_entry_records v s) (drop (count + 1) t.found)) ++ ys)) (append_assoc (expected_of v s m k.history (entry_of e)) _ xs) ∙
    ap (λ l. first_difference place (expected_of v s m k.history (entry_of e) ++ (expected_from v s m (with_made_from s m k.history (entry_of e)) (drop (count + 1) (entries_of t)) ++ xs)) l) (append_assoc (found_entry_records v s e) _ ys)

-- one entry more is replayed
pub goes-on : (t : TraceState) (m : Machine) (k new : SegmentedState) (count place n : ℕ) (e : FoundEntry) → IsUnderWay t m k count place → slice_get t.found count ≡ Some e → IsEntryReplayed t e k.start k new n →
    IsUnderWay t m new (count + 1) (place + n)
goes-on t m k new count place n e u at replayed =
    let r : IsEntryReplayed t e m k new n = subst (λ x. IsEntryReplayed t e x k new n) u.start replayed in
    let history : new.history ≡ with_made_from t.config m k.history (entry_of e) = ap (λ (x : SegmentedState). x.history) r.after in
    let made = u.made in
    let room = r.room in
    let small = u.small in
    let few = r.few in
    let long : length (k.history ++ made_from t.config m k.history (entry_of e) ∷ []) ≡ length k.history + 1 = length-append k.history (made_from t.config m k.history (entry_of e) ∷ []) in
    record {
      config = ap (λ (x : SegmentedState). x.config) r.after ∙ u.config;
      start = ap (λ (x : SegmentedState). x.start) r.after ∙ u.start;
      made = ap length history ∙ long ∙ ap (λ j. j + 1) made;
      room = omega (arith, made, room);
      small = omega (arith, small, few);
      found =
          next-take t.found count e at ∙ ap (λ l. l ++ e ∷ []) u.found ∙ ap (λ x. map (found_entry t.version t.config) k.history ++ x ∷ []) r.found ∙
          sym (map-append (found_entry t.version t.config) k.history (made_from t.config m k.history (entry_of e) ∷ [])) ∙ ap (map (found_entry t.version t.config)) (sym history);
      rest = λ xs ys.
          next-rest t m k count place e xs ys u at ∙
          first-past place (place + n) _ _ _ _ r.same (ap (λ j. place + j) r.told) ∙
          ap (λ h. first_difference (place + n) (expected_from t.version t.config m h (drop (count + 1) (entries_of t)) ++ xs) (flat_map (found_entry_records t.version t.config) (drop (count + 1) t.found) ++ ys)) (sym history);
    }

-- a stop in an entry is the trace's, whatever stands after the entries
pub stops-here : (t : TraceState) (m : Machine) (k new : SegmentedState) (count place : ℕ) (e : FoundEntry) (s : Stop) → IsUnderWay t m k count place → slice_get t.found count ≡ Some e →
    StopsAt place (expected_of t.version t.config k.start k.history (entry_of e)) (found_entry_records t.version t.config e) s → EntriesReplay t m new (Err s)
stops-here t m k new count place e (stop.Differs d) u at h = λ xs ys.
    let here = subst (λ x. StopsAt place (expected_of t.version t.config x k.history (entry_of e)) (found_entry_records t.version t.config e) (stop.Differs d)) u.start h in
    next-rest t m k count place e xs ys u at ∙
    first-stop place (expected_of t.version t.config m k.history (entry_of e)) (found_entry_records t.version t.config e) _ _ d here
stops-here t m k new count place e stop.OutOfMemory u at h = tt

-- nothing is replayed at first
pub opens : (t : TraceState) (k : SegmentedState) (place : ℕ) → k.config ≡ t.config → k.history ≡ [] → place ≡ first_place t → place ≤ 2000 → IsUnderWay t k.start k 0 place
opens t k place config history e small = record {
  config = config;
  start = refl;
  made = ap length history;
  room = omega arith;
  small = omega (arith, small);
  found = rw history refl;
  rest = λ xs ys. rw (history, e) refl;
}

-- at the end the drives are left
pub drives-left : (t : TraceState) (m : Machine) (k : SegmentedState) (place : ℕ) → IsUnderWay t m k (length t.found) place →
    difference_from m t ≡ first_difference place (drive_records t.config (map (with_taken (cycles_of (entries_of t))) t.drives)) (drive_records t.config t.drives)
unfolding difference_from expected_records found_records
drives-left t m k place u =
    let a : drop (length t.found) (entries_of t) ≡ [] = drop_all (length t.found) (entries_of t) (omega (arith, length-map t.found entry_of)) in
    let b : drop (length t.found) t.found ≡ [] = drop_all (length t.found) t.found (omega arith) in
    u.rest _ _ ∙ rw (a, b) refl

-- the entries are those of the kernel's history
pub all-found : (t : TraceState) (m : Machine) (k : SegmentedState) (place : ℕ) → IsUnderWay t m k (length t.found) place → t.found ≡ map (found_entry t.version t.config) k.history
all-found t m k place u = sym (take_all (length t.found) t.found (omega arith)) ∙ u.found

pub first-is : (t : TraceState) (place : ℕ) (s : Setup) → s ≡ t.config → ((v : TraceVersion) (c : Command) → place ≡ length (machine_records v c s) + 1) → place ≡ first_place t
unfolding first_place
first-is t place s is h = h t.version t.command ∙ ap (λ x. length (machine_records t.version t.command x) + 1) is
