-- What comparing records answers. This project's profile.
use Rattle.std.specs.Prelude.{◌≡◌, ◌<◌, ◌≤◌, ℕ, false, Some, Result, Ok, Err, List, length}
use Rattle.motion_kernel.specs.Segments.{SegmentedState}
use Rattle.motion_kernel.specs.Machine.{Machine}
use Rattle.trace_text.specs.reading.Reading.{are_same}
use Rattle.trace_text.specs.TraceState.{TraceState, entry_of}
use Rattle.trace_text.specs.Writable.{found_entry}
use Rattle.trace_text.specs.declared.found.FoundEntry.{FoundEntry}
use Rattle.trace_check.specs.Differences.{first_difference}
use Rattle.trace_check.specs.FoundRecords.{found_entry_records}
use Rattle.trace_check.specs.Replays.{expected_of, made_from, with_made_from}
use Rattle.trace_check.specs.declared.difference.Stop.{Stop}
use Rattle.trace_check.specs.declared.difference.Stop.TheVariants as stop

-- a stop gives two records that are not the same; or memory ran out
abbrev pub Tells : ℕ → List (List ℕ) → List (List ℕ) → Stop → Type 0
Tells place expected found (stop.Differs d) =
    (d ≡ record { place = place; expected = expected; found = found }) ×
    (are_same expected found ≡ false)
Tells place expected found stop.OutOfMemory = Unit {0}

-- a replay stops at the first record that differs; or memory ran out
abbrev pub StopsAt : ℕ → List (List (List ℕ)) → List (List (List ℕ)) → Stop → Type 0
StopsAt place expected found (stop.Differs d) = first_difference place expected found ≡ Some d
StopsAt place expected found stop.OutOfMemory = Unit {0}

-- records were compared from a place on: they are the same, or the first that differs is reported;
-- or memory ran out
abbrev pub Compares : {A : Type 0} → ℕ → List (List (List ℕ)) → List (List (List ℕ)) →
    Result A Stop → Type 0
Compares place expected found (Ok x) = expected ≡ found
Compares place expected found (Err s) = StopsAt place expected found s

-- an entry was replayed from a machine on, from a kernel's state to another: it is found as the
-- machine makes it, so are its records, and their number is reported
pub record IsEntryReplayed (t : TraceState) (e : FoundEntry) (m : Machine) (old new : SegmentedState)
    (count : ℕ) : Type 0 where
  pub same : expected_of t.version t.config m old.history (entry_of e) ≡
      found_entry_records t.version t.config e
  pub after : new ≡ record old { history = with_made_from t.config m old.history (entry_of e) }
  pub found : e ≡ found_entry t.version t.config (made_from t.config m old.history (entry_of e))
  pub room : length old.history < t.config.entries
  pub told : count ≡ length (found_entry_records t.version t.config e)
  pub few : count ≤ 300

-- an entry was, or the first of its records that differs is reported; or memory ran out
abbrev pub EntryReplays : TraceState → FoundEntry → ℕ → Machine → SegmentedState → SegmentedState →
    Result ℕ Stop → Type 0
EntryReplays t e place m old new (Ok count) = IsEntryReplayed t e m old new count
EntryReplays t e place m old new (Err s) =
    StopsAt place (expected_of t.version t.config m old.history (entry_of e))
    (found_entry_records t.version t.config e) s
