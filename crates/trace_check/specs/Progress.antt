-- How far a trace was replayed. This project's profile.
use Rattle.std.specs.Prelude.{◌≡◌, ◌+◌, ◌*◌, ◌≤◌, ℕ, Option, Some, Result, Ok, Err, List, [], ◌++◌, drop, length, map, take}
use Rattle.std.specs.List.{flat_map}
use Rattle.motion_kernel.specs.Segments.{SegmentedState}
use Rattle.motion_kernel.specs.Machine.{Machine, machine_at_opening}
use Rattle.trace_text.specs.Trace.{machine_records}
use Rattle.trace_text.specs.TraceState.{TraceState, entries_of}
use Rattle.trace_text.specs.Writable.{found_entry}
use Rattle.trace_check.specs.Differences.{first_difference}
use Rattle.trace_check.specs.FoundRecords.{found_entry_records, found_records}
use Rattle.trace_check.specs.Replays.{expected_from, expected_records}
use Rattle.trace_check.specs.declared.difference.Difference.{Difference}
use Rattle.trace_check.specs.declared.difference.Stop.{Stop}
use Rattle.trace_check.specs.declared.difference.Stop.TheVariants as stop

-- the number of the first record after the machine part, the header being 1
unfoldable pub first_place : TraceState → ℕ
first_place t = length (machine_records t.version t.command t.config) + 1

-- the first record of a trace that is not the one expected from a machine on
unfoldable pub difference_from : Machine → TraceState → Option Difference
difference_from m t = first_difference (first_place t) (expected_records m t) (found_records t)

-- the first that is not the one expected from opening on
abbrev pub difference_in : TraceState → Option Difference
difference_in t = difference_from (machine_at_opening t.config) t

-- this many entries of a trace are replayed from a machine on: they are found as it makes them, and
-- what differs first in the trace differs first from this place on
pub record IsUnderWay (t : TraceState) (m : Machine) (k : SegmentedState) (count place : ℕ)
    : Type 0 where
  pub config : k.config ≡ t.config
  pub start : k.start ≡ m
  pub made : length k.history ≡ count
  pub room : count ≤ t.config.entries
  pub small : place ≤ 2000 + count * 300
  pub found : take count t.found ≡ map (found_entry t.version t.config) k.history
  pub rest : (xs ys : List (List (List ℕ))) →
      first_difference (first_place t)
      (expected_from t.version t.config m [] (entries_of t) ++ xs)
      (flat_map (found_entry_records t.version t.config) t.found ++ ys) ≡
      first_difference place
      (expected_from t.version t.config m k.history (drop count (entries_of t)) ++ xs)
      (flat_map (found_entry_records t.version t.config) (drop count t.found) ++ ys)

-- this record of a trace differs first, whatever stands after the entries
abbrev pub DiffersAmong : TraceState → Machine → Difference → Type 0
DiffersAmong t m d = (xs ys : List (List (List ℕ))) →
    first_difference (first_place t)
    (expected_from t.version t.config m [] (entries_of t) ++ xs)
    (flat_map (found_entry_records t.version t.config) t.found ++ ys) ≡ Some d

-- all entries were replayed, and the number of the record after them is reported; or the first
-- record that differs is; or memory ran out
abbrev pub EntriesReplay : TraceState → Machine → SegmentedState → Result ℕ Stop → Type 0
EntriesReplay t m k (Ok place) = IsUnderWay t m k (length t.found) place
EntriesReplay t m k (Err (stop.Differs d)) = DiffersAmong t m d
EntriesReplay t m k (Err stop.OutOfMemory) = Unit {0}
