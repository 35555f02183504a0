-- The replay of a trace: what the machine makes of its events. This project's profile.
use Rattle.std.specs.Prelude.{ℕ, ◌+◌, ◌&&◌, Bool, true, nat_lt, if◌then◌else◌, List, [], ◌∷◌, ◌++◌, length, map}
use Rattle.plc_types.specs.declared.drive.DriveIn.{DriveIn}
use Rattle.motion_history.specs.Entries.{Entry, call, cycle, cycles_of, end_of}
use Rattle.motion_history.specs.Setup.{Setup}
use Rattle.motion_history.specs.declared.refused.TraceVersion.{TraceVersion}
use Rattle.motion_kernel.specs.calls.Calls.{reply_of}
use Rattle.motion_kernel.specs.cycles.Cycles.{cycled}
use Rattle.motion_kernel.specs.Histories.{inputs_of, machine_after, machine_from}
use Rattle.motion_kernel.specs.Machine.{Machine}
use Rattle.trace_text.specs.Trace.{drive_records, entry_records}
use Rattle.trace_text.specs.TraceState.{TraceState, entries_of}
use Rattle.trace_text.specs.declared.drive_end.DriveEndRow.{DriveEndRow}

-- the cycle that a machine makes after this many, with these answers of the drives
abbrev pub cycle_of : Setup → ℕ → Machine → List DriveIn → Entry
cycle_of s cycles m ins =
    let made = cycled s m ins in
    cycle (cycles + 1) made.axes made.groups

-- what a machine makes of the event of an entry, after this many cycles: a call has its reply, a
-- cycle its rows with the drives' answers given
abbrev pub made_of : Setup → ℕ → Machine → Entry → Entry
made_of s cycles m (call k inputs reply) = call k inputs (reply_of s m k inputs)
made_of s cycles m (cycle n rows grows) = cycle_of s cycles m (inputs_of rows)
made_of s cycles m (end_of task) = end_of task

-- what a machine makes of the event of an entry after a history from it on
abbrev pub made_from : Setup → Machine → List Entry → Entry → Entry
made_from s m es e = made_of s (cycles_of es) (machine_from s m es) e

-- a history from a machine on, with what the machine makes of one event more
abbrev pub with_made_from : Setup → Machine → List Entry → Entry → List Entry
with_made_from s m es e = es ++ made_from s m es e ∷ []

-- the cycle that the machine makes after a history, with these answers of the drives
abbrev pub cycle_made : Setup → List Entry → List DriveIn → Entry
cycle_made s es ins = cycle_of s (cycles_of es) (machine_after s es) ins

-- what the machine makes of the event of an entry after a history
abbrev pub made_after : Setup → List Entry → Entry → Entry
made_after s es e = made_of s (cycles_of es) (machine_after s es) e

-- a history with what the machine makes of one event more
abbrev pub with_made : Setup → List Entry → Entry → List Entry
with_made s es e = es ++ made_after s es e ∷ []

-- whether an entry is no cycle, or a history has cycles left
abbrev pub has_cycle : Setup → List Entry → Entry → Bool
has_cycle s es (call k inputs reply) = true
has_cycle s es (cycle n rows grows) = nat_lt (cycles_of es) s.cycles
has_cycle s es (end_of task) = true

-- whether a history has room for an entry more, and where it is a cycle also for that
abbrev pub has_room : Setup → List Entry → Entry → Bool
has_room s es e = nat_lt (length es) s.entries && has_cycle s es e

-- the records that are expected of an entry after a history from a machine on: those of what the
-- machine makes of it; where there is no room, a record of empty fields
unfoldable pub expected_of : TraceVersion → Setup → Machine → List Entry → Entry →
    List (List (List ℕ))
expected_of v s m es e =
    if has_room s es e then entry_records v s (made_from s m es e) else [] ∷ []

-- the records that are expected of entries, one after another
abbrev pub expected_from : TraceVersion → Setup → Machine → List Entry → List Entry →
    List (List (List ℕ))
expected_from v s m made [] = []
expected_from v s m made (e ∷ es) =
    expected_of v s m made e ++ expected_from v s m (with_made_from s m made e) es

-- what a drive took, with a setpoint in each of this many cycles
abbrev pub with_taken : ℕ → DriveEndRow → DriveEndRow
with_taken cycles d = record d { taken = cycles }

-- the records that are expected of a trace after its machine part: those of a machine, and those
-- of the drives with the number of cycles taken
unfoldable pub expected_records : Machine → TraceState → List (List (List ℕ))
expected_records m t =
    expected_from t.version t.config m [] (entries_of t) ++
    drive_records t.config (map (with_taken (cycles_of (entries_of t))) t.drives)
