-- What is read of a trace that was written. This project's profile.
use Rattle.std.specs.Prelude.{◌≡◌, ◌≤◌, ◌-◌, ◌^◌, ℕ, Ok, Some, List, drop, map, slice_get}
use Rattle.plc_types.specs.declared.axis.AxisDef.{AxisDef}
use Rattle.plc_types.specs.declared.axis.AxisRow.{AxisRow}
use Rattle.plc_types.specs.declared.group.GroupRow.{GroupRow}
use Rattle.trace_columns.specs.Records.{records_of}
use Rattle.motion_history.specs.Entries.{Entry}
use Rattle.motion_history.specs.Setup.{Setup}
use Rattle.motion_history.specs.declared.refused.TraceVersion.{TraceVersion}
use Rattle.trace_text.specs.reading.Events.{cycle_meaning}
use Rattle.trace_text.specs.Records.{cycle_fields, drive_fields, grow_fields, padded, row_fields}
use Rattle.trace_text.specs.RowRanges.{IsDriveEnd, IsGroupRow, IsReported, IsRow, found_place, found_row}
use Rattle.trace_text.specs.reading.Rows.{drive_meaning, grow_meaning, row_meaning}
use Rattle.trace_text.specs.reading.Reading.{trace_of}
use Rattle.trace_text.specs.writing.Parts.{entry_text}
use Rattle.trace_text.specs.Trace.{entry_records, trace_records, trace_text}
use Rattle.trace_text.specs.Writable.{IsHeld, found_trace}
use Rattle.trace_text.specs.declared.command.Command.{Command}
use Rattle.trace_text.specs.declared.drive_end.DriveEndRow.{DriveEndRow}

-- the records of a trace's text are those of which it was made, field by field
abbrev pub RecordsAreReadBack : Type 0
RecordsAreReadBack = (v : TraceVersion) (c : Command) (s : Setup) (es : List Entry)
    (ds : List DriveEndRow) →
    records_of (trace_text v c s es ds) ≡ map padded (trace_records v c s es ds)

-- so are those of an entry's text
abbrev pub EntriesAreReadBack : Type 0
EntriesAreReadBack = (v : TraceVersion) (s : Setup) (e : Entry) →
    records_of (entry_text v s e) ≡ map padded (entry_records v s e)

-- so texts that are the same have the same records
abbrev pub TextsTellRecords : Type 0
TextsTellRecords = (v : TraceVersion) (c : Command) (s : Setup) (es others : List Entry)
    (ds : List DriveEndRow) →
    trace_text v c s es ds ≡ trace_text v c s others ds →
    map padded (trace_records v c s es ds) ≡ map padded (trace_records v c s others ds)

-- the records of cycles, of their rows and of what the drives took are read as what was written,
-- each row without its offset, in each version
pub record AreRowsReadBack : Type 0 where
  pub cycles : (n : ℕ) → 1 ≤ n → n ≤ 2 ^ 32 - 1 →
      cycle_meaning (drop 1 (padded (cycle_fields n))) ≡ Ok n
  pub rows : (v : TraceVersion) (s : Setup) (n : ℕ) (d : AxisDef) (r : AxisRow) →
      slice_get s.axes n ≡ Some d → IsRow r → IsReported d r →
      row_meaning v s n (drop 1 (padded (row_fields v s n r))) ≡ Ok (found_row r, found_place v d r)
  pub groups : (s : Setup) (n : ℕ) (r : GroupRow) → IsGroupRow r →
      grow_meaning s n (drop 1 (padded (grow_fields s n r))) ≡ Ok r
  pub drives : (s : Setup) (n : ℕ) (d : DriveEndRow) → IsDriveEnd d →
      drive_meaning s n (drop 1 (padded (drive_fields s n d))) ≡ Ok d

-- the text of a history that a version can hold is read as the whole trace: its version, who made
-- it, its machine, its entries with each row without its offset, and what its drives took
abbrev pub TracesAreReadBack : Type 0
TracesAreReadBack = (v : TraceVersion) (c : Command) (s : Setup) (es : List Entry)
    (ds : List DriveEndRow) →
    IsHeld v s es ds → trace_of (trace_text v c s es ds) ≡ Ok (found_trace v c s es ds)

-- so texts that are the same are those of the same trace: two histories of one machine with the
-- same text in one version differ in the offsets of rows alone
abbrev pub TextsTellTraces : Type 0
TextsTellTraces = (v w : TraceVersion) (c d : Command) (s t : Setup) (es others : List Entry)
    (ds ends : List DriveEndRow) → IsHeld v s es ds → IsHeld w t others ends →
    trace_text v c s es ds ≡ trace_text w d t others ends →
    found_trace v c s es ds ≡ found_trace w d t others ends
