-- What a kernel keeps of its history, so that its trace is read back. This project's profile.
use Rattle.std.specs.Prelude.{◌≡◌, All, Ok, List, length}
use Rattle.motion_history.specs.Bits.{HasBits}
use Rattle.motion_history.specs.Entries.{Entry}
use Rattle.motion_history.specs.Setup.{IsSetup, Setup}
use Rattle.motion_history.specs.declared.refused.TraceVersion.{TraceVersion}
use Rattle.motion_kernel.specs.Histories.{IsLegal}
use Rattle.motion_kernel.specs.kept.Machine.{AreWhole}
use Rattle.trace_text.specs.reading.Reading.{trace_of}
use Rattle.trace_text.specs.RowRanges.{IsDriveEnd}
use Rattle.trace_text.specs.Trace.{CanHold, trace_text}
use Rattle.trace_text.specs.Writable.{found_trace}
use Rattle.trace_text.specs.declared.command.Command.{Command}
use Rattle.trace_text.specs.declared.drive_end.DriveEndRow.{DriveEndRow}

-- the history is legal, for a sound configuration whose groups are whole, and its numbers have the
-- bits of their types
pub record IsKeptHistory (s : Setup) (es : List Entry) : Type 0 where
  pub setup : IsSetup s
  pub whole : AreWhole s
  pub legal : IsLegal s es
  pub bits : All HasBits es

-- the trace of a history and of what the drives took is read as that of the machine, the history
-- and the drives
abbrev pub IsReadBack : TraceVersion → Command → Setup → List Entry → List DriveEndRow → Type 0
IsReadBack v c s es ds = trace_of (trace_text v c s es ds) ≡ Ok (found_trace v c s es ds)

-- so it is with every history that a kernel keeps, in each version that can hold its machine
abbrev pub KeptHistoriesAreReadBack : Type 0
KeptHistoriesAreReadBack = (v : TraceVersion) (c : Command) (s : Setup) (es : List Entry)
    (ds : List DriveEndRow) → IsKeptHistory s es → CanHold v s → length ds ≡ length s.axes →
    All IsDriveEnd ds → IsReadBack v c s es ds
