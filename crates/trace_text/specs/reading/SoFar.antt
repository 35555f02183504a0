-- Where a trace stands after some of its records. This project's profile.
use Rattle.std.specs.Prelude.{List}
use Rattle.motion_history.specs.Setup.{Setup}
use Rattle.motion_history.specs.declared.refused.TraceVersion.{TraceVersion}
use Rattle.trace_text.specs.Found.{CycleFound}
use Rattle.trace_text.specs.declared.found.FoundEntry.{FoundEntry}
use Rattle.trace_text.specs.declared.reading.kind.Kind.{Kind}
use Rattle.trace_text.specs.declared.reading.kind.Stage.{Stage}
use Rattle.trace_text.specs.declared.command.Command.{Command}
use Rattle.trace_text.specs.declared.drive_end.DriveEndRow.{DriveEndRow}

-- a trace as far as it was read: the stage in which it stands, the kind of its last item, its
-- version, who made it, its machine, the cycle that is under way, its whole entries, and what the
-- drives took
pub record SoFar : Type 0 where
  pub stage : Stage
  pub last : Kind
  pub version : TraceVersion
  pub command : Command
  pub setup : Setup
  pub cycle : CycleFound
  pub found : List FoundEntry
  pub drives : List DriveEndRow
