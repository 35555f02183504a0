-- What a run writes, and how it ends. This project's profile.
use Rattle.std.specs.Prelude.{codes, List}
use Rattle.std.specs.Option.{unwrap_or}
use Rattle.cia402_machine.specs.Statusword.{state_of_word}
use Rattle.plc_types.specs.declared.drive.DriveState.TheVariants.{NotReady}
use Rattle.job_ends.specs.Plans.{Plan}
use Rattle.job_ends.specs.declared.status.Status.{Status}
use Rattle.job_ends.specs.declared.status.Status.TheVariants as status
use Rattle.motion_history.specs.Entries.{Entry}
use Rattle.motion_history.specs.Setup.{Setup}
use Rattle.motion_history.specs.declared.refused.TraceVersion.{TraceVersion}
use Rattle.motion_plant.specs.declared.ending.RunEnding.{RunEnding}
use Rattle.motion_plant.specs.declared.ending.RunEnding.TheVariants as ending
use Rattle.setpoint_ring.specs.declared.logs.DriveLog.{DriveLog}
use Rattle.trace_text.specs.Trace.{trace_version, trace_text}
use Rattle.trace_text.specs.declared.command.Command.TheVariants.{Run}
use Rattle.trace_text.specs.declared.drive_end.DriveEndRow.{DriveEndRow}

-- a thread was refused
abbrev pub no_thread_plan : Plan
no_thread_plan = record { status = status.ThreadRefused; text = codes "thread refused\n" }

-- a history was made, and its trace is written, for a configuration of this version
abbrev pub run_plan : TraceVersion → Status → Setup → List Entry → List DriveEndRow → Plan
run_plan version s setup h drives =
    record { status = s; text = trace_text (trace_version version setup) Run setup h drives }

-- the status by how a plant's run has ended
abbrev pub status_of : RunEnding → Status
status_of ending.Ok = status.Ok
status_of ending.CyclesOver = status.CyclesOver
status_of ending.HistoryFull = status.HistoryFull

-- what a drive took and where it is, by its log
abbrev pub end_row : DriveLog → DriveEndRow
end_row g = record {
  taken = g.taken;
  state = unwrap_or (state_of_word g.last.statusword) NotReady;
  actual = g.last.actual;
}
