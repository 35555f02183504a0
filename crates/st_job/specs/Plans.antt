-- What a machine with its tasks leads to. This project's profile.
use Rattle.std.specs.Prelude.{Result, Ok, Err}
use Rattle.bench_run.specs.Run.{drive_ends}
use Rattle.bench_run.specs.declared.bench.RunFault.{RunFault}
use Rattle.bench_run.specs.declared.bench.RunFault.TheVariants.{CyclesOver, HistoryFull}
use Rattle.job_ends.specs.Plans.{Plan}
use Rattle.job_ends.specs.declared.status.Status.{Status}
use Rattle.job_ends.specs.declared.status.Status.TheVariants as status
use Rattle.trace_text.specs.Trace.{run_version, trace_text}
use Rattle.trace_text.specs.declared.command.Command.TheVariants as command
use Rattle.st_rounds.specs.Cell.{Cell}
use Rattle.st_rounds.specs.Rounds.{run_of}

-- the status that a run ends with
abbrev pub status_of : Result (Unit {0}) RunFault → Status
status_of (Ok u) = status.Ok
status_of (Err CyclesOver) = status.CyclesOver
status_of (Err HistoryFull) = status.HistoryFull

-- the trace of its run, in its version and with the command `run`, as far as it went
abbrev pub plan_of : Cell → Plan
plan_of c = record {
  status = status_of (run_of c).ending;
  text = trace_text (run_version c.setup) command.Run c.setup (run_of c).history
      (drive_ends (run_of c));
}
