-- What a bench leads to. This project's profile.
use Rattle.std.specs.Prelude.{ℕ, Result, Ok, Err, List}
use Rattle.bench_run.specs.Run.{drive_ends, run_of}
use Rattle.bench_run.specs.declared.bench.RunFault.{RunFault}
use Rattle.bench_run.specs.declared.bench.RunFault.TheVariants.{CyclesOver, HistoryFull}
use Rattle.bench_text.specs.BenchState.{BenchState}
use Rattle.bench_text.specs.Reading.{bench_of}
use Rattle.job_ends.specs.Plans.{Plan, plan_of_reading}
use Rattle.job_ends.specs.declared.status.Status.{Status}
use Rattle.job_ends.specs.declared.status.Status.TheVariants as status
use Rattle.trace_text.specs.Trace.{trace_text}
use Rattle.trace_text.specs.declared.command.Command.TheVariants as command
use Rattle.bench_job.specs.Again.{version_of}

-- the status that a run ends with
abbrev pub status_of : Result (Unit {0}) RunFault → Status
status_of (Ok u) = status.Ok
status_of (Err CyclesOver) = status.CyclesOver
status_of (Err HistoryFull) = status.HistoryFull

-- the trace of a bench: that of its run, in its version
abbrev pub bench_trace : BenchState → List ℕ
bench_trace b =
    trace_text (version_of b) command.Bench b.config (run_of b).history (drive_ends (run_of b))

-- what a bench leads to: the trace of its run, as far as it went
abbrev pub plan_of_bench : BenchState → Plan
plan_of_bench b = record { status = status_of (run_of b).ending; text = bench_trace b }

-- what the text of a file leads to
abbrev pub bench_plan : List ℕ → List ℕ → Plan
bench_plan name text = plan_of_reading plan_of_bench 1 name (bench_of text)
