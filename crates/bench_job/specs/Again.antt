-- What is read of the trace of a bench. This project's profile.
use Rattle.std.specs.Prelude.{◌≡◌, Ok, List}
use Rattle.bench_run.specs.LegalRun.{IsLegalRun}
use Rattle.bench_run.specs.Run.{drive_ends, run_of}
use Rattle.bench_text.specs.BenchState.{BenchState}
use Rattle.motion_history.specs.Entries.{Entry}
use Rattle.motion_history.specs.declared.refused.TraceVersion.{TraceVersion}
use Rattle.trace_text.specs.reading.Reading.{trace_of}
use Rattle.trace_text.specs.Trace.{trace_text, trace_version}
use Rattle.trace_text.specs.Writable.{found_trace}
use Rattle.trace_text.specs.declared.command.Command.TheVariants.{Bench}
use Rattle.trace_text.specs.declared.drive_end.DriveEndRow.{DriveEndRow}

-- the version of a bench's trace: that of the bench, or version 3 where its machine has a kind of
-- block that only version 3 has
abbrev pub version_of : BenchState → TraceVersion
version_of b = trace_version b.version b.config

-- the trace of a bench with this history and these drives is read as that of its machine, the
-- history and the drives
abbrev pub ReadsAgain : BenchState → List Entry → List DriveEndRow → Type 0
ReadsAgain b es ds = trace_of (trace_text (version_of b) Bench b.config es ds) ≡
    Ok (found_trace (version_of b) Bench b.config es ds)

-- the run of a bench is legal, and its trace is read again
pub record IsTracedRun (b : BenchState) : Type 0 where
  pub legal : IsLegalRun b
  pub again : ReadsAgain b (run_of b).history (drive_ends (run_of b))
