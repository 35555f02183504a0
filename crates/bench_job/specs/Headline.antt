-- What the trace of a bench stands for. This project's profile.
use Rattle.std.specs.Prelude.{◌≡◌, ℕ, true, Option, Ok, List, map}
use Rattle.std.specs.Io.KnownBytes.{Appends}
use Rattle.bench_run.specs.InStep.{TakesAnswers, drives_of}
use Rattle.bench_run.specs.Run.{run_of}
use Rattle.bench_text.specs.BenchState.{BenchState}
use Rattle.bench_text.specs.Reading.{bench_of}
use Rattle.job_ends.specs.Causes.{is_traced}
use Rattle.job_ends.specs.declared.status.Status.{Status}
use Rattle.machine_drives.specs.Drives.{drive_end}
use Rattle.motion_history.specs.Entries.{Entry, cycles_of}
use Rattle.motion_kernel.specs.Histories.{IsLegal}
use Rattle.motion_laws.specs.Headline.{KeepsHeadline}
use Rattle.outside.specs.Told.{FileMap, HasFile}
use Rattle.trace_text.specs.reading.Reading.{trace_of}
use Rattle.trace_text.specs.Trace.{trace_text}
use Rattle.trace_text.specs.Writable.{found_trace}
use Rattle.trace_text.specs.declared.command.Command.TheVariants.{Bench}
use Rattle.trace_text.specs.declared.drive_end.DriveEndRow.{DriveEndRow}
use Rattle.bench_job.specs.Again.{IsTracedRun, version_of}

-- where the status stands for a trace, the run of the bench that was read is legal, and its trace
-- is read again
abbrev pub RunsBy : (BenchState → Type 0) → Status → Type 0
RunsBy IsRead s = (b : BenchState) → IsRead b → is_traced s ≡ true → IsTracedRun b

-- the trace that was written is that of a bench: of the one history that the events of its file
-- make, one after another, up to the first for which there is no cycle or no room left
pub record Headline (files : Option FileMap) (name : List ℕ) (old new : Option (List ℕ))
    : Type 0 where
  -- the text of the file that was asked for is a bench
  pub text : List ℕ
  pub bench : BenchState
  pub file : HasFile files name text
  pub reading : bench_of text ≡ Ok bench
  -- the file's events make this history, in which the drives answer in step
  pub history : List Entry
  pub events : history ≡ (run_of bench).history
  pub answers : TakesAnswers bench history
  -- each of its replies and rows is the PLCopen machine's; its axes keep their limits, their moves
  -- arrive, and their drives are given their setpoints
  pub legal : IsLegal bench.config history
  pub motion : KeepsHeadline bench.config history
  -- each drive took an output in each cycle, and is where these lead it
  pub drives : List DriveEndRow
  pub taken : drives ≡ map (drive_end (cycles_of history)) (drives_of bench history)
  -- what was written is the text of all this, in its version
  pub written : Appends old new (trace_text (version_of bench) Bench bench.config history drives)
  -- and that text is read as the trace of all this
  pub again : trace_of (trace_text (version_of bench) Bench bench.config history drives) ≡
      Ok (found_trace (version_of bench) Bench bench.config history drives)
