-- Why the job ends with each status. This project's profile.
use Rattle.std.specs.Prelude.{◌≡◌, Ok, List, ℕ}
use Rattle.bench_run.specs.Enough.{HasRoom}
use Rattle.bench_run.specs.Run.{run_of}
use Rattle.bench_text.specs.BenchState.{BenchState}
use Rattle.bench_text.specs.Reading.{bench_of}
use Rattle.job_ends.specs.Courses.{CauseBy}
use Rattle.job_ends.specs.Readings.{reading_in}
use Rattle.job_ends.specs.declared.status.Status.{Status}
use Rattle.bench_job.specs.Plans.{status_of}

-- the cause of a status by a bench: its run ends with it
abbrev pub RunCause : BenchState → Status → Type 0
RunCause b wanted = status_of (run_of b).ending ≡ wanted

-- the cause of each status by the text of word 1: how it is refused, or how the run of its bench
-- ends
abbrev pub BenchCause : List ℕ → Status → Type 0
BenchCause text wanted = CauseBy (reading_in 1 (bench_of text)) RunCause wanted

-- a text is a bench for whose events there are room and cycles enough
pub record HasRoomFor (text : List ℕ) : Type 0 where
  pub bench : BenchState
  pub reading : bench_of text ≡ Ok bench
  pub enough : HasRoom bench
