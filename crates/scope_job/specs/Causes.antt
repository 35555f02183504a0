-- The job over its file, and why it ends with each status. This project's profile.
use Rattle.std.specs.Prelude.{◌≡◌, List, ℕ}
use Rattle.job_ends.specs.Courses.{Job, file_job}
use Rattle.job_ends.specs.declared.status.Status.TheVariants as status
use Rattle.trace_text.specs.reading.Reading.{trace_of}
use Rattle.scope_job.specs.Plans.{most_bytes}

-- the file is read as a trace, and every trace leads to Ok
abbrev pub scope_job : List ℕ → Job
scope_job name = file_job name most_bytes trace_of (λ t s. s ≡ status.Ok) (λ s. s ≡ status.Ok)
