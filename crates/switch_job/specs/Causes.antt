-- The job over its two files, and why it ends with each status. This project's profile.
use Rattle.std.specs.Prelude.{◌≡◌, ℕ, Bool, true, false, List}
use Rattle.job_ends.specs.Courses.{Job, both_job}
use Rattle.job_ends.specs.declared.status.Status.{Status}
use Rattle.job_ends.specs.declared.status.Status.TheVariants as status
use Rattle.switch_text.specs.Reading.{switches_of}
use Rattle.trace_jobs.specs.Causes.{LegalCause}
use Rattle.trace_text.specs.reading.Reading.{trace_of}
use Rattle.trace_text.specs.TraceState.{TraceState}
use Rattle.switch_job.specs.Given.{most_of_switches, most_of_trace}

-- the statuses that are about a trace and its switches
abbrev pub is_of_both : Status → Bool
is_of_both status.Ok = true
is_of_both (status.Illegal place) = true
is_of_both _ = false

-- the first file is read as a trace, and the second as switches on its axes; the trace decides
abbrev pub switch_job : List ℕ → List ℕ → Job
switch_job trace file = both_job trace most_of_trace trace_of file most_of_switches
    (λ (t : TraceState). switches_of t.config) (λ given. LegalCause given.0) true
    (λ s. is_of_both s ≡ true)
