-- How the job ends. This project's profile.
use Rattle.std.specs.Prelude.{◌⊎◌, ℕ, List}
use Rattle.job_ends.specs.Causes.{EndsFor}
use Rattle.job_ends.specs.Ends.{EndsBy, EndsEarly}
use Rattle.job_ends.specs.Plans.{Plan}
use Rattle.job_ends.specs.declared.status.Status.{Status}
use Rattle.segment_check.specs.Verified.{IsVerified}
use Rattle.segment_check.specs.declared.verifying.Verdict.{Verdict}
use Rattle.segment_text.specs.declared.trace_segment.TraceSegment.{TraceSegment}
use Rattle.trace_text.specs.writing.Writes.{Output}
use Rattle.segment_job.specs.Causes.{TraceSegmentCause}
use Rattle.segment_job.specs.Plans.{IsPlanOf, plan_of_verdict}

-- a trace segment was verified, and it ended by the plan of the verdict
pub record EndsByVerdict (name : List ℕ) (p : TraceSegment) (old new : Output) (s : Status)
    : Type 0 where
  pub verdict : Verdict
  pub verified : IsVerified p verdict
  pub ends : EndsBy old new (plan_of_verdict name verdict) s

-- a text that begins as a trace segment was checked: it ended by a plan that the text leads to, or
-- memory ran out before anything was written; and each status has its cause
pub record EndsByTraceSegment (name text : List ℕ) (old new : Output) (s : Status) : Type 0 where
  pub plan : Plan
  pub is : IsPlanOf name text plan ⊎ EndsEarly old new s
  pub by : EndsFor old new plan (TraceSegmentCause text) s
