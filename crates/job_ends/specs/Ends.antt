-- How a job of the program ends. This project's profile.
use Rattle.std.specs.Prelude.{◌≡◌, ℕ, Result, Ok, Err, List}
use Rattle.std.proofs.Common.{Vec, Global}
use Rattle.std.specs.declared.alloc.AllocError.{AllocError}
use Rattle.outside.specs.declared.files.FilesFault.{FilesFault}
use Rattle.outside.specs.declared.files.FilesFault.TheVariants as files
use Rattle.trace_text.specs.writing.Writes.{Output, Writes}
use Rattle.trace_text.specs.declared.writing.write.TraceFault.{TraceFault}
use Rattle.trace_text.specs.declared.writing.write.TraceFault.TheVariants as fault
use Rattle.job_ends.specs.Plans.{Plan, too_long_plan, unread_plan}
use Rattle.job_ends.specs.declared.status.Status.{Status}
use Rattle.job_ends.specs.declared.status.Status.TheVariants as status

-- the status by what became of the writing
abbrev pub status_by : Status → Result (Unit {0}) TraceFault → Status
status_by s (Ok u) = s
status_by s (Err fault.WriteFault) = status.WriteFault
status_by s (Err fault.OutOfMemory) = status.OutOfMemory

-- the text of the plan is written and its status answered; else what was written is a beginning of
-- it, and the status is WriteFault, only where the count of faults of the output rose, or
-- OutOfMemory
pub record EndsBy (old new : Output) (plan : Plan) (s : Status) : Type 0 where
  pub written : Result (Unit {0}) TraceFault
  pub writes : Writes old new plan.text written
  pub status : s ≡ status_by plan.status written

-- memory ran out before anything was to be written
pub record EndsEarly (old new : Output) (s : Status) : Type 0 where
  pub status : s ≡ status.OutOfMemory
  pub output : new ≡ old

-- a line that there may have been no memory for
abbrev pub SaysLine : Output → Output → Result (Vec ℕ Global) AllocError → Status → Status → Type 0
SaysLine old new (Ok line) s r = EndsBy old new (record { status = s; text = line.items }) r
SaysLine old new (Err e) s r = EndsEarly old new r

-- why the file of a word wasn't read
abbrev pub EndsUnread : ℕ → List ℕ → FilesFault → Output → Output → Status → Type 0
EndsUnread word name files.Failed old new s = EndsBy old new (unread_plan word name) s
EndsUnread word name files.TooLong old new s = EndsBy old new (too_long_plan word name) s
EndsUnread word name files.OutOfMemory old new s = EndsEarly old new s
