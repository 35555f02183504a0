-- Why a job ends with its status. This project's profile.
use Rattle.std.specs.Prelude.{◌≡◌, ◌⊎◌, ℕ, Bool, true, false, Option, Some, None, Result, Ok, Err}
use Rattle.motion_history.specs.declared.refused.Rule.{Rule}
use Rattle.motion_history.specs.declared.refused.TextRefused.{TextRefused}
use Rattle.trace_text.specs.writing.Writes.{Output}
use Rattle.job_ends.specs.Ends.{EndsBy}
use Rattle.job_ends.specs.Plans.{Plan}
use Rattle.job_ends.specs.declared.status.Status.{Status}
use Rattle.job_ends.specs.declared.status.Status.TheVariants as status

-- a fault of reading or writing, or out of memory, may come in place of every other status
abbrev pub is_fault : Status → Bool
is_fault (status.ReadFault word) = true
is_fault status.WriteFault = true
is_fault status.OutOfMemory = true
is_fault _ = false

-- whether a job may end so by what it was given: not by its words, its files, a thread or a fault
abbrev pub is_told : Status → Bool
is_told status.Usage = false
is_told (status.ReadFault word) = false
is_told (status.TooLong word) = false
is_told status.WriteFault = false
is_told status.ThreadRefused = false
is_told status.OutOfMemory = false
is_told _ = true

-- the statuses that stand for the trace of a run
abbrev pub is_traced : Status → Bool
is_traced status.Ok = true
is_traced status.CyclesOver = true
is_traced status.HistoryFull = true
is_traced _ = false

-- a status comes only where its cause is, and there always, but where a fault comes in its place
pub record ComesExactly (s wanted : Status) (Cause : Type 0) : Type 0 where
  pub only : s ≡ wanted → Cause
  pub always : Cause → (s ≡ wanted) ⊎ (is_fault s ≡ true)

-- a reading's refusal, if it is refused
abbrev pub refusal_by : {A : Type 0} → Result A TextRefused → Option TextRefused
refusal_by (Ok x) = None
refusal_by (Err r) = Some r

-- the text of the file of word 1 has no reading: its first place that breaks a rule, and the rule
pub record IsRefusedAt {A : Type 0} (reading : Result A TextRefused) (word place : ℕ) (rule : Rule)
    : Type 0 where
  pub first : word ≡ 1
  pub refusal : refusal_by reading ≡ Some (record { place = place; rule = rule })

-- a job ended by its plan; and where no fault came, the status of the plan has its cause, and no
-- other status has one
pub record EndsFor (old new : Output) (plan : Plan) (Cause : Status → Type 0) (s : Status)
    : Type 0 where
  pub ends : EndsBy old new plan s
  pub told : is_told plan.status ≡ true
  pub caused : is_fault s ≡ false → Cause plan.status
  pub alone : is_fault s ≡ false → (other : Status) → Cause other → plan.status ≡ other
