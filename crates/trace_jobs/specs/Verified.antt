-- What a status says of a trace. This project's profile.
use Rattle.std.specs.Prelude.{◌≡◌, Bool, true, false, List}
use Rattle.job_ends.specs.declared.status.Status.{Status}
use Rattle.job_ends.specs.declared.status.Status.TheVariants as status
use Rattle.motion_history.specs.Entries.{Entry}
use Rattle.motion_kernel.specs.Histories.{IsLegal}
use Rattle.trace_check.specs.Laws.{IsMigrated}
use Rattle.trace_check.specs.Legal.{IsLegalTrace, IsTraceOf}
use Rattle.trace_text.specs.TraceState.{TraceState}

-- the statuses that say that a trace is legal, and that it isn't
abbrev pub tells_legal : Status → Bool
tells_legal status.Ok = true
tells_legal (status.Legal entries) = true
tells_legal _ = false

abbrev pub tells_illegal : Status → Bool
tells_illegal (status.Illegal place) = true
tells_illegal _ = false

-- the text of version 2 or 3 of a trace's legal history is read as a legal trace of the same
-- machine, history and drives
abbrev pub IsReadAgain : TraceState → Type 0
IsReadAgain t = (es : List Entry) → IsLegal t.config es → IsTraceOf t es → IsMigrated t es

-- a trace is legal where the status says so, and its history is read again; it isn't legal where
-- it says that
pub record IsVerified (s : Status) (t : TraceState) : Type 0 where
  pub legal : tells_legal s ≡ true → IsLegalTrace t
  pub again : tells_legal s ≡ true → IsReadAgain t
  pub illegal : tells_illegal s ≡ true → ¬ IsLegalTrace t

-- so it is with a trace that was read
abbrev pub JudgesBy : (TraceState → Type 0) → Status → Type 0
JudgesBy IsRead s = (t : TraceState) → IsRead t → IsVerified s t
