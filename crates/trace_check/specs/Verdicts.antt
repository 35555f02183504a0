-- The verdict on a trace. This project's profile.
use Rattle.std.specs.Prelude.{◌≡◌, ◌↔◌, ℕ, Option, Some, None, length}
use Rattle.motion_kernel.specs.Machine.{Machine}
use Rattle.trace_text.specs.TraceState.{TraceState, entries_of}
use Rattle.trace_check.specs.Legal.{IsLegalTrace, IsLegalTraceFrom}
use Rattle.trace_check.specs.Progress.{difference_from, difference_in}
use Rattle.trace_check.specs.declared.difference.Difference.{Difference}
use Rattle.trace_check.specs.declared.verdict.Verdict.{Verdict}
use Rattle.trace_check.specs.declared.verdict.Verdict.TheVariants as verdict

-- the verdict: legal with this many entries where no record differs, else the first that does
abbrev pub verdict_by : ℕ → Option Difference → Verdict
verdict_by entries None = verdict.Legal entries
verdict_by entries (Some d) = verdict.IllegalAt d.place d.expected d.found

-- the verdict from a machine on
unfoldable pub verdict_from : Machine → TraceState → Verdict
verdict_from m t = verdict_by (length (entries_of t)) (difference_from m t)

-- the verdict from opening on
unfoldable pub verdict_of : TraceState → Verdict
verdict_of t = verdict_by (length (entries_of t)) (difference_in t)

-- a verdict verifies a trace from a machine on: it gives the first record that differs, and that
-- the trace is legal exactly where it is
pub record IsVerdictFrom (m : Machine) (t : TraceState) (v : Verdict) : Type 0 where
  pub is : v ≡ verdict_from m t
  pub legal : (v ≡ verdict.Legal (length (entries_of t))) ↔ IsLegalTraceFrom m t

-- it verifies a trace from opening on
pub record IsVerdictOn (t : TraceState) (v : Verdict) : Type 0 where
  pub is : v ≡ verdict_of t
  pub legal : (v ≡ verdict.Legal (length (entries_of t))) ↔ IsLegalTrace t
