-- When a trace segment is legal, and what is said of it. This project's profile.
use Rattle.std.specs.Prelude.{◌≡◌, ℕ, Some, None, List, length}
use Rattle.segment_check.specs.Begun.{MayBegin}
use Rattle.segment_check.specs.Flaws.{IsFlawOf}
use Rattle.segment_check.specs.Next.{TellsNext}
use Rattle.segment_check.specs.declared.verifying.Verdict.{Verdict}
use Rattle.segment_check.specs.declared.verifying.Verdict.TheVariants as verdict
use Rattle.segment_text.specs.declared.trace_segment.TraceSegment.{TraceSegment}
use Rattle.trace_check.specs.Legal.{IsLegalTraceFrom}
use Rattle.trace_check.specs.Progress.{difference_from}
use Rattle.trace_text.specs.TraceState.{entries_of}

-- a trace segment is legal: a machine may begin so, and the trace is legal from there on
pub record IsLegalTraceSegment (p : TraceSegment) : Type 0 where
  pub begins : MayBegin p
  pub trace : IsLegalTraceFrom p.machine p.trace

-- a trace segment was found legal: no record differs, and the header of the next is reported
pub record IsFoundLegal (p : TraceSegment) (entries : ℕ) (header : List ℕ) : Type 0 where
  pub count : entries ≡ length (entries_of p.trace)
  pub trace_segment : IsLegalTraceSegment p
  pub same : difference_from p.machine p.trace ≡ None
  pub next : TellsNext p header

-- a trace segment was verified: no machine begins so, for the first flaw of its header; or it is
-- legal; or its trace isn't legal from there on, and its first record that differs is reported
abbrev pub IsVerified : TraceSegment → Verdict → Type 0
IsVerified p (verdict.NoBeginning f) = IsFlawOf p (Some f) × ¬ MayBegin p
IsVerified p (verdict.Legal entries next) = IsFoundLegal p entries next.items
IsVerified p (verdict.IllegalAt d) =
    MayBegin p × (difference_from p.machine p.trace ≡ Some d) × ¬ IsLegalTraceFrom p.machine p.trace
