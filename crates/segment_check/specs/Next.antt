-- The header after a segment, with which the next trace segment must begin. This project's profile.
use Rattle.std.specs.Prelude.{◌≡◌, ℕ, List, []}
use Rattle.motion_history.specs.Entries.{Entry}
use Rattle.motion_kernel.specs.Segments.{SegmentedState, IsEarly, after_segment, machine_now}
use Rattle.motion_kernel.specs.Histories.{IsLegalFrom}
use Rattle.motion_kernel.specs.kept.Machine.{AreWhole}
use Rattle.segment_check.specs.Begun.{begun}
use Rattle.segment_text.specs.Held.{HasMachineBits}
use Rattle.segment_text.specs.TraceSegment.{header_text}
use Rattle.segment_text.specs.declared.trace_segment.TraceSegment.{TraceSegment}
use Rattle.trace_check.specs.Legal.{IsTraceOf}

-- the header after a segment of a configuration whose groups are whole: what is before the next
-- one, and the machine to which the segment leads, whose numbers have the bits of their types;
-- nothing where the counts have no place in a header
pub record IsHeaderBehind (k : SegmentedState) (header : List ℕ) : Type 0 where
  pub whole : AreWhole k.config
  pub bits : HasMachineBits (machine_now k)
  pub told : IsEarly (after_segment k) → header ≡ header_text (after_segment k) (machine_now k)
  pub none : ¬ IsEarly (after_segment k) → header ≡ []

-- the kernel that began where a trace segment does, with this history
abbrev pub ended : TraceSegment → List Entry → SegmentedState
ended p es = record (begun p) { history = es }

-- the header with which the trace segment after a legal one must begin
pub record TellsNext (p : TraceSegment) (header : List ℕ) : Type 0 where
  -- the trace segment's trace is that of this history, which is legal from the trace segment's
  -- machine on
  pub history : List Entry
  pub legal : IsLegalFrom p.trace.config p.machine history
  pub is : IsTraceOf p.trace history
  -- and this is the header after it
  pub header_is : IsHeaderBehind (ended p history) header
