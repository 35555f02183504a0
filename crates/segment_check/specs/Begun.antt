-- Where a trace segment begins. This project's profile.
use Rattle.std.specs.Prelude.{◌≡◌, Result, Ok, Err, Some, []}
use Rattle.motion_kernel.specs.Segments.{SegmentedState}
use Rattle.motion_kernel.specs.kept.Machine.{IsMachineKept}
use Rattle.motion_kernel.specs.owners.Blocks.{OwnersHaveBlocks}
use Rattle.motion_laws.specs.Standing.{CanStand}
use Rattle.segment_check.specs.Flaws.{CountsFit, IsFirstOrLater, IsFlawOf}
use Rattle.segment_check.specs.declared.flaw.Flaw.{Flaw}
use Rattle.segment_text.specs.declared.trace_segment.TraceSegment.{TraceSegment}

-- the kernel that begins where a trace segment does
abbrev pub begun : TraceSegment → SegmentedState
begun p = record {
  config = p.trace.config;
  before = p.before;
  start = p.machine;
  history = [];
}

-- a machine may begin so: what was before fits, the machine satisfies the invariant of the trace
-- segment's configuration, whoever has a command in it, or holds stopping, is an instance whose
-- block acts there, it can stand so, and it is at opening where nothing was before
pub record MayBegin (p : TraceSegment) : Type 0 where
  pub counts : CountsFit p.trace.config p.before
  pub machine : IsMachineKept p.trace.config p.machine
  pub owners : OwnersHaveBlocks p.trace.config p.machine
  pub stands : CanStand p.trace.config p.machine
  pub first : IsFirstOrLater p.trace.config p.before p.machine

-- the kernel that begins there, exactly where a machine may begin so; else the first flaw of the
-- header
abbrev pub Begins : TraceSegment → Result SegmentedState Flaw → Type 0
Begins p (Ok k) = MayBegin p × (k ≡ begun p)
Begins p (Err f) = IsFlawOf p (Some f) × ¬ MayBegin p
