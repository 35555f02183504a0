-- A kernel's own segments may begin. This project's profile.
use Rattle.std.specs.Prelude.{◌≡◌, List}
use Rattle.motion_history.specs.Entries.{Entry}
use Rattle.motion_history.specs.Setup.{IsSetup}
use Rattle.motion_kernel.specs.Histories.{IsLegalFrom}
use Rattle.motion_kernel.specs.Machine.{machine_at_opening}
use Rattle.motion_kernel.specs.Segments.{IsEarly, after_segment, machine_now, nothing_before}
use Rattle.motion_kernel.specs.kept.Machine.{AreWhole}
use Rattle.segment_check.specs.Begun.{MayBegin}
use Rattle.segment_check.specs.Next.{ended}
use Rattle.segment_text.specs.declared.trace_segment.TraceSegment.{TraceSegment}

-- a trace segment begins where a legal history from another one leads: it is of its configuration,
-- and begins with the counts and the machine after it
pub record IsNext (p q : TraceSegment) (history : List Entry) : Type 0 where
  pub config : q.trace.config ≡ p.trace.config
  pub legal : IsLegalFrom p.trace.config p.machine history
  pub early : IsEarly (after_segment (ended p history))
  pub before : q.before ≡ after_segment (ended p history)
  pub machine : q.machine ≡ machine_now (ended p history)

-- a trace segment that begins at opening may begin so
abbrev pub FirstMayBegin : Type 0
FirstMayBegin = (p : TraceSegment) → IsSetup p.trace.config → AreWhole p.trace.config →
    p.before ≡ nothing_before → p.machine ≡ machine_at_opening p.trace.config → MayBegin p

-- and where a trace segment may begin, one that begins where a legal history from there leads may
abbrev pub NextMayBegin : Type 0
NextMayBegin = (p q : TraceSegment) (history : List Entry) → AreWhole p.trace.config →
    MayBegin p → IsNext p q history → MayBegin q
