-- Why the job ends with each status. This project's profile.
use Rattle.std.specs.Prelude.{◌≡◌, ◌⊎◌, ℕ, Some, Ok, List, length}
use Rattle.job_ends.specs.Causes.{IsRefusedAt}
use Rattle.job_ends.specs.declared.status.Status.{Status}
use Rattle.job_ends.specs.declared.status.Status.TheVariants as status
use Rattle.motion_history.specs.declared.refused.Rule.{Rule}
use Rattle.segment_check.specs.Begun.{MayBegin}
use Rattle.segment_check.specs.Flaws.{IsFlawOf}
use Rattle.segment_check.specs.Verified.{IsLegalTraceSegment}
use Rattle.segment_check.specs.declared.flaw.Flaw.{Flaw}
use Rattle.segment_text.specs.declared.trace_segment.TraceSegment.{TraceSegment}
use Rattle.segment_text.specs.reading.Reading.{trace_segment_of}
use Rattle.trace_check.specs.Progress.{difference_from}
use Rattle.trace_check.specs.declared.difference.Difference.{Difference}
use Rattle.trace_text.specs.TraceState.{entries_of}
use Rattle.segment_job.specs.Plans.{beginning_place, beginning_rule}

-- a text is a legal trace segment with this many entries
pub record HasEntries (entries : ℕ) (text : List ℕ) : Type 0 where
  pub trace_segment : TraceSegment
  pub reading : trace_segment_of text ≡ Ok trace_segment
  pub legal : IsLegalTraceSegment trace_segment
  pub count : length (entries_of trace_segment.trace) ≡ entries

-- a text is a trace segment as whose header says a machine may begin, and whose trace is not legal
-- from there on: this is the number of its first record that is not the machine's
pub record DiffersAt (place : ℕ) (text : List ℕ) : Type 0 where
  pub trace_segment : TraceSegment
  pub reading : trace_segment_of text ≡ Ok trace_segment
  pub begins : MayBegin trace_segment
  pub difference : Difference
  pub first : difference_from trace_segment.machine trace_segment.trace ≡ Some difference
  pub place_is : difference.place ≡ place

-- a text is a trace segment, and no machine of its configuration may begin as its header says: the
-- first flaw of that is reported of the text of word 1, where it is, by its rule
pub record HasNoBeginning (word place : ℕ) (rule : Rule) (text : List ℕ) : Type 0 where
  pub trace_segment : TraceSegment
  pub reading : trace_segment_of text ≡ Ok trace_segment
  pub flaw : Flaw
  pub found : IsFlawOf trace_segment (Some flaw)
  pub none : ¬ MayBegin trace_segment
  pub first : word ≡ 1
  pub place_is : place ≡ beginning_place flaw
  pub rule_is : rule ≡ beginning_rule flaw

-- the cause of each status where a text that begins as a trace segment is checked
abbrev pub TraceSegmentCause : List ℕ → Status → Type 0
TraceSegmentCause text (status.Legal entries) = HasEntries entries text
TraceSegmentCause text (status.Illegal place) = DiffersAt place text
TraceSegmentCause text (status.TextRefused word place rule) =
    IsRefusedAt (trace_segment_of text) word place rule ⊎ HasNoBeginning word place rule text
TraceSegmentCause text _ = ⊥
