-- Trace segments begin as trace segments do, and traces don't. This project's profile.
use Rattle.std.specs.Prelude.{◌≡◌, ℕ, true, false, Ok, List}
use Rattle.segment_text.specs.declared.trace_segment.TraceSegment.{TraceSegment}
use Rattle.segment_text.specs.reading.Reading.{trace_segment_of}
use Rattle.trace_text.specs.TraceState.{TraceState}
use Rattle.trace_text.specs.reading.Reading.{trace_of}
use Rattle.segment_job.specs.Begins.{begins_as_trace_segment}

-- each text that is a trace segment begins as one
abbrev pub TraceSegmentsBeginSo : Type 0
TraceSegmentsBeginSo = (text : List ℕ) (p : TraceSegment) → trace_segment_of text ≡ Ok p → begins_as_trace_segment text ≡ true

-- and no text that is a trace does
abbrev pub TracesBeginOtherwise : Type 0
TracesBeginOtherwise = (text : List ℕ) (t : TraceState) → trace_of text ≡ Ok t →
    begins_as_trace_segment text ≡ false
