-- Trace segments of a row, one after another.
-- for: texts_by_headers_tell_pasts, rows_of_trace_segments_tell_pasts
use Rattle.std.specs.Prelude.{List, [], ◌∷◌, ◌++◌}
use Rattle.std.proofs.Common.{subst}
use Rattle.motion_history.specs.Entries.{Entry, cycles_of}
use Rattle.motion_history.specs.Setup.{Setup}
use Rattle.motion_kernel.specs.Segments.{counted_on}
use Rattle.motion_kernel.specs.Histories.{IsLegalFrom, IsPast, machine_from}
use Rattle.motion_kernel.specs.Machine.{Machine, machine_at_opening}
use Rattle.segment_check.specs.Rows.{TellTogether}
use Rattle.segment_text.specs.declared.trace_segment.TraceSegment.{TraceSegment}

-- a past and a segment after it are a past
abbrev pub SegmentsGoOn : Type 0
SegmentsGoOn = (s : Setup) (past segment : List Entry) → IsPast s past →
    IsLegalFrom s (machine_from s (machine_at_opening s) past) segment →
    IsPast s (past ++ counted_on (cycles_of past) segment)

pub row_is_past : SegmentsGoOn → (s : Setup) (past : List Entry) (ps : List TraceSegment) (whole : List Entry) → IsPast s past → TellTogether s past ps whole →
    IsPast s whole
row_is_past law s past [] whole is e = subst (IsPast s) e is
row_is_past law s past (p ∷ ps) whole is t =
    let goes = t.1 in
    let legal = subst (λ (m : Machine). IsLegalFrom s m t.0) goes.machine goes.legal in
    row_is_past law s (past ++ counted_on (cycles_of past) t.0) ps whole (law s past t.0 is legal) t.2
