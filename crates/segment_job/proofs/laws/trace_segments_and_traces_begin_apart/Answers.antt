-- By the first fields of both.
use Rattle.segment_job.proofs.TraceSegmentBegins.{trace_segments-begin}
use Rattle.segment_job.proofs.TraceBegins.{traces-begin}
use Rattle.segment_job.proofs.laws.trace_segments_and_traces_begin_apart.Goals as goal

pub returns : goal.returns
returns c = record { trace_segments = trace_segments-begin; traces = traces-begin }
