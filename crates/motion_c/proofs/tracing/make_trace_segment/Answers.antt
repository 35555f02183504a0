-- The trace segment that was written is kept.
use Rattle.std.proofs.Common.{refl, subst}
use Rattle.motion_c.specs.Traces.{IsTraceSegmentOf}
use Rattle.outside.specs.MemorySink.{bytes_of}
use Rattle.motion_c.proofs.tracing.make_trace_segment.Goals as goal

pub returns-in-Some-clause-made : goal.returns-in-Some-clause-made
returns-in-Some-clause-made c = λ done. record {
  trace = c.in-Some.trace_segment;
  held = refl;
  text = subst (λ k. IsTraceSegmentOf k c.args.answers.now (bytes_of c.in-Some.trace_segment)) c.segment-2.ensures
      c.in-Some.ensures;
}
