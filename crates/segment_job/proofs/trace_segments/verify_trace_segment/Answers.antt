-- A trace segment was verified, or there was no memory for it.
use Rattle.std.proofs.Common.{inl, inr, refl}
use Rattle.segment_job.proofs.trace_segments.verify_trace_segment.Goals as goal

pub returns-in-Ok : goal.returns-in-Ok
returns-in-Ok g c = inl (record {
  verdict = c.in-Ok.verdict;
  verified = c.in-Ok.ensures;
  ends = c.say_verdict.ensures;
})

pub returns-in-Err : goal.returns-in-Err
returns-in-Err g c = inr (record { status = refl; output = refl })
