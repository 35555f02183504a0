-- The trace that was written is kept.
use Rattle.std.proofs.Common.{refl}
use Rattle.motion_c.proofs.tracing.make_trace.Goals as goal

pub returns-in-Some-clause-made : goal.returns-in-Some-clause-made
returns-in-Some-clause-made c = λ done. record { trace = c.in-Some.trace; held = refl; text = c.in-Some.ensures }
