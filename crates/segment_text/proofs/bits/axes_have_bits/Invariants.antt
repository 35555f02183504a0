-- The axes so far have their bits.
use Rattle.std.proofs.Common.{ℕ, ◌<◌}
use Rattle.std.specs.Prelude.{IfSome, slice_get}
use Rattle.segment_text.specs.Held.{HasAxisBits}
use Rattle.segment_text.proofs.bits.axes_have_bits.Given as goal

abbrev pub invariant-loop-axis : goal.invariant-loop-axis
invariant-loop-axis l = (n : ℕ) → n < l.axis → IfSome (slice_get (l.start.axes) n) (HasAxisBits)
