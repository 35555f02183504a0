-- The groups so far have their bits.
use Rattle.std.proofs.Common.{ℕ, ◌<◌}
use Rattle.std.specs.Prelude.{IfSome, slice_get}
use Rattle.segment_text.specs.Held.{HasGroupBits}
use Rattle.segment_text.proofs.bits.groups_have_bits.Given as goal

abbrev pub invariant-loop-group : goal.invariant-loop-group
invariant-loop-group l = (n : ℕ) → n < l.group → IfSome (slice_get (l.start.groups) n) (HasGroupBits)
