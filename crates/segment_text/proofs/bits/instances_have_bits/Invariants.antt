-- The instances so far have their bits.
use Rattle.std.proofs.Common.{ℕ, ◌<◌}
use Rattle.std.specs.Prelude.{IfSome, slice_get}
use Rattle.fb_outputs.specs.InstanceState.{InstanceState}
use Rattle.segment_text.specs.Held.{IsProgress}
use Rattle.segment_text.proofs.bits.instances_have_bits.Given as goal

abbrev pub invariant-loop-block : goal.invariant-loop-block
invariant-loop-block l = (n : ℕ) → n < l.block → IfSome (slice_get (l.start.instances) n) (λ (i : InstanceState). IsProgress i.progress)
