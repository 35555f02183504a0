-- The commands so far have their bits.
use Rattle.std.proofs.Common.{ℕ, ◌<◌}
use Rattle.std.specs.Prelude.{IfSome, slice_get}
use Rattle.command_pool.specs.Waiting.{queue_of}
use Rattle.segment_text.specs.Held.{IsWanted}
use Rattle.segment_text.proofs.bits.list_has_bits.Given as goal

abbrev pub invariant-loop-place : goal.invariant-loop-place
invariant-loop-place l = (n : ℕ) → n < l.place → IfSome (slice_get (queue_of l.start.queues l.list) n) (IsWanted)
