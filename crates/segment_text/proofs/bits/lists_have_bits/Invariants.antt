-- The lists so far have their bits.
use Rattle.std.proofs.Common.{ℕ, ◌<◌}
use Rattle.command_pool.specs.Waiting.{queue_of}
use Rattle.segment_text.specs.Held.{AreWaiting}
use Rattle.segment_text.proofs.bits.lists_have_bits.Given as goal

abbrev pub invariant-loop-list : goal.invariant-loop-list
invariant-loop-list l = (n : ℕ) → n < l.list → AreWaiting (queue_of l.start.queues n)
