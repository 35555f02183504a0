-- The lists so far are set, and no command waits in the others.
use Rattle.std.proofs.Common.{◌≡◌, ◌≤◌, ℕ, [], length, take}
use Rattle.command_pool.specs.Waiting.{queue_of}
use Rattle.segment_check.proofs.filling.set_waiting.Given as goal

abbrev pub invariant-loop-list : goal.invariant-loop-list
invariant-loop-list l = record {
  rest : l.start ≡ record l.fn.start { queues = l.start.queues };
  set : take l.list l.start.queues ≡ take l.list l.waiting;
  long : length l.start.queues ≡ length l.fn.start.queues;
  empty : (n : ℕ) → l.list ≤ n → queue_of l.start.queues n ≡ [];
}
