-- Those so far are counted.
use Rattle.std.proofs.Common.{◌≡◌, ◌≤◌, take}
use Rattle.buffer_modes.specs.Owners.{waits_of}
use Rattle.command_pool.specs.Waiting.{queue_of}
use Rattle.kernel_invariants.proofs.owners.showing.waits_in.Given as goal

abbrev pub invariant-loop-place : goal.invariant-loop-place
invariant-loop-place l = record {
  count : l.count ≡ waits_of l.instance (take l.place (queue_of l.start.queues l.list));
  few : l.count ≤ l.place;
}
