-- The commands so far are put.
use Rattle.std.proofs.Common.{◌≡◌, take}
use Rattle.std.specs.Prelude.{slice_set}
use Rattle.command_pool.specs.Waiting.{queue_of}
use Rattle.segment_check.proofs.filling.set_list.Given as goal

abbrev pub invariant-loop-place : goal.invariant-loop-place
invariant-loop-place l = l.start ≡ record l.fn.start {
  queues = slice_set l.fn.start.queues l.list (take l.place (queue_of l.waiting l.list));
}
