-- What is left in the list is still to be reported.
use Rattle.std.proofs.Common.{◌≡◌, ◌<◌, ◌≤◌, ◌+◌, ◌++◌, [], length}
use Rattle.std.specs.Prelude.{slice_set}
use Rattle.command_pool.specs.Waiting.{queue_of, notes_of}
use Rattle.command_pool.specs.declared.ending.Finish.TheVariants as finish
use Rattle.command_pool.proofs.pool.CommandPool.clear.Given as goal

abbrev pub invariant-loop-taken : goal.invariant-loop-taken
invariant-loop-taken l = record {
  there : l.list < length l.self;
  left : length (queue_of l.self l.list) + l._taken ≡ l._taken-end;
  room : length l.notes + length (queue_of l.self l.list) ≤ 12;
  lists : slice_set l.self l.list [] ≡ slice_set l.fn.self l.list [];
  notes : l.notes ++ notes_of finish.Aborted (queue_of l.self l.list)
      ≡ l.fn.notes ++ notes_of finish.Aborted (queue_of l.fn.self l.list);
}
