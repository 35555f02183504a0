-- The blocks so far.
use Rattle.std.proofs.Common.{◌≡◌, ◌≤◌}
use Rattle.load_job.proofs.MachineLaws.{with_blocks}
use Rattle.load_job.proofs.machine.add_blocks.Given as goal

abbrev pub invariant-loop-number : goal.invariant-loop-number
invariant-loop-number l = record {
  machine : l.machine ≡ with_blocks l.number;
  within : l.number ≤ 32;
}
