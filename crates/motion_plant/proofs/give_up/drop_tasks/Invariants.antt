-- What comes after the tasks that were joined so far is as it was.
use Rattle.std.proofs.Common.{◌≡◌, ◌≤◌, ◌+◌, ℕ}
use Rattle.std.specs.Prelude.{slice_get}
use Rattle.motion_plant.specs.Jobs.{AreJoined}
use Rattle.motion_plant.proofs.give_up.drop_tasks.Given as goal

abbrev pub invariant-loop-i : goal.invariant-loop-i
invariant-loop-i g l = record {
  rest : (n : ℕ) → l.base + l.i ≤ n → slice_get l.spawner.jobs n ≡ slice_get l.fn.spawner.jobs n;
  faults : l.spawner.faults ≡ l.fn.spawner.faults;
  joined : AreJoined l.fn.spawner.jobs l.spawner.jobs l.base l.i;
}
