-- The passes of the tasks so far were joined.
use Rattle.std.proofs.Common.{◌≡◌, ◌≤◌, ◌<◌, ◌+◌, ℕ, length, Some}
use Rattle.std.specs.Prelude.{slice_get}
use Rattle.motion_plant.specs.Jobs.{AreJoined, job_lines}
use Rattle.motion_plant.specs.Joined.{HasMade, IsJoinedUpTo}
use Rattle.motion_plant.specs.Makers.{own_entries}
use Rattle.motion_plant.proofs.joins.finish_tasks.Given as goal

abbrev pub invariant-loop-i : goal.invariant-loop-i
invariant-loop-i g l = record {
  joined : IsJoinedUpTo (own_entries l.fn.permit.own l.fn.permit.seen) l.fn.permit l.i l.permit;
  tasks : (n : ℕ) (z : _) → n < l.i → slice_get l.seats.items n ≡ Some z →
      HasMade (job_lines z.value) l.fn.permit.config n l.permit;
  rest : (n : ℕ) → l.base + l.i ≤ n → slice_get l.spawner.jobs n ≡ slice_get l.fn.spawner.jobs n;
  faults : l.spawner.faults ≡ l.fn.spawner.faults;
  count : length l.spawner.jobs ≡ length l.fn.spawner.jobs;
  gone : AreJoined l.fn.spawner.jobs l.spawner.jobs l.base l.i;
}
