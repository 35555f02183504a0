-- The logs so far are those of their lines.
use Rattle.std.proofs.Common.{◌≡◌, ◌≤◌, ◌+◌, ℕ, length}
use Rattle.std.specs.Prelude.{vec_len, vec_capacity, slice_get}
use Rattle.motion_plant.specs.Jobs.{AreJoined}
use Rattle.motion_plant.specs.Lines.{IsLogAt}
use Rattle.motion_plant.specs.Places.{Each}
use Rattle.motion_plant.proofs.joins.finish_drives.Given as goal

abbrev pub invariant-loop-i : goal.invariant-loop-i
invariant-loop-i g l = record {
  left : (n : ℕ) → l.i ≤ n → slice_get l.lines.items n ≡ slice_get l.fn.lines.items n;
  width : length l.lines.items ≡ length l.fn.lines.items;
  logs : Each (IsLogAt l.fn.lines.items) l.logs.items;
  len : vec_len l.logs ≡ l.i;
  capacity : vec_capacity l.fn.logs ≤ vec_capacity l.logs;
  rest : (n : ℕ) → l.base + l.i ≤ n → slice_get l.spawner.jobs n ≡ slice_get l.fn.spawner.jobs n;
  faults : l.spawner.faults ≡ l.fn.spawner.faults;
  count : length l.spawner.jobs ≡ length l.fn.spawner.jobs;
  gone : AreJoined l.fn.spawner.jobs l.spawner.jobs l.base l.i;
}
