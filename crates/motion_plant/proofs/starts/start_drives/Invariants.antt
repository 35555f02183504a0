-- The drives so far were started, each with a line that is new.
use Rattle.std.proofs.Common.{◌≡◌, ◌≤◌, ◌++◌, map}
use Rattle.std.specs.Prelude.{vec_len, vec_capacity}
use Rattle.motion_plant.specs.Jobs.{line_job}
use Rattle.motion_plant.specs.Lines.{IsNewLink}
use Rattle.motion_plant.specs.Places.{Each}
use Rattle.motion_plant.proofs.starts.start_drives.Given as goal

abbrev pub invariant-loop-i : goal.invariant-loop-i
invariant-loop-i g l = record {
  started : l.spawner.jobs ≡ l.fn.spawner.jobs ++ map line_job l.lines.items;
  fresh : Each (IsNewLink l.axes l.defs) l.lines.items;
  len : vec_len l.lines ≡ l.i;
  capacity : vec_capacity l.fn.lines ≤ vec_capacity l.lines;
  faults : l.spawner.faults ≡ l.fn.spawner.faults;
}
