-- The drives so far.
use Rattle.std.proofs.Common.{◌≡◌, ◌≤◌, replicate}
use Rattle.motion_history.specs.Drives.{plain_drive}
use Rattle.load_job.proofs.generating.plain_drives.Given as goal

abbrev pub invariant-loop : goal.invariant-loop
invariant-loop l = record {
  drives : l.drives ≡ replicate l.counter plain_drive;
  within : l.counter ≤ 8;
}
