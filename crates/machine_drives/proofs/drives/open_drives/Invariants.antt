use Rattle.std.proofs.Common.{◌≡◌, length, take}
use Rattle.machine_drives.specs.Drives as spec
use Rattle.machine_drives.proofs.drives.open_drives.Given as goal

abbrev pub invariant-loop-i : goal.invariant-loop-i
invariant-loop-i l = record {
  opened : l.drives.items ≡ spec.drives_at_opening (take l.i l.axes) (take l.i l.defs);
  count : length l.drives.items ≡ l.i;
}
