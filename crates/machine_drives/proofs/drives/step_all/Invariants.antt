use Rattle.std.proofs.Common.{◌≡◌, ◌++◌, drop, take}
use Rattle.machine_drives.specs.Drives as spec
use Rattle.machine_drives.proofs.drives.step_all.Given as goal

abbrev pub invariant-loop-i : goal.invariant-loop-i
invariant-loop-i l =
    l.drives ≡ spec.drives_stepped 0 (take l.i l.fn.drives) l.outs ++ drop l.i l.fn.drives
