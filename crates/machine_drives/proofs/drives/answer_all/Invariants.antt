use Rattle.std.proofs.Common.{◌≡◌, map, take}
use Rattle.drive_sim.specs.Steps.{answer_of}
use Rattle.machine_drives.proofs.drives.answer_all.Given as goal

abbrev pub invariant-loop-i : goal.invariant-loop-i
invariant-loop-i l = take l.i l.answers ≡ map answer_of (take l.i l.drives)
