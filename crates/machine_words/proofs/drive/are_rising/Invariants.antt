-- The steps that are left rise where all do.
use Rattle.std.proofs.Common.{◌≡◌, drop}
use Rattle.motion_history.specs.Drives.{rise_above}
use Rattle.machine_words.proofs.drive.are_rising.Given as goal

abbrev pub invariant-loop-step : goal.invariant-loop-step
invariant-loop-step l = rise_above l.before (drop l.step-index l.steps) ≡ rise_above 0 l.steps
