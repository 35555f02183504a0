-- The faults so far.
use Rattle.std.proofs.Common.{◌≡◌, take}
use Rattle.machine_words.proofs.drive.faults_of.Given as goal

abbrev pub invariant-loop-step : goal.invariant-loop-step
invariant-loop-step l = l.faults ≡ take l.step-index l.steps
