-- The invariant of a program as far as it was read, for a machine.
use Rattle.std.specs.Prelude.{◌≡◌, ◌≤◌, false, Some, [], length}
use Rattle.std.specs.List.{AllByRecursion}
use Rattle.machine_words.specs.Units.{IsCycle}
use Rattle.motion_history.specs.Setup.{Setup}
use Rattle.plc_program.specs.Programs.{AddsTasks, AreBehindTheirCalls, AreTasksOf, IsCounted, IsTask, repeating_after}
use Rattle.plc_program.specs.SoFar.{SoFar, tasks_of}

-- the tasks before are whole; the one that is under way is, but for the repeat in which it may
-- stand; there is a list for each task, of lines of its own
pub record IsSoFar (first : Setup) (s : SoFar) : Type 0 where
  pub cycle : IsCycle s.cycle_us
  pub adds : AddsTasks first s.setup
  pub none : s.setup.tasks ≡ [] → (s.before ≡ []) × (s.lines ≡ [])
  pub each : length (tasks_of s) ≡ length s.setup.tasks
  pub before : AllByRecursion IsTask s.before
  pub few : length s.lines ≤ 10000
  pub counted : AllByRecursion IsCounted s.lines
  pub repeats : repeating_after false s.lines ≡ Some s.repeating
  pub waits : AreBehindTheirCalls [] s.lines
  pub tasks : 1 ≤ length s.setup.axes → AreTasksOf s.setup 0 (tasks_of s)
