-- A machine with tasks in Structured Text, and what its tasks know between two scans. This
-- project's profile.
use Rattle.std.specs.Prelude.{ℕ, ℤ, Bool, true, List, map, replicate}
use Rattle.plc_types.specs.declared.outputs.Outputs.{Outputs}
use Rattle.motion_history.specs.Setup.{Setup}
use Rattle.motion_history.specs.declared.drives.DriveDef.{DriveDef}
use Rattle.st_exec.specs.Compiled.{start_of}
use Rattle.st_exec.specs.Values.{silent}
use Rattle.st_tree.specs.declared.program.Task.{Task}

-- a machine with the trees of its tasks and the drives of its axes, whose cycle has this many
-- microseconds
pub record Cell : Type 0 where
  pub setup : Setup
  pub cycle_us : ℕ
  pub trees : List Task
  pub drives : List DriveDef

-- a task between two scans: its variables, the last reply of each block, and whether it lives
pub record TaskStand : Type 0 where
  pub vars : List ℤ
  pub last : List Outputs
  pub lives : Bool

-- a task before its first scan: the variables are as declared, and no block has replied
abbrev pub task_at_opening : Task → TaskStand
task_at_opening t = record {
  vars = map start_of t.variables.items;
  last = replicate 256 silent;
  lives = true;
}
