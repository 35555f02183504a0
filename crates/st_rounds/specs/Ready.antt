-- Trees whose calls a machine takes. This project's profile.
use Rattle.std.specs.Prelude.{◌≡◌, ◌≤◌, ℕ, ℤ, Some, List, length, slice_get}
use Rattle.plc_types.specs.declared.outputs.Outputs.{Outputs}
use Rattle.motion_history.specs.Setup.{Setup}
use Rattle.st_exec.specs.Laws.{AreCallsOf}
use Rattle.st_exec.specs.Scan.{scan_of}
use Rattle.st_tree.specs.declared.program.Task.{Task}

-- each call of a scan of the task of this number is one that the machine takes, of a block of the
-- task, whatever its variables and replies
abbrev pub MakesCalls : Setup → ℕ → ℕ → Task → Type 0
MakesCalls s us n t = (vars : List ℤ) (last replies : List Outputs) →
    AreCallsOf s n (scan_of us t.body.items vars last replies)

-- there is a tree for each task of the machine, at most 8, and their scans make such calls
pub record AreReady (s : Setup) (us : ℕ) (trees : List Task) : Type 0 where
  pub each : length trees ≡ length s.tasks
  pub few : length trees ≤ 8
  pub calls : (n : ℕ) (t : Task) → slice_get trees n ≡ Some t → MakesCalls s us n t
