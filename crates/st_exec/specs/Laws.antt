-- Laws of scans: how those with more replies go on from those with fewer, and that their calls are
-- calls of the machine that their tree fits.
use Rattle.std.specs.Prelude.{◌≡◌, ℕ, ◌+◌, ℤ, Some, List, [], ◌++◌, length, slice_get}
use Rattle.std.specs.List.{AllByRecursion}
use Rattle.plc_types.specs.declared.outputs.Outputs.{Outputs}
use Rattle.motion_history.specs.Calls.{IsCall}
use Rattle.motion_history.specs.Setup.{Setup}
use Rattle.motion_history.specs.declared.config.BlockDef.{BlockDef}
use Rattle.st_tree.specs.declared.statement.Stmt.{Stmt}
use Rattle.st_exec.specs.Scan.{Asked, Course, Over, Waits, Missing, Stand, scan_of}

-- the calls of a course, the one that it waits for included
abbrev pub asks_of : Course → List Asked
asks_of (Over s) = s.calls
asks_of (Waits calls) = calls
asks_of Missing = []

-- calls are the first of all
pub record IsFirstOf (calls all : List Asked) : Type 0 where
  pub others : List Asked
  pub is : all ≡ calls ++ others

-- the scans of a body make their calls in order: those for some replies are the first of those for
-- more, a scan that waits has made one call more than it got replies, and one that is over has made
-- a call for each reply but those that are left
pub record AsksInOrder (us : ℕ) (body : List Stmt) : Type 0 where
  pub first : (vars : List ℤ) (last replies more : List Outputs) →
      IsFirstOf (asks_of (scan_of us body vars last replies))
      (asks_of (scan_of us body vars last (replies ++ more)))
  pub waits : (vars : List ℤ) (last replies : List Outputs) (calls : List Asked) →
      scan_of us body vars last replies ≡ Waits calls → length calls ≡ length replies + 1
  pub over : (vars : List ℤ) (last replies : List Outputs) (s : Stand) →
      scan_of us body vars last replies ≡ Over s → length s.calls + length s.left ≡ length replies

-- a call is one of a machine, of a block of the task
pub record IsCallOf (s : Setup) (task : ℕ) (call : Asked) : Type 0 where
  pub is : IsCall s call.instance call.inputs
  pub own : (b : BlockDef) → slice_get s.blocks call.instance ≡ Some b → b.task ≡ task

-- the calls of a course are calls of a machine, of blocks of the task
abbrev pub AreCallsOf : Setup → ℕ → Course → Type 0
AreCallsOf s task course = AllByRecursion (IsCallOf s task) (asks_of course)
