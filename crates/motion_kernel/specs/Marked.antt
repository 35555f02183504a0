-- How a kernel keeps which tasks live, and which are quiet.
use Rattle.std.specs.Prelude.{◌≡◌, ℕ, ◌<◌, ◌≤◌, Bool, true, false, if◌then◌else◌, List, length, slice_index_or}
use Rattle.motion_history.specs.Entries.{Entry}
use Rattle.motion_history.specs.Setup.{Setup}
use Rattle.motion_kernel.specs.Tasks.{is_quiet, lives}
use Rattle.motion_kernel.specs.declared.tasks.TaskMark.{TaskMark}
use Rattle.motion_kernel.specs.declared.tasks.TaskMark.TheVariants.{Ended, Heard, Quiet}

-- the mark of a task: it has ended; or it lives and is quiet; or it was heard since the last cycle
abbrev pub mark_of : Setup → List Entry → ℕ → TaskMark
mark_of s es task = if lives es task then (if is_quiet s es task then Quiet else Heard) else Ended

-- a mark of which nothing is known
abbrev pub mark_at : List TaskMark → ℕ → TaskMark
mark_at marks task = slice_index_or marks task Quiet

-- the mark of a task that makes an entry
abbrev pub heard : TaskMark → TaskMark
heard Ended = Ended
heard Heard = Heard
heard Quiet = Heard

-- the mark of a task after a cycle
abbrev pub quieted : TaskMark → TaskMark
quieted Ended = Ended
quieted Heard = Quiet
quieted Quiet = Quiet

-- whether a task of this mark lives
abbrev pub is_live : TaskMark → Bool
is_live Ended = false
is_live m = true

-- whether it is quiet
abbrev pub is_still : TaskMark → Bool
is_still Quiet = true
is_still m = false

-- each task of a configuration, which has at most eight, has its mark
pub record AreMarked (s : Setup) (es : List Entry) (marks : List TaskMark) : Type 0 where
  pub long : length marks ≡ 8
  pub few : length s.tasks ≤ 8
  pub each : (task : ℕ) → task < length s.tasks → mark_at marks task ≡ mark_of s es task
