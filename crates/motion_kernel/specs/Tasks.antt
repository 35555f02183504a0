-- Which tasks live, and which of them are quiet (this project's profile).
use Rattle.std.specs.Prelude.{ℕ, zero, suc, ◌+◌, Bool, true, false, not, ◌&&◌, if◌then◌else◌, nat_eq, Option, Some, None, List, length, reverse, slice_get}
use Rattle.std.specs.List.{list_any, take_while}
use Rattle.motion_history.specs.Entries.{Entry, call, cycle, end_of}
use Rattle.motion_history.specs.Setup.{Setup}
use Rattle.motion_history.specs.declared.config.BlockDef.{BlockDef}

-- whether a block is one of a task
abbrev pub is_block_of : ℕ → Option BlockDef → Bool
is_block_of task None = false
is_block_of task (Some b) = nat_eq b.task task

-- whether an entry is a task's: the call of one of its blocks, or its end
abbrev pub is_by : Setup → ℕ → Entry → Bool
is_by s task (call k i reply) = is_block_of task (slice_get s.blocks k)
is_by s task (cycle n rows grows) = false
is_by s task (end_of ended) = nat_eq ended task

-- whether an entry is the end of a task
abbrev pub ends : ℕ → Entry → Bool
ends task (end_of ended) = nat_eq ended task
ends task e = false

-- whether an entry is no cycle
abbrev pub is_no_cycle : Entry → Bool
is_no_cycle (cycle n rows grows) = false
is_no_cycle e = true

-- the entries since the last cycle, or since opening, the latest first
abbrev pub since_cycle : List Entry → List Entry
since_cycle es = take_while is_no_cycle (reverse es)

-- whether a task lives: it has not ended
abbrev pub lives : List Entry → ℕ → Bool
lives es task = not (list_any (ends task) es)

-- whether a task is quiet: it lives, and has made no entry since the last cycle
abbrev pub is_quiet : Setup → List Entry → ℕ → Bool
is_quiet s es task = lives es task && not (list_any (is_by s task) (since_cycle es))

-- how many of the numbers below this one are so
unfoldable pub count_below : (ℕ → Bool) → ℕ → ℕ
count_below is zero = 0
count_below is (suc n) = count_below is n + (if is n then 1 else 0)

-- how many tasks of a configuration live, and how many are quiet
abbrev pub live_tasks : Setup → List Entry → ℕ
live_tasks s es = count_below (lives es) (length s.tasks)

abbrev pub quiet_tasks : Setup → List Entry → ℕ
quiet_tasks s es = count_below (is_quiet s es) (length s.tasks)
