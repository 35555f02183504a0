-- What contracts see of a kernel.
use Rattle.std.specs.Prelude.{ℕ, ◌<◌, Bool, if◌then◌else◌, List, [], ◌∷◌, ◌++◌, length}
use Rattle.plc_types.specs.declared.drive.DriveIn.{DriveIn}
use Rattle.motion_history.specs.Entries.{Entry}
use Rattle.motion_history.specs.Setup.{Setup}
use Rattle.motion_kernel.specs.cycles.Cycles.{Cycled, cycled}
use Rattle.motion_kernel.specs.Histories.{machine_after}
use Rattle.motion_kernel.specs.Machine.{Machine}

-- a kernel: its configuration, its history, and whether it was stopped. This project's profile
pub record KernelState : Type 0 where
  pub config : Setup
  pub history : List Entry
  pub stopped : Bool

-- the room of its history: a stopped one has the entries made
abbrev pub room_of : KernelState → ℕ
room_of k = if k.stopped then length k.history else k.config.entries

-- the machine that the kernel is: the replay of its history. This project's profile
abbrev pub state_of : KernelState → Machine
state_of k = machine_after k.config k.history

-- a kernel has room for an entry
abbrev pub HasRoom : KernelState → Type 0
HasRoom k = length k.history < room_of k

-- a kernel with one entry more
abbrev pub with_entry : KernelState → Entry → KernelState
with_entry k e = record k { history = k.history ++ e ∷ [] }

-- what a cycle of the machine makes with these answers
abbrev pub cycled_of : KernelState → List DriveIn → Cycled
cycled_of k ins = cycled k.config (state_of k) ins
