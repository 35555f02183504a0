-- What events make of a kernel, and which fit it. This project's profile.
use Rattle.std.specs.Prelude.{◌≡◌, ◌<◌, ◌+◌, List, [], ◌∷◌, ◌++◌, length, take, slice_get, IsSomeAnd, false}
use Rattle.plc_types.specs.declared.drive.DriveIn.{DriveIn}
use Rattle.motion_history.specs.Calls.{IsCall}
use Rattle.motion_history.specs.Entries.{Entry, call, cycle, end_of, cycles_of}
use Rattle.motion_history.specs.Setup.{Setup}
use Rattle.motion_history.specs.declared.config.BlockDef.{BlockDef}
use Rattle.motion_kernel.specs.calls.Calls.{reply_of}
use Rattle.motion_kernel.specs.KernelState.{KernelState, cycled_of, room_of, state_of}
use Rattle.hot_standby.specs.declared.event.FedEvent.{FedEvent}
use Rattle.hot_standby.specs.declared.event.FedEvent.TheVariants as fed

-- the machine's entry of an event
abbrev pub entry_of : KernelState → FedEvent → Entry
entry_of k (fed.Call task block i) = call block i (reply_of k.config (state_of k) block i)
entry_of k (fed.Cycle count ins) =
    cycle (cycles_of k.history + 1) (cycled_of k (take count ins)).axes
    (cycled_of k (take count ins)).groups
entry_of k (fed.End task) = end_of task

-- a kernel after an event: it has the machine's entry more
abbrev pub kernel_after : KernelState → FedEvent → KernelState
kernel_after k e = record k { history = k.history ++ entry_of k e ∷ [] }

-- a kernel after events, one after another
abbrev pub kernel_after_all : KernelState → List FedEvent → KernelState
kernel_after_all k [] = k
kernel_after_all k (e ∷ es) = kernel_after_all (kernel_after k e) es

-- a kernel at rest
abbrev pub opened : Setup → KernelState
opened s = record { config = s; history = []; stopped = false }

-- an event may be made: a call of a block of its task, with inputs of its kind; a cycle that is
-- left, with an answer for each axis; the end of a task that is there
abbrev pub MayBeMade : KernelState → FedEvent → Type 0
MayBeMade k (fed.Call task block i) =
    IsSomeAnd (slice_get k.config.blocks block) (λ (b : BlockDef). b.task ≡ task) ×
    IsCall k.config block i
MayBeMade k (fed.Cycle count ins) =
    (cycles_of k.history < k.config.cycles) × (count ≡ length k.config.axes)
MayBeMade k (fed.End task) = task < length k.config.tasks

-- an event fits a kernel: it keeps the conditions of the kernel's call, as there is room for it
pub record IsFit (k : KernelState) (e : FedEvent) : Type 0 where
  pub room : length k.history < room_of k
  pub may : MayBeMade k e

-- each of the events fits the kernel after those before it
abbrev pub AreFit : KernelState → List FedEvent → Type 0
AreFit k [] = Unit {0}
AreFit k (e ∷ es) = IsFit k e × AreFit (kernel_after k e) es
