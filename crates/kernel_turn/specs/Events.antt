-- What a turn makes of the kernel that it found: one entry, or none. This project's profile.
use Rattle.std.specs.Prelude.{◌≡◌, ℕ, ◌+◌, ◌<◌, ◌≤◌, ◌⊎◌, length, map, List}
use Rattle.plc_types.specs.declared.axis.AxisRow.{AxisRow}
use Rattle.plc_types.specs.declared.drive.DriveIn.{DriveIn}
use Rattle.plc_types.specs.declared.drive.DriveOut.{DriveOut}
use Rattle.plc_types.specs.declared.inputs.Inputs.{Inputs}
use Rattle.plc_types.specs.declared.outputs.Outputs.{Outputs}
use Rattle.motion_history.specs.Entries.{Entry, call, cycle, cycles_of}
use Rattle.motion_kernel.specs.calls.Calls.{reply_of}
use Rattle.motion_kernel.specs.KernelState.{HasRoom, KernelState, cycled_of, room_of, state_of, with_entry}
use Rattle.motion_kernel.specs.Tasks.{live_tasks, quiet_tasks}
use Rattle.kernel_turn.specs.declared.turn.Turn.{Turn}
use Rattle.kernel_turn.specs.declared.turn.Turn.TheVariants.{Made, Full, Early}

-- the entries are as many as the room
abbrev pub IsFull : KernelState → Type 0
IsFull k = length k.history ≡ room_of k

-- how many tasks of the kernel are quiet
abbrev pub quiet_of : KernelState → ℕ
quiet_of k = quiet_tasks k.config k.history

-- the machine's entry of a call
abbrev pub call_of : KernelState → ℕ → Inputs → Entry
call_of k b i = call b i (reply_of k.config (state_of k) b i)

-- the machine's entry of a cycle
abbrev pub cycle_of : KernelState → List DriveIn → Entry
cycle_of k ins =
    cycle (cycles_of k.history + 1) (cycled_of k ins).axes (cycled_of k ins).groups

-- the outputs of a cycle
abbrev pub outputs_of : KernelState → List DriveIn → List DriveOut
outputs_of k ins = map (λ (r : AxisRow). r.output) (cycled_of k ins).axes

-- the kernel has this entry more, in its ticket's place; this many cycles were made with it
pub record MakesEntry (f g : KernelState) (e : Entry) (ticket cycles : ℕ) : Type 0 where
  pub room : HasRoom f
  pub kernel : g ≡ with_entry f e
  pub ticket_is : ticket ≡ length f.history
  pub cycles_is : cycles ≡ cycles_of g.history
  pub few : cycles ≤ f.config.cycles

-- the kernel is as it was, with this many cycles made
pub record MakesNone (f g : KernelState) (cycles : ℕ) : Type 0 where
  pub kernel : g ≡ f
  pub cycles_is : cycles ≡ cycles_of f.history

module _ {T : Type 0} where
  -- a turn makes an entry, or none and gives the numbers found
  abbrev pub Makes : KernelState → KernelState → Entry → Turn T → Type 0
  Makes f g e (Made ticket cycles answer) = MakesEntry f g e ticket cycles
  Makes f g e (Full entries cycles) = MakesNone f g cycles × (entries ≡ length f.history)
  Makes f g e (Early quiet cycles) = MakesNone f g cycles × (quiet ≡ quiet_of f) × HasRoom f

-- a call is made with at least this many cycles before it, and its answer is the machine's
abbrev pub CallTold : ℕ → ℕ → Inputs → KernelState → Turn Outputs → Type 0
CallTold after b i f (Made ticket cycles answer) =
    (after ≤ cycles) × (answer ≡ reply_of f.config (state_of f) b i)
CallTold after b i f (Full entries cycles) = IsFull f
CallTold after b i f (Early quiet cycles) = cycles < after

-- a cycle is made where no task is quiet and a cycle is left; its answer is the number of tasks
-- that live, and the outputs are the machine's
abbrev pub CycleTold : List DriveIn → List DriveOut → List DriveOut → KernelState → KernelState →
    Turn ℕ → Type 0
CycleTold ins before outs f g (Made ticket cycles live) =
    (quiet_of f ≡ 0) × (cycles ≡ cycles_of f.history + 1) × (outs ≡ outputs_of f ins) ×
    (live ≡ live_tasks g.config g.history)
CycleTold ins before outs f g (Full entries cycles) = (outs ≡ before) ×
    (IsFull f ⊎ (HasRoom f × (quiet_of f ≡ 0) × (cycles ≡ f.config.cycles)))
CycleTold ins before outs f g (Early quiet cycles) = (outs ≡ before) × (0 < quiet)

-- an end is made where there is room
module _ {T : Type 0} where
  abbrev pub EndTold : KernelState → Turn T → Type 0
  EndTold f (Made ticket cycles answer) = HasRoom f
  EndTold f (Full entries cycles) = IsFull f
  EndTold f (Early quiet cycles) = ⊥
