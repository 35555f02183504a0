-- What a caller does to a kernel. This project's profile.
use Rattle.std.specs.Prelude.{◌≡◌, ◌+◌, ◌≤◌, Bool, ◌||◌, List, [], ◌∷◌, ◌++◌, length, map}
use Rattle.plc_types.specs.declared.axis.AxisRow.{AxisRow}
use Rattle.plc_types.specs.declared.drive.DriveIn.{DriveIn}
use Rattle.plc_types.specs.declared.drive.DriveOut.{DriveOut}
use Rattle.plc_types.specs.declared.outputs.Outputs.{Outputs}
use Rattle.motion_history.specs.Entries.{Entry, cycle, cycles_of}
use Rattle.motion_kernel.specs.KernelState.{KernelState, state_of}
use Rattle.motion_kernel.specs.cycles.Cycles.{cycled}

-- a kernel has one entry more, and is else the same
abbrev pub AddsEntry : KernelState → KernelState → Entry → Type 0
AddsEntry old new e = new ≡ record old { history = old.history ++ e ∷ [] }

-- the entry of the next cycle, in which the drives answer so
abbrev pub next_cycle : KernelState → List DriveIn → Entry
next_cycle k answers =
    cycle (cycles_of k.history + 1) (cycled k.config (state_of k) answers).axes
    (cycled k.config (state_of k) answers).groups

-- what the next cycle gives the drives, which answer so
abbrev pub next_outputs : KernelState → List DriveIn → List DriveOut
next_outputs k answers =
    map (λ (r : AxisRow). r.output) (cycled k.config (state_of k) answers).axes

-- a kernel goes on: it has its configuration, and no fewer entries
pub record GoesOn (old new : KernelState) : Type 0 where
  pub config : new.config ≡ old.config
  pub stopped : new.stopped ≡ old.stopped
  pub entries : length old.history ≤ length new.history

-- a call's outputs say that its command has come to its end or is reached. PLCopen Motion Control
-- Part 1, the outputs Done, CommandAborted, Error, InVelocity and Status
abbrev pub has_ended : Outputs → Bool
has_ended o = o.done || o.aborted || o.error || o.reached
