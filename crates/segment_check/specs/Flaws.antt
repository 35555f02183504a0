-- Why no machine may begin as the header of a trace segment says. This project's profile.
use Rattle.std.specs.Prelude.{◌≡◌, ◌⊎◌, ℕ, ◌*◌, ◌<◌, ◌≤◌, Option, Some, None, List, [], ◌∷◌, length}
use Rattle.axis_core.specs.Led.{HasCommand}
use Rattle.command_pool.specs.Waiting.{queue_of}
use Rattle.group_core.specs.Targets.{IsToward}
use Rattle.motion_history.specs.Setup.{Setup}
use Rattle.motion_kernel.specs.Machine.{Machine, axis_at, group_at, machine_at_opening}
use Rattle.motion_kernel.specs.Segments.{IsEarly, nothing_before}
use Rattle.motion_kernel.specs.declared.segment.Before.{Before}
use Rattle.motion_kernel.specs.kept.Machine.{IsMachineKept}
use Rattle.motion_kernel.specs.owners.Blocks.{OwnersHaveBlocks}
use Rattle.motion_laws.specs.Orders.{AreOrders}
use Rattle.motion_laws.specs.Standing.{AreAllShown, IsSteered, KindsMatch}
use Rattle.motion_laws.specs.owners.Shown.{AreWhereShown}
use Rattle.segment_check.specs.declared.flaw.Flaw.{Flaw}
use Rattle.segment_check.specs.declared.flaw.Flaw.TheVariants as flaw
use Rattle.segment_text.specs.TraceSegment.{header_text}
use Rattle.segment_text.specs.declared.trace_segment.TraceSegment.{TraceSegment}

-- what was before fits a configuration: it can be counted, each cycle was an entry, and no segment
-- had more of them than its room
pub record CountsFit (s : Setup) (b : Before) : Type 0 where
  pub early : IsEarly b
  pub entries : b.cycles ≤ b.entries
  pub room : b.entries ≤ b.segments * s.entries
  pub cycles : b.cycles ≤ b.segments * s.cycles

-- a trace segment without another before it has the header of the machine at opening
abbrev pub IsFirstOrLater : Setup → Before → Machine → Type 0
IsFirstOrLater s b m =
    b.segments ≡ 0 → header_text b m ≡ header_text nothing_before (machine_at_opening s)

-- the states of axes and groups have their errors, holds, commands and paths
pub record HaveStates (s : Setup) (m : Machine) : Type 0 where
  pub shown : AreAllShown s m
  pub moves : (n : ℕ) → n < length m.axes → HasCommand (axis_at m n)
  pub lines : (j : ℕ) → j < length m.groups →
      IsToward (group_at m j).group.active (group_at m j).path

-- the drive of each axis is led as the kernel does
abbrev pub AreSteered : Machine → Type 0
AreSteered m = (n : ℕ) → n < length m.axes → IsSteered (axis_at m n)

-- both
pub record AreInState (s : Setup) (m : Machine) : Type 0 where
  pub states : HaveStates s m
  pub steered : AreSteered m

-- the commands of each axis, and its hold, are such as calls ask for
abbrev pub HaveOrders : Setup → Machine → Type 0
HaveOrders s m = (n : ℕ) → n < length m.axes →
    AreOrders s n (axis_at m n) (queue_of m.queues n)

-- what is so where a flaw isn't there
abbrev pub IsFree : Setup → Before → Machine → Flaw → Type 0
IsFree s b m flaw.Counts = CountsFit s b
IsFree s b m flaw.Invariant = IsMachineKept s m
IsFree s b m flaw.Owners = OwnersHaveBlocks s m
IsFree s b m flaw.Commands = AreWhereShown s m
IsFree s b m flaw.Kinds = KindsMatch s m
IsFree s b m flaw.States = AreInState s m
IsFree s b m flaw.Orders = HaveOrders s m
IsFree s b m flaw.Opening = IsFirstOrLater s b m

-- the flaws of a machine in their order, and all flaws
abbrev pub machine_flaws : List Flaw
machine_flaws =
    flaw.Invariant ∷ flaw.Owners ∷ flaw.Commands ∷ flaw.Kinds ∷ flaw.States ∷ flaw.Orders ∷ []

abbrev pub flaws : List Flaw
flaws =
    flaw.Counts ∷ flaw.Invariant ∷ flaw.Owners ∷ flaw.Commands ∷ flaw.Kinds ∷ flaw.States
    ∷ flaw.Orders ∷ flaw.Opening ∷ []

-- the first of some flaws that is there, if one is
abbrev pub IsFirst : (Flaw → Type 0) → List Flaw → Option Flaw → Type 0
IsFirst free [] found = found ≡ None
IsFirst free (f ∷ fs) found =
    (free f × IsFirst free fs found) ⊎ ((free f → ⊥) × (found ≡ Some f))

-- the first flaw of a header, if it has one
abbrev pub IsFlawOf : TraceSegment → Option Flaw → Type 0
IsFlawOf p found = IsFirst (IsFree p.trace.config p.before p.machine) flaws found
