-- How the states of axes and groups change from entry to entry: by their events, one after another
-- (PLCopen Motion Control Part 1 and Part 4, the state diagrams).
use Rattle.std.specs.Prelude.{ℕ, ◌<◌, length}
use Rattle.motion_history.specs.Entries.{Entry}
use Rattle.motion_history.specs.Setup.{Setup}
use Rattle.motion_kernel.specs.Histories.{after}
use Rattle.motion_kernel.specs.Machine.{Machine, axis_at, group_at}
use Rattle.motion_laws.specs.entries.AxisEvents.{axis_events}
use Rattle.motion_laws.specs.entries.GroupEvents.{group_events}
use Rattle.state_events.specs.Axis as axis
use Rattle.state_events.specs.Group as group

-- the diagram leads each axis and each group from the state before an entry to the one after it by
-- exactly the entry's events, in their order
pub record GoByEvents (s : Setup) (m : Machine) (e : Entry) : Type 0 where
  pub axes : (n : ℕ) → n < length s.axes →
      axis.Lead (axis_at m n).state (axis_events s m e n) (axis_at (after s m e) n).state
  pub groups : (j : ℕ) → j < length s.groups →
      group.Lead (group_at m j).group.state (group_events s m e j)
      (group_at (after s m e) j).group.state
