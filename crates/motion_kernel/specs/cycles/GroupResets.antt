-- What pending GroupResets make of the machine at a cycle's end (MC_GroupReset).
use Rattle.std.specs.Prelude.{ℕ, zero, suc, List, [], ◌∷◌, ◌++◌}
use Rattle.group_core.specs.Cores as group_cores
use Rattle.group_core.specs.Cycles as group
use Rattle.plc_types.specs.declared.group.GroupRow.{GroupRow}
use Rattle.motion_history.specs.Setup.{Setup}
use Rattle.motion_kernel.specs.calls.Calls.{with_group_core}
use Rattle.motion_kernel.specs.looks.GroupLooks.{group_look}
use Rattle.motion_kernel.specs.Machine.{Machine, group_core_at}

-- a group after the cycles of its axes: its GroupReset sees them as they then are
abbrev pub core_after_reset : Setup → ℕ → Machine → group_cores.Core
core_after_reset s j m = group.reset_cycled (group_look s m j 0) (group_core_at m j)

abbrev pub after_group_reset : Setup → ℕ → Machine → Machine
after_group_reset s j m = with_group_core m j (core_after_reset s j m)

-- the machine after some groups' pending GroupResets were done where they may be, and their rows
pub record GroupsReset : Type 0 where
  pub machine : Machine
  pub rows : List GroupRow

-- one group more
abbrev pub group_reset : Setup → ℕ → GroupsReset → GroupsReset
group_reset s j g = record {
  machine = after_group_reset s j g.machine;
  rows = g.rows ++ group.row_of (core_after_reset s j g.machine).group ∷ [];
}

-- the first n groups
unfoldable pub groups_reset : Setup → ℕ → Machine → GroupsReset
groups_reset s zero m = record { machine = m; rows = [] }
groups_reset s (suc n) m = group_reset s n (groups_reset s n m)
