-- Which instance has a command of a group, and how often (PLCopen Motion Control Part 1, general
-- rules).
use Rattle.std.specs.Prelude.{ℕ, ◌+◌, Option, Some, None}
use Rattle.buffer_modes.specs.Owners.{owner_count, owner_by, waits_of}
use Rattle.plc_types.specs.declared.kind.BlockKind.{BlockKind}
use Rattle.plc_types.specs.declared.kind.BlockKind.TheVariants as kind
use Rattle.command_pool.specs.declared.wanted.Wanted.{Wanted}
use Rattle.group_core.specs.Cores.{Core}
use Rattle.buffer_modes.specs.Resets.{reset_owner}
use Rattle.group_core.specs.declared.reason.Reason.{Reason}

-- how many commands of the group this instance has, a pending GroupReset among them
abbrev pub owns : ℕ → Core → ℕ
owns k c =
    owner_count k (owner_by c.group.active) + waits_of k c.waiting
    + owner_count k (reset_owner c.group.reset)

-- the owner that a command brings; a GroupEnable and a GroupDisable are done at once
abbrev pub brought_by : BlockKind → Wanted → Option ℕ
brought_by kind.GroupReset w = w.owner
brought_by kind.GroupStop w = w.owner
brought_by kind.GroupHalt w = w.owner
brought_by kind.MoveLinearAbsolute w = w.owner
brought_by k w = None

-- a refused command brings none
abbrev pub brought : Option Reason → Wanted → Option ℕ
brought None w = brought_by w.kind w
brought (Some reason) w = None
