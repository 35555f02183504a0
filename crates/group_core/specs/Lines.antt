-- What a line asks before it begins.
use Rattle.std.specs.Prelude.{List, [], ◌∷◌, ℤ}
use Rattle.command_pool.specs.declared.wanted.Wanted.{Wanted}
use Rattle.axis_state.specs.GroupDiagram.{IsFrom}
use Rattle.plc_types.specs.declared.group.GroupState.{GroupState}
use Rattle.linear_path.specs.Line.{AreInRange}
use Rattle.linear_path.specs.Path.{AreAxesLimits}
use Rattle.group_core.specs.GroupKept.{IsCount}
use Rattle.group_core.specs.Kinds.{event_of}
use Rattle.group_core.specs.Refusals.{limits_in}
use Rattle.group_core.specs.declared.look.GroupLook.{GroupLook}

-- a line of these axes may begin: their number, limits, starts and targets are in their ranges
pub record MayBeginLine (members : GroupLook) (starts targets : List ℤ) : Type 0 where
  pub count : IsCount members.count
  pub limits : AreAxesLimits members.count (limits_in members)
  pub starts_in_range : AreInRange starts
  pub targets_in_range : AreInRange targets

-- the first command that waits may take over, where the axes stand
abbrev pub MayTakeOver : GroupLook → List ℤ → GroupState → List Wanted → Type 0
MayTakeOver members starts s [] = Unit {0}
MayTakeOver members starts s (w ∷ ws) =
    IsFrom s (event_of w.kind) × MayBeginLine members starts w.targets
