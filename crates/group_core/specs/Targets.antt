-- The targets of a line, and the path that leads to them (PLCopen Part 4, MC_MoveLinearAbsolute).
use Rattle.std.specs.Prelude.{◌≡◌, ℕ, ◌<◌, true, Option, Some}
use Rattle.plc_types.specs.declared.kind.BlockKind.TheVariants as kind
use Rattle.command_pool.specs.declared.wanted.Wanted.{Wanted}
use Rattle.linear_path.specs.Line.{coordinate_of}
use Rattle.group_core.specs.Cores.{Core}
use Rattle.group_core.specs.Cycles.{path_taken}
use Rattle.group_core.specs.GroupKept.{is_within}
use Rattle.group_core.specs.Tracks.{OnPath, place_on}
use Rattle.group_core.specs.declared.look.GroupLook.{GroupLook}

-- where the active command is a line, its path leads to its targets
abbrev pub IsToward : Option Wanted → Option OnPath → Type 0
IsToward active p = (w : Wanted) (on : OnPath) → active ≡ Some w →
    w.kind ≡ kind.MoveLinearAbsolute → p ≡ Some on → on.way.targets ≡ w.targets

-- the same way, within the same limits
pub record IsSameWay (before after : OnPath) : Type 0 where
  pub way : after.way ≡ before.way
  pub limits : after.motion.limits ≡ before.motion.limits
  pub previous : after.motion.previous ≡ before.motion.place

-- at the end of a path each of this many axes stands at its target
abbrev pub EndsAtTargets : ℕ → OnPath → Type 0
EndsAtTargets axes p = (axis : ℕ) → axis < axes →
    place_on p.way axis p.motion.limits.hi ≡ coordinate_of p.way.targets axis

-- the command is done on its path: the axes have no error and stand on it, at rest, and where it is
-- a line at the end
pub record IsDoneOn (members : GroupLook) (c : Core) (w : Wanted) : Type 0 where
  pub before : OnPath
  pub after : OnPath
  pub path : c.path ≡ Some before
  pub takes : path_taken members c ≡ Some after
  pub same : IsSameWay before after
  pub rests : after.motion.place ≡ after.motion.previous
  pub ends : w.kind ≡ kind.MoveLinearAbsolute → after.motion.place ≡ before.motion.limits.hi
  pub fine : members.error ≡ 0
  pub within : is_within c.group.state ≡ true
