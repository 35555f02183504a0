-- What a command asks before it is admitted.
use Rattle.std.specs.Prelude.{◌≡◌, false}
use Rattle.buffer_modes.specs.Queue.{is_full}
use Rattle.plc_types.specs.declared.kind.BlockKind.{BlockKind}
use Rattle.plc_types.specs.declared.kind.BlockKind.TheVariants as kind
use Rattle.command_pool.specs.declared.wanted.Wanted.{Wanted}
use Rattle.axis_state.specs.GroupDiagram.{IsFrom}
use Rattle.axis_state.specs.declared.group_diagram.GroupEvent.TheVariants as event
use Rattle.group_core.specs.Calls.{queue_in}
use Rattle.group_core.specs.Cores.{Core}
use Rattle.group_core.specs.Kinds.{event_of}
use Rattle.group_core.specs.Lines.{MayBeginLine}
use Rattle.group_core.specs.declared.group.Group.{Group}
use Rattle.group_core.specs.declared.look.GroupLook.{GroupLook}

-- a halt may become active in the state, and a path of length 0 begin where the axes stand
pub record MayHalt (members : GroupLook) (w : Wanted) (g : Group) : Type 0 where
  pub begin : IsFrom g.state (event_of w.kind)
  pub line : MayBeginLine members members.setpoints members.setpoints

-- a line may join the others: there is a place for it, and it may begin where the axes stand
pub record MayJoin (members : GroupLook) (w : Wanted) (c : Core) : Type 0 where
  pub begin : IsFrom c.group.state (event_of w.kind)
  pub line : MayBeginLine members members.setpoints w.targets
  pub place : is_full (queue_in c) w ≡ false

-- a command may be admitted, by its kind
abbrev pub MayAdmit : BlockKind → GroupLook → Wanted → Core → Type 0
MayAdmit kind.GroupEnable members w c = IsFrom c.group.state event.Enable
MayAdmit kind.GroupDisable members w c = IsFrom c.group.state event.Disable
MayAdmit kind.GroupStop members w c = MayHalt members w c.group
MayAdmit kind.GroupHalt members w c = MayHalt members w c.group
MayAdmit kind.MoveLinearAbsolute members w c = MayJoin members w c
MayAdmit k members w c = Unit {0}
