-- What is reported of the active command.
use Rattle.std.specs.Prelude.{Option, Some, None, Bool}
use Rattle.command_pool.specs.declared.wanted.Wanted.{Wanted}
use Rattle.axis_core.specs.declared.axis.Axis.{Axis}
use Rattle.axis_core.specs.declared.look.ActiveLook.{ActiveLook}

-- the owner of a command, what it follows, and whether it has reached what it goes for. PLCopen
-- Motion Control Part 1
abbrev pub look_at : Bool → Option Wanted → Option ActiveLook
look_at reached None = None
look_at reached (Some w) = Some (record { owner = w.owner; follow = w.follow; reached = reached })

-- what is reported of the active command, if there is one
abbrev pub active_look_of : Axis → Option ActiveLook
active_look_of a = look_at a.reached a.active
