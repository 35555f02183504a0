-- What is reported of the active command.
use Rattle.std.specs.Prelude.{Option, Some, None, false}
use Rattle.command_pool.specs.declared.wanted.Wanted.{Wanted}
use Rattle.group_core.specs.declared.look.ActiveLook.{ActiveLook}

-- the owner of a command and what it follows; it reaches nothing. PLCopen Motion Control Part 4
abbrev pub active_look_of : Option Wanted → Option ActiveLook
active_look_of None = None
active_look_of (Some w) = Some (record { owner = w.owner; follow = w.follow; reached = false })
