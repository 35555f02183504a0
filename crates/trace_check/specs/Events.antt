-- Which entries are events of a machine. This project's profile.
use Rattle.std.specs.Prelude.{◌≡◌, ◌<◌, length}
use Rattle.motion_history.specs.Calls.{IsCall}
use Rattle.motion_history.specs.Entries.{Entry, call, cycle, end_of}
use Rattle.motion_history.specs.Setup.{Setup}

-- a call of a block with inputs of its kind, a cycle with a row for each axis, or the end of a task
-- that is there
abbrev pub IsEvent : Setup → Entry → Type 0
IsEvent s (call k inputs reply) = IsCall s k inputs
IsEvent s (cycle n rows grows) = length rows ≡ length s.axes
IsEvent s (end_of task) = task < length s.tasks
