-- How the command of an instance ends by what is reported of some commands (PLCopen Motion Control
-- Part 1, Done, CommandAborted and Error).
use Rattle.std.specs.Prelude.{ℕ, nat_eq, if◌then◌else◌, Option, Some, None, List, [], ◌∷◌}
use Rattle.command_pool.specs.declared.ending.Finish.{Finish}
use Rattle.command_pool.specs.declared.notes.Note.{Note}

-- how the command of an instance ends by some notes, if one is for it
abbrev pub end_among : ℕ → List Note → Option Finish
end_among k [] = None
end_among k (n ∷ ns) = if nat_eq n.owner k then Some n.finish else end_among k ns
