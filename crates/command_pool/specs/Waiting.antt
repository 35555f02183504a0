-- The commands that wait in the lists of a pool, and what is reported of those that end.
use Rattle.std.specs.Prelude.{ℕ, ◌+◌, Option, Some, None, List, [], ◌∷◌, ◌++◌, length, slice_index_or, nat_eq, if◌then◌else◌}
use Rattle.command_pool.specs.declared.ending.Finish.{Finish}
use Rattle.command_pool.specs.declared.notes.Note.{Note}
use Rattle.command_pool.specs.declared.wanted.Wanted.{Wanted}

-- the commands that wait in a list, the first one first. PLCopen Motion Control Part 1, buffer
-- modes
abbrev pub queue_of : List (List Wanted) → ℕ → List Wanted
queue_of lists list = slice_index_or lists list []

-- the last command of a list. PLCopen Motion Control Part 1, buffer modes
abbrev pub last_of : List Wanted → Option Wanted
last_of [] = None
last_of (w ∷ []) = Some w
last_of (w ∷ v ∷ ws) = last_of (v ∷ ws)

-- how many commands wait in all lists. This project's profile
abbrev pub waiting_in_all : List (List Wanted) → ℕ
waiting_in_all [] = 0
waiting_in_all (q ∷ qs) = length q + waiting_in_all qs

-- an owner, or none where it is the one that is gone. PLCopen Motion Control Part 1, general rules
abbrev pub without : ℕ → Option ℕ → Option ℕ
without gone None = None
without gone (Some owner) = if nat_eq owner gone then None else Some owner

-- a command whose owner is taken away where it is this one. PLCopen Motion Control Part 1, general
-- rules
abbrev pub detached : ℕ → Wanted → Wanted
detached owner w = record w { owner = without owner w.owner }

-- what is reported to an owner of its command's end. PLCopen Motion Control Part 1, general rules
abbrev pub told_to : Option ℕ → Finish → List Note
told_to None f = []
told_to (Some o) f = record { owner = o; finish = f } ∷ []

-- what is reported of a command's end. PLCopen Motion Control Part 1, general rules
abbrev pub note_of : Finish → Wanted → List Note
note_of f w = told_to w.owner f

-- what is reported where commands end so, the first one first. PLCopen Motion Control Part 1,
-- general rules
abbrev pub notes_of : Finish → List Wanted → List Note
notes_of f [] = []
notes_of f (w ∷ ws) = note_of f w ++ notes_of f ws
