-- What a call changes (PLCopen Motion Control Part 1, general rules).
use Rattle.std.specs.Prelude.{List, [], ◌∷◌}
use Rattle.command_core.specs.Changes.{Change, ends, holds}

-- who holds stopping changes, and nothing else
abbrev pub AreHolds : List Change → Type 0
AreHolds [] = Unit {0}
AreHolds (holds stops ∷ xs) = AreHolds xs
AreHolds (x ∷ xs) = ⊥

-- a call changes nothing, or makes one change by which no other command takes over, and then who
-- holds stopping
abbrev pub IsCall : List Change → Type 0
IsCall [] = Unit {0}
IsCall (ends f target ∷ xs) = ⊥
IsCall (x ∷ xs) = AreHolds xs
