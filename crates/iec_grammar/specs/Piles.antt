-- Piles, from their top.
use Rattle.std.specs.Prelude.{◌≡◌, Bool, true, false, Option, Some, None, List, [], ◌∷◌}

-- what was put on last is taken off, where there is something
abbrev pub Pops : {T : Type 0} → List T → Option T → List T → Type 0
Pops old None new = (old ≡ []) × (new ≡ [])
Pops old (Some item) new = old ≡ item ∷ new

-- nothing is on a pile
abbrev pub is_nothing : {T : Type 0} → List T → Bool
is_nothing [] = true
is_nothing (item ∷ items) = false
