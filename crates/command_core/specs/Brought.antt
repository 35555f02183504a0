-- Whose command a change brings (PLCopen Motion Control Part 1, general rules).
use Rattle.std.specs.Prelude.{◌≡◌, ℕ, ◌+◌, None, List, [], ◌∷◌}
use Rattle.buffer_modes.specs.Owners.{owner_count, owner_by, waits_of}
use Rattle.command_core.specs.Changes.{Change, joins, replaced, ends, awaits, resets, holds}

-- how many commands of an instance a change brings
abbrev pub brought_by : ℕ → Change → ℕ
brought_by k (joins w) = owner_count k w.owner
brought_by k (replaced f next ws) = owner_count k (owner_by next) + waits_of k ws
brought_by k (ends f target) = 0
brought_by k (awaits owner) = owner_count k owner
brought_by k resets = 0
brought_by k (holds stops) = 0

-- how many several changes bring
abbrev pub brought : ℕ → List Change → ℕ
brought k [] = 0
brought k (x ∷ xs) = brought_by k x + brought k xs

-- a change brings no command: commands end, a reset is done, the hold passes
abbrev pub BringsNone : Change → Type 0
BringsNone (joins w) = ⊥
BringsNone (replaced f next ws) = (next ≡ None) × (ws ≡ [])
BringsNone (awaits owner) = ⊥
BringsNone x = Unit {0}

-- nor do several
abbrev pub BringNone : List Change → Type 0
BringNone [] = Unit {0}
BringNone (x ∷ xs) = BringsNone x × BringNone xs
