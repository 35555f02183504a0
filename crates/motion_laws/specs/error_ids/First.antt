-- The first of some ErrorIDs whose condition holds (this project's profile).
use Rattle.std.specs.Prelude.{◌≡◌, ◌⊎◌, ℕ, Bool, true, false, List, [], ◌∷◌}

-- a number is the first of a list of which something holds
abbrev pub IsFirst : (ℕ → Type 0) → List ℕ → ℕ → Type 0
IsFirst P [] id = ⊥
IsFirst P (n ∷ ns) id = ((id ≡ n) × P n) ⊎ ((P n → ⊥) × IsFirst P ns id)

-- something holds of none of them
abbrev pub HoldsOfNone : (ℕ → Type 0) → List ℕ → Type 0
HoldsOfNone P [] = Unit {0}
HoldsOfNone P (n ∷ ns) = (P n → ⊥) × HoldsOfNone P ns

-- a row of a table: this fact where the test holds, else what the rows after it say
abbrev pub Row : Bool → Type 0 → Type 0 → Type 0
Row true fact after = fact
Row false fact after = after
