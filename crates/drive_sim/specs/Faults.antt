-- The steps in which a simulated drive has a fault.
use Rattle.std.specs.Prelude.{ℕ, ◌<◌, Bool, false, ◌==◌, ◌||◌, List, [], ◌∷◌}

-- step numbers rise, the first above a number. This project's profile
abbrev pub RisesAbove : ℕ → List ℕ → Type 0
RisesAbove n [] = Unit {0}
RisesAbove n (step ∷ steps) = (n < step) × RisesAbove step steps

-- a step is one of some steps. This project's profile
abbrev pub has_step : ℕ → List ℕ → Bool
has_step step [] = false
has_step step (first ∷ steps) = (first == step) || has_step step steps
