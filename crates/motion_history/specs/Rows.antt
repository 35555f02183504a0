-- Rows of many cycles after each other.
use Rattle.std.specs.Prelude.{ℕ, ◌*◌, ◌-◌, List, take, drop}

-- the rows of a cycle, counted from 1, where each cycle has this many
abbrev pub rows_at : {X : Type 0} → ℕ → ℕ → List X → List X
rows_at width number rows = take width (drop ((number - 1) * width) rows)
