-- Where a list is cut into shares. This project's profile.
use Rattle.std.specs.Prelude.{ℕ, ◌-◌, ◌*◌, ◌/◌, List, take, drop}

-- where a share of this many begins
abbrev pub cut_at : ℕ → ℕ → ℕ → ℕ
cut_at count shares share = count * share / shares

-- the items from one place to another
abbrev pub between_cuts : {X : Type 0} → ℕ → ℕ → List X → List X
between_cuts from to xs = take (to - from) (drop from xs)
