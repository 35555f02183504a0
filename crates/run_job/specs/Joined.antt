-- The jobs of a spawner. This project's profile.
use Rattle.std.specs.Prelude.{◌≡◌, ℕ, List, ◌++◌, Option, None, replicate}

-- this many jobs were started after those before, and each of them was joined
abbrev pub JoinsAll : {J : Type 0} → List (Option J) → List (Option J) → Type 0
JoinsAll old new = (started : ℕ) × (new ≡ old ++ replicate started None)
