-- What an error changes of the commands of an axis or a group (PLCopen Motion Control Part 1 and
-- Part 4, the state diagrams).
use Rattle.std.specs.Prelude.{ℕ, false, None, List, [], ◌∷◌}
use Rattle.command_core.specs.Changes.{Change, holds, replaced}
use Rattle.command_pool.specs.declared.ending.Finish.TheVariants as finish

-- all commands end, and nobody holds stopping
abbrev pub failing : ℕ → List Change
failing n = replaced (finish.Error n) None [] ∷ holds false ∷ []
