-- What a text is a program of, apart from where a text is refused. This project's profile.
use Rattle.std.specs.Prelude.{◌≡◌, ℕ, None, List}
use Rattle.motion_history.specs.Setup.{Setup}
use Rattle.st_check.specs.Reading.{Stand, opening, run}
use Rattle.st_tree.specs.Parts.{Spells}
use Rattle.st_tokens.specs.Tokens.{Placed, tokens_of}
use Rattle.st_tree.specs.declared.program.Task.{Task}

-- a text is these tasks for a machine, and leaves the machine so: it has tokens that the grammar's
-- table leads from a file to the end without a rule broken, and what they give is what the trees of
-- the tasks spell
pub record IsStText (s : Setup) (text : List ℕ) (tasks : List Task) (after : Setup) : Type 0 where
  pub tokens : List Placed
  pub last : Stand
  pub are : tokens_of text ≡ tokens
  pub leads : run (opening s) tokens ≡ last
  pub whole : last.checked.fault ≡ None
  pub setup : last.checked.setup ≡ after
  pub spelled : Spells tasks last.checked.names last.checked.parts
