-- What names of a bench name. This project's profile.
use Rattle.std.specs.Prelude.{ℕ, Result, List}
use Rattle.std.specs.Option.{ok_or}
use Rattle.machine_words.specs.Names.{block_at, task_at}
use Rattle.machine_words.specs.RuleNumbers.{wrong_name}
use Rattle.motion_history.specs.Setup.{Setup}

-- the task of this name; a name that is none's breaks its rule
abbrev pub task_named : Setup → List ℕ → Result ℕ ℕ
task_named s name = ok_or (task_at s name) wrong_name

-- the block of this name, in the same way
abbrev pub block_named : Setup → List ℕ → Result ℕ ℕ
block_named s name = ok_or (block_at s name) wrong_name
