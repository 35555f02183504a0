-- What names of a program name. This project's profile.
use Rattle.std.specs.Prelude.{ℕ, ◌==◌, Result, Ok, List, slice_get}
use Rattle.std.specs.Option.{ok_or}
use Rattle.line_text.specs.Reading.{◌>>=◌}
use Rattle.line_text.specs.Rules.{broken_unless}
use Rattle.machine_words.specs.Names.{block_at}
use Rattle.machine_words.specs.RuleNumbers.{wrong_name}
use Rattle.motion_history.specs.Setup.{Setup}

-- the block of this name, which is one of this task
unfoldable pub block_named : Setup → ℕ → List ℕ → Result ℕ ℕ
block_named s task name = do
  k ← ok_or (block_at s name) wrong_name
  b ← ok_or (slice_get s.blocks k) wrong_name
  _ ← broken_unless (b.task == task) wrong_name
  Ok k
