-- The items of a bench or a program. This project's profile.
use Rattle.std.specs.Prelude.{ℕ, Result, Ok, Err, List, [], ◌∷◌, ◌++◌}
use Rattle.line_text.specs.Reading.{◌>>=◌}
use Rattle.motion_history.specs.Faults.{task_fault}
use Rattle.motion_history.specs.Setup.{Setup}
use Rattle.machine_words.specs.Rules.{broken_by, rule_of}
use Rattle.machine_words.specs.RuleNumbers.{wrong_count}

-- `task NAME`
unfoldable pub task_meaning : Setup → List (List ℕ) → Result Setup ℕ
task_meaning s (name ∷ []) = do
  _ ← broken_by rule_of (task_fault s name)
  Ok (record s { tasks = s.tasks ++ name ∷ [] })
task_meaning s _ = Err wrong_count
