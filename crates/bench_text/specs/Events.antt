-- The cycles of a bench, and the ends of its tasks. This project's profile.
use Rattle.std.specs.Prelude.{ℕ, Result, Ok, Err, List, [], ◌∷◌}
use Rattle.line_text.specs.Reading.{◌>>=◌}
use Rattle.line_text.specs.Rules.{in_range}
use Rattle.machine_words.specs.Numbers.{number}
use Rattle.machine_words.specs.RuleNumbers.{out_of_range, wrong_count}
use Rattle.motion_history.specs.Setup.{Setup}
use Rattle.bench_text.specs.Named.{task_named}
use Rattle.bench_text.specs.declared.bench.BenchLine.{BenchLine}
use Rattle.bench_text.specs.declared.bench.BenchLine.TheVariants.{Cycles, End}

-- `cycle` or `cycle N`
unfoldable pub cycle_meaning : List (List ℕ) → Result BenchLine ℕ
cycle_meaning [] = Ok (Cycles 1)
cycle_meaning (count ∷ []) = do
  n ← number count
  cycles ← in_range 1 200000 out_of_range n
  Ok (Cycles cycles)
cycle_meaning _ = Err wrong_count

-- `end TASK`
unfoldable pub end_meaning : Setup → List (List ℕ) → Result BenchLine ℕ
end_meaning s (name ∷ []) = do
  task ← task_named s name
  Ok (End task)
end_meaning s _ = Err wrong_count
