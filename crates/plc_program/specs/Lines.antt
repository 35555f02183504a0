-- The lines of a program but its tasks and calls: blocks, waits and repeats. This project's
-- profile.
use Rattle.std.specs.Prelude.{ℕ, Result, Ok, Err, List, [], ◌∷◌, ◌++◌}
use Rattle.std.specs.Option.{ok_or}
use Rattle.plc_types.specs.Flags.{flag_named}
use Rattle.line_text.specs.Reading.{◌>>=◌}
use Rattle.line_text.specs.Rules.{broken_unless, in_range}
use Rattle.machine_words.specs.Names.{kind_of, object_named}
use Rattle.machine_words.specs.Numbers.{number}
use Rattle.machine_words.specs.Rules.{broken_by, rule_of}
use Rattle.machine_words.specs.RuleNumbers.{no_value, out_of_range, wrong_count}
use Rattle.motion_history.specs.Faults.{block_fault, name_fault}
use Rattle.motion_history.specs.Setup.{Setup}
use Rattle.motion_history.specs.declared.refused.TraceVersion.{TraceVersion}
use Rattle.plc_program.specs.Named.{block_named}
use Rattle.plc_program.specs.Programs.{is_called}
use Rattle.plc_program.specs.SoFar.{SoFar, task_of}
use Rattle.plc_program.specs.declared.program.Instruction.{Instruction}
use Rattle.plc_program.specs.declared.program.Instruction.TheVariants.{Wait, Repeat}

-- `block NAME KIND AXIS-OR-GROUP`, a block of this task, of a kind that the program's version has
unfoldable pub block_meaning : TraceVersion → Setup → ℕ → List (List ℕ) → Result Setup ℕ
block_meaning version s task (name ∷ of_kind ∷ of_object ∷ []) = do
  _ ← broken_by rule_of (name_fault s name)
  kind ← kind_of version of_kind
  object ← object_named s kind of_object
  _ ← broken_by rule_of (block_fault s name task kind object)
  Ok (record s {
    blocks = s.blocks ++ record {
      name = name;
      task = task;
      kind = kind;
      object = object;
    } ∷ [];
  })
block_meaning version s task _ = Err wrong_count

-- `wait BLOCK FLAG`, after a call of the block in its task
unfoldable pub wait_meaning : SoFar → List (List ℕ) → Result Instruction ℕ
wait_meaning s (name ∷ word ∷ []) = do
  k ← block_named s.setup (task_of s) name
  flag ← ok_or (flag_named word) no_value
  _ ← broken_unless (is_called k s.lines) out_of_range
  Ok (Wait k flag)
wait_meaning s _ = Err wrong_count

-- `repeat N`
unfoldable pub repeat_meaning : List (List ℕ) → Result Instruction ℕ
repeat_meaning (word ∷ []) = do
  n ← number word
  count ← in_range 1 1000000 out_of_range n
  Ok (Repeat count)
repeat_meaning _ = Err wrong_count
