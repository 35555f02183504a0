-- How a run stands where a task stands: by a line, and in a repeat by how often its lines were run.
use Rattle.std.specs.Prelude.{◌≡◌, ℕ, suc, ◌+◌, Bool, true, false, Option, Some, None, List, ◌∷◌, ◌++◌, length}
use Rattle.std.specs.List.{list_all}
use Rattle.plc_program.specs.Programs.{repeating_after}
use Rattle.plc_program.specs.declared.program.Instruction.{Instruction}
use Rattle.plc_program.specs.declared.program.Instruction.TheVariants.{Call, Wait, Repeat, Again}
use Rattle.task_run.specs.Written.{times, written_out}
use Rattle.task_run.specs.declared.place.Repetition.{Repetition}
use Rattle.task_run.specs.declared.place.ProgramPosition.{ProgramPosition}

-- whether a line makes calls
abbrev pub is_plain : Instruction → Bool
is_plain (Call k i) = true
is_plain (Wait k flag) = true
is_plain (Repeat count) = false
is_plain Again = false

-- outside repeats a run stands before a line: what stands before it is passed, it and what stands
-- after it is to come
pub record IsOutside (lines : List Instruction) (line : ℕ)
    (passed to_come : List Instruction) : Type 0 where
  pub front : List Instruction
  pub back : List Instruction
  pub split : lines ≡ front ++ back
  pub line_is : line ≡ length front
  pub closed : repeating_after false front ≡ Some false
  pub passed_is : passed ≡ written_out front
  pub to_come_is : to_come ≡ written_out back

-- in a repeat it stands before a line of its body, or before its `again`. Passed is what stands
-- before the repeat, the body as often as it was run, and its lines before this one; to come are
-- its other lines, the body as often as it is still to be run, and what stands after the repeat
pub record IsInside (lines : List Instruction) (line : ℕ) (pass : Repetition)
    (passed to_come : List Instruction) : Type 0 where
  pub front : List Instruction
  pub count : ℕ
  pub run : List Instruction
  pub still : List Instruction
  pub behind : List Instruction
  pub left : ℕ
  pub split : lines ≡ front ++ (Repeat count ∷ (run ++ (still ++ (Again ∷ behind))))
  pub plain : list_all is_plain (run ++ still) ≡ true
  pub closed : repeating_after false front ≡ Some false
  pub start_is : pass.start ≡ length front
  pub line_is : line ≡ length front + suc (length run)
  pub counted : count ≡ pass.made + suc left
  pub passed_is : passed ≡ written_out front ++ (times pass.made (run ++ still) ++ run)
  pub to_come_is : to_come ≡ still ++ (times left (run ++ still) ++ written_out behind)

-- a run stands in a repeat or in none
abbrev pub StandsBy : List Instruction → ℕ → Option Repetition → List Instruction → List Instruction →
    Type 0
StandsBy lines line None passed to_come = IsOutside lines line passed to_come
StandsBy lines line (Some pass) passed to_come = IsInside lines line pass passed to_come

-- a place stands where these lines are passed and those are to come
abbrev pub Stands : List Instruction → ProgramPosition → List Instruction → List Instruction → Type 0
Stands lines place passed to_come = StandsBy lines place.line place.pass passed to_come

-- a place stands at some point of the lines written out
pub record IsPlace (lines : List Instruction) (place : ProgramPosition) : Type 0 where
  pub passed : List Instruction
  pub to_come : List Instruction
  pub stands : Stands lines place passed to_come

-- what stands at the one place stands at the other too
abbrev pub Moves : List Instruction → ProgramPosition → ProgramPosition → Type 0
Moves lines place other =
    (passed to_come : List Instruction) → Stands lines place passed to_come → Stands lines other passed to_come
