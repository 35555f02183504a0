-- The lines of a task with every repeat written out. This project's profile.
use Rattle.std.specs.Prelude.{ℕ, zero, suc, Option, Some, None, List, [], ◌∷◌, ◌++◌}
use Rattle.plc_program.specs.declared.program.Instruction.{Instruction}
use Rattle.plc_program.specs.declared.program.Instruction.TheVariants.{Call, Wait, Repeat, Again}

-- lines this many times, one after the other
abbrev pub times : ℕ → List Instruction → List Instruction
times zero lines = []
times (suc n) lines = lines ++ times n lines

-- a repeat that is open: how often its lines are run, and its lines so far
pub record Open : Type 0 where
  pub count : ℕ
  pub lines : List Instruction

-- lines with every repeat written out, in a repeat that is open or in none. In the program of a
-- task each repeat ends, and none stands in another
abbrev pub written_from : Option Open → List Instruction → List Instruction
written_from around [] = []
written_from None (Call k i ∷ lines) = Call k i ∷ written_from None lines
written_from None (Wait k flag ∷ lines) = Wait k flag ∷ written_from None lines
written_from None (Repeat count ∷ lines) =
    written_from (Some (record { count = count; lines = [] })) lines
written_from None (Again ∷ lines) = written_from None lines
written_from (Some around) (Call k i ∷ lines) =
    written_from (Some (record around { lines = around.lines ++ Call k i ∷ [] })) lines
written_from (Some around) (Wait k flag ∷ lines) =
    written_from (Some (record around { lines = around.lines ++ Wait k flag ∷ [] })) lines
written_from (Some around) (Repeat count ∷ lines) = written_from (Some around) lines
written_from (Some around) (Again ∷ lines) =
    times around.count around.lines ++ written_from None lines

-- the lines of a task with every repeat written out
unfoldable pub written_out : List Instruction → List Instruction
written_out lines = written_from None lines
