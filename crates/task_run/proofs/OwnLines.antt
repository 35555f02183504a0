-- The lines of each task are its own.
-- for: tasks_have_their_own_lines
use Rattle.std.proofs.Common.{◌≡◌, ℕ, zero, suc, ◌+◌, ◌<◌, List, [], ◌∷◌, length, subst, arith}
use Rattle.std.specs.Prelude.{slice_index_or}
use Rattle.std.specs.List.{AllByRecursion}
use Rattle.motion_history.specs.Setup.{Setup}
use Rattle.plc_program.specs.Programs.{AreTasksOf, IsLineOf}
use Rattle.plc_program.specs.declared.program.Instruction.{Instruction}

tasks-at : (s : Setup) (first : ℕ) (program : List (List Instruction)) (n task : ℕ) → first + n ≡ task → AreTasksOf s first program → n < length program →
    AllByRecursion (IsLineOf s task) (slice_index_or program n [])
tasks-at s first [] n task is h within = absurd (omega (arith, within))
tasks-at s first (lines ∷ more) zero task is h within = let same : first ≡ task = omega (arith, is) in subst (λ m. AllByRecursion (IsLineOf s m) lines) same h.0
tasks-at s first (lines ∷ more) (suc n) task is h within = tasks-at s (suc first) more n task (omega (arith, is)) h.1 (omega (arith, within))

pub tasks-own : (s : Setup) (program : List (List Instruction)) (task : ℕ) → AreTasksOf s 0 program → task < length program → AllByRecursion (IsLineOf s task) (slice_index_or program task [])
tasks-own s program task h within = tasks-at s 0 program task task (omega arith) h within
