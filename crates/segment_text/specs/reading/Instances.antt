-- Instances of blocks, read from the fields of a header's records. This project's profile.
use Rattle.std.specs.Prelude.{ℕ, if◌then◌else◌, Option, Some, None, List, [], ◌∷◌, codes}
use Rattle.command_pool.specs.declared.ending.Finish.{Finish}
use Rattle.command_pool.specs.declared.ending.Finish.TheVariants as finish
use Rattle.plc_types.specs.declared.kind.BlockKind.{BlockKind}
use Rattle.fb_outputs.specs.InstanceState.{InstanceState}
use Rattle.fb_outputs.specs.declared.instance.Progress.{Progress}
use Rattle.fb_outputs.specs.declared.instance.Progress.TheVariants as progress
use Rattle.line_text.specs.Numbers.{◌>>=◌}
use Rattle.line_text.specs.Texts.{says}
use Rattle.segment_text.specs.reading.Columns.{word_of}
use Rattle.trace_columns.specs.Columns.{flag_of}

-- how far a command is that hasn't ended
unfoldable pub running_of : List ℕ → Option Progress
running_of word =
    if says word (codes "idle") then Some progress.Idle
    else if says word (codes "waiting") then Some progress.Waiting
    else if says word (codes "active") then Some progress.Active else None

-- how a command ended without an error
unfoldable pub finish_of : List ℕ → Option Finish
finish_of word =
    if says word (codes "done") then Some finish.Done
    else if says word (codes "aborted") then Some finish.Aborted else None

-- the end of a command without an error, and whether that was shown
unfoldable pub ended_of : List ℕ → List ℕ → Option Progress
ended_of word shown = do
  f ← finish_of word
  s ← flag_of shown
  Some (progress.Ended f s)

-- the end of a command with an error, and whether that was shown
unfoldable pub failed_of : List ℕ → List ℕ → List ℕ → Option Progress
failed_of word number shown =
    if says word (codes "error") then
    (word_of number >>= λ n. flag_of shown >>= λ s. Some (progress.Ended (finish.Error n) s))
    else None

-- how far the command of an instance is
unfoldable pub progress_of : List (List ℕ) → Option Progress
progress_of (word ∷ []) = running_of word
progress_of (word ∷ shown ∷ []) = ended_of word shown
progress_of (word ∷ number ∷ shown ∷ []) = failed_of word number shown
progress_of _ = None

-- the instance of a kind of these fields after its number
unfoldable pub instance_of : BlockKind → List (List ℕ) → Option InstanceState
instance_of k (execute ∷ reached ∷ behind) = do
  e ← flag_of execute
  r ← flag_of reached
  p ← progress_of behind
  Some (record { kind = k; execute = e; reached = r; progress = p })
instance_of k _ = None
