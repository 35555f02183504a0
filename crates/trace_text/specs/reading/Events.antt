-- The calls, cycles and ends of a trace, read from its records: each is the fields after its kind.
-- This project's profile.
use Rattle.std.specs.Prelude.{ℕ, ◌-◌, ◌^◌, Result, Ok, Err, List, [], ◌∷◌, slice_get}
use Rattle.plc_types.specs.declared.outputs.Outputs.{Outputs}
use Rattle.line_text.specs.Reading.{◌>>=◌}
use Rattle.line_text.specs.Rules.{broken_unless}
use Rattle.machine_words.specs.Names.{block_at, task_at}
use Rattle.motion_history.specs.Setup.{Setup}
use Rattle.motion_history.specs.declared.refused.TraceVersion.{TraceVersion}
use Rattle.trace_columns.specs.Columns.{outputs_of, unsigned_of}
use Rattle.trace_text.specs.reading.InputFields.{InputTexts}
use Rattle.trace_text.specs.reading.Inputs.{inputs_of}
use Rattle.trace_text.specs.reading.Rules.{are_empty, value}
use Rattle.trace_text.specs.declared.found.FoundEntry.{FoundEntry}
use Rattle.trace_text.specs.declared.found.FoundEntry.TheVariants as found
use Rattle.trace_text.specs.reading.RuleNumbers.{no_value}

-- the outputs of a call and its ErrorID
unfoldable pub reply_of : List (List ℕ) → Result Outputs ℕ
reply_of (outputs ∷ error_id ∷ []) = do
  id ← value (unsigned_of 0 65535 error_id)
  value (outputs_of outputs id)
reply_of _ = Err no_value

-- a call of a block of this name
unfoldable pub call_by : TraceVersion → Setup → List ℕ → InputTexts → List (List ℕ) →
    Result FoundEntry ℕ
call_by v s name inputs reply = do
  k ← value (block_at s name)
  b ← value (slice_get s.blocks k)
  i ← inputs_of v s b inputs
  o ← reply_of reply
  Ok (found.Call k i o)

-- a call: its block, its inputs, its outputs and the ErrorID
unfoldable pub call_meaning : TraceVersion → Setup → List (List ℕ) → Result FoundEntry ℕ
call_meaning v s (name ∷ execute ∷ positions ∷ velocity ∷ acceleration ∷ deceleration ∷ jerk ∷
    mode ∷ follow ∷ outputs ∷ error_id ∷ []) =
    call_by v s name (record {
      execute = execute;
      positions = positions;
      rates = velocity ∷ acceleration ∷ deceleration ∷ jerk ∷ [];
      last = mode ∷ follow ∷ [];
    }) (outputs ∷ error_id ∷ [])
call_meaning v s _ = Err no_value

-- the end of a task
unfoldable pub end_meaning : Setup → List (List ℕ) → Result FoundEntry ℕ
end_meaning s (name ∷ behind) = do
  task ← value (task_at s name)
  _ ← broken_unless (are_empty behind) no_value
  Ok (found.End task)
end_meaning s _ = Err no_value

-- a cycle: its number
unfoldable pub cycle_meaning : List (List ℕ) → Result ℕ ℕ
cycle_meaning (number ∷ behind) = do
  n ← value (unsigned_of 1 (2 ^ 32 - 1) number)
  _ ← broken_unless (are_empty behind) no_value
  Ok n
cycle_meaning _ = Err no_value
