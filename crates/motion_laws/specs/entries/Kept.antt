-- What each entry of a past keeps (PLCopen Motion Control Part 1 and Part 4).
use Rattle.std.specs.Prelude.{◌≡◌, ℕ, false, Some, List, ◌∷◌, ◌++◌, slice_get}
use Rattle.fb_outputs.specs.Steps.{is_power}
use Rattle.plc_types.specs.declared.inputs.Inputs.{Inputs}
use Rattle.plc_types.specs.declared.outputs.Outputs.{Outputs}
use Rattle.motion_history.specs.Entries.{Entry, call, cycle, end_of}
use Rattle.motion_history.specs.Setup.{Setup}
use Rattle.motion_history.specs.declared.config.BlockDef.{BlockDef}
use Rattle.motion_kernel.specs.calls.Calls.{after_call}
use Rattle.motion_laws.specs.entries.Errors.{ErrorsShow}
use Rattle.motion_laws.specs.entries.Events.{GoByEvents}
use Rattle.motion_laws.specs.entries.Numbers.{ErrorsAreTold}
use Rattle.motion_kernel.specs.Histories.{after, machine_after}
use Rattle.motion_kernel.specs.Machine.{Machine}
use Rattle.motion_laws.specs.owners.Shown.{AreWhereShown, ShowsCommand}
use Rattle.motion_laws.specs.entries.Refusals.{IsRefusalNumber, IsRefused, machine_refused}
use Rattle.motion_laws.specs.entries.Replies.{IsReplyOf}
use Rattle.motion_laws.specs.entries.Rows.{RowsShow}

-- a call is answered: its reply is one of its block, and shows what command the block has then; and
-- where it is refused, by the number of a refusal, nothing has changed but its instance
pub record IsAnswered (s : Setup) (m : Machine) (k : ℕ) (i : Inputs) (reply : Outputs)
    : Type 0 where
  pub reply_of : (b : BlockDef) → slice_get s.blocks k ≡ Some b → IsReplyOf b i reply
  pub shows : (b : BlockDef) → slice_get s.blocks k ≡ Some b → is_power b.kind ≡ false →
      ShowsCommand (after_call s m k i) k b reply
  pub refused : IsRefused m k i reply → after_call s m k i ≡ machine_refused k reply.error_id m
  pub number : IsRefused m k i reply → IsRefusalNumber reply.error_id

-- other entries have no reply
abbrev pub KeepsReply : Setup → Machine → Entry → Type 0
KeepsReply s m (call k i reply) = IsAnswered s m k i reply
KeepsReply s m (cycle n rows grows) = Unit {0}
KeepsReply s m (end_of task) = Unit {0}

-- a call is answered, the states change by their events, commands are where their instances show,
-- the rows show the machine, and errors exactly in the states of errors, and errors are reported as
-- they are shown
pub record KeepsEntry (s : Setup) (m : Machine) (e : Entry) : Type 0 where
  pub reply : KeepsReply s m e
  pub states : GoByEvents s m e
  pub commands : AreWhereShown s (after s m e)
  pub rows : RowsShow (after s m e) e
  pub errors : ErrorsShow e
  pub told : ErrorsAreTold s m e

-- so it is with each entry after those before it
abbrev pub KeepsEntries : Setup → List Entry → Type 0
KeepsEntries s es = (made more : List Entry) (e : Entry) → es ≡ made ++ e ∷ more →
    KeepsEntry s (machine_after s made) e
