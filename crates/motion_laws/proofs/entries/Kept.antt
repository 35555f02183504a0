-- What each entry of a past keeps.
-- for: entries_keep_their_laws
use Rattle.std.specs.Prelude.{◌≡◌, refl, ℕ, false, Some, List, [], ◌∷◌, ◌++◌, slice_get}
use Rattle.std.proofs.Common.{ap, sym, subst, ◌∙◌}
use Rattle.fb_outputs.specs.Steps.{is_power}
use Rattle.plc_types.specs.declared.inputs.Inputs.{Inputs}
use Rattle.plc_types.specs.declared.outputs.Outputs.{Outputs}
use Rattle.motion_history.specs.Entries.{Entry, call, cycle, end_of}
use Rattle.motion_history.specs.Setup.{Setup, IsSetup}
use Rattle.motion_history.specs.declared.config.BlockDef.{BlockDef}
use Rattle.motion_laws.specs.entries.Errors.{ErrorsShow}
use Rattle.motion_laws.specs.entries.Events.{GoByEvents}
use Rattle.motion_laws.specs.entries.Numbers.{ErrorsAreTold}
use Rattle.motion_laws.specs.entries.Kept.{KeepsEntries, KeepsEntry, KeepsReply}
use Rattle.motion_kernel.specs.Histories.{IsPast, after, machine_after}
use Rattle.motion_kernel.specs.Machine.{machine_at_opening}
use Rattle.motion_kernel.specs.calls.Calls.{after_call}
use Rattle.motion_kernel.specs.kept.Machine.{AreWhole}
use Rattle.motion_laws.specs.owners.Shown.{AreWhereShown, ShowsCommand}
use Rattle.motion_laws.specs.entries.Refusals.{IsRefusalNumber, IsRefused, machine_refused}
use Rattle.motion_laws.specs.entries.Replies.{IsReplyOf}
use Rattle.motion_laws.specs.entries.Rows.{RowsShow}
use Rattle.motion_kernel.proofs.Segments.{replay_append}
use Rattle.motion_laws.proofs.Histories.{past_so_far}

-- the laws of entries
pub record EntryLaws : Type 0 where
  pub refusals : (s : Setup) (made more : List Entry) (k : ℕ) (i : Inputs) (reply : Outputs) →
      IsPast s (made ++ call k i reply ∷ more) →
      IsRefused (machine_after s made) k i reply → machine_after s (made ++ call k i reply ∷ [])
      ≡ machine_refused k reply.error_id (machine_after s made)
  pub numbers : (s : Setup) (made more : List Entry) (k : ℕ) (i : Inputs) (reply : Outputs) →
      IsPast s (made ++ call k i reply ∷ more) →
      IsRefused (machine_after s made) k i reply → IsRefusalNumber reply.error_id
  pub shows : (s : Setup) (made more : List Entry) (k : ℕ) (i : Inputs) (reply : Outputs)
      (b : BlockDef) → IsSetup s → AreWhole s → IsPast s (made ++ call k i reply ∷ more) →
      slice_get s.blocks k ≡ Some b → is_power b.kind ≡ false →
      ShowsCommand (after_call s (machine_after s made) k i) k b reply
  pub replies : (s : Setup) (made more : List Entry) (k : ℕ) (i : Inputs) (reply : Outputs)
      (b : BlockDef) → IsSetup s → AreWhole s →
      IsPast s (made ++ call k i reply ∷ more) → slice_get s.blocks k ≡ Some b →
      IsReplyOf b i reply
  pub states : (s : Setup) (made more : List Entry) (e : Entry) → IsSetup s → AreWhole s → IsPast s
      (made ++ e ∷ more) →
      GoByEvents s (machine_after s made) e
  pub commands : (s : Setup) (es : List Entry) → IsSetup s → AreWhole s → IsPast s es →
      AreWhereShown s (machine_after s es)
  pub rows : (s : Setup) (made more : List Entry) (e : Entry) → IsSetup s → AreWhole s →
      IsPast s (made ++ e ∷ more) → RowsShow (after s (machine_after s made) e) e
  pub errors : (s : Setup) (made more : List Entry) (e : Entry) → IsSetup s → AreWhole s →
      IsPast s (made ++ e ∷ more) → ErrorsShow e
  pub told : (s : Setup) (made more : List Entry) (e : Entry) → IsSetup s → AreWhole s →
      IsPast s (made ++ e ∷ more) → ErrorsAreTold s (machine_after s made) e

-- the machine after one entry more
one_more : (s : Setup) (made : List Entry) (e : Entry) → machine_after s (made ++ e ∷ []) ≡ after s
    (machine_after s made) e
unfolding machine_after
one_more s made e = replay_append s (machine_at_opening s) made (e ∷ [])

append_one : (made more : List Entry) (e : Entry) → (made ++ e ∷ []) ++ more ≡ made ++ e ∷ more
append_one [] more e = refl
append_one (x ∷ xs) more e = ap (λ ys. x ∷ ys) (append_one xs more e)

reply_kept : EntryLaws → (s : Setup) (made more : List Entry) (e : Entry) → IsSetup s → AreWhole s →
    IsPast s (made ++ e ∷ more) →
    KeepsReply s (machine_after s made) e
reply_kept laws s made more (call k i reply) setup whole past = record {
  reply_of = λ b at. laws.replies s made more k i reply b setup whole past at;
  refused = λ h. sym (one_more s made (call k i reply))
      ∙ laws.refusals s made more k i reply past h;
  shows = λ b at other. laws.shows s made more k i reply b setup whole past at other;
  number = λ h. laws.numbers s made more k i reply past h;
}
reply_kept laws s made more (cycle n rows grows) setup whole past = tt
reply_kept laws s made more (end_of task) setup whole past = tt

entry_kept : EntryLaws → (s : Setup) (made more : List Entry) (e : Entry) → IsSetup s → AreWhole s →
    IsPast s (made ++ e ∷ more) →
    KeepsEntry s (machine_after s made) e
entry_kept laws s made more e setup whole past =
    let so_far = past_so_far s (made ++ e ∷ []) more
    (subst (IsPast s) (sym (append_one made more e)) past) in
    record {
      reply = reply_kept laws s made more e setup whole past;
      states = laws.states s made more e setup whole past;
      commands = subst (AreWhereShown s) (one_more s made e)
          (laws.commands s (made ++ e ∷ []) setup whole so_far);
      rows = laws.rows s made more e setup whole past;
      errors = laws.errors s made more e setup whole past;
      told = laws.told s made more e setup whole past;
    }

pub entries_kept : EntryLaws → (s : Setup) (es : List Entry) → IsSetup s → AreWhole s →
    IsPast s es → KeepsEntries s es
entries_kept laws s es setup whole past made more e is = entry_kept laws s made more e setup whole
    (subst (IsPast s) is past)
