-- Each reply that gives a result comes of an end.
-- for: replies_show_commands, results_come_of_ends, results_stay_shown and others
use Rattle.std.specs.Prelude.{◌≡◌, ℕ, zero, suc, true, false, Some, List, [], ◌∷◌, ◌++◌, slice_get, slice_set}
use Rattle.std.proofs.Common.{ap, sym, subst, ◌∙◌}
use Rattle.std.proofs.lemmas.List.{append_assoc}
use Rattle.command_pool.specs.declared.ending.Finish.{Finish}
use Rattle.fb_outputs.specs.InstanceState.{InstanceState}
use Rattle.fb_outputs.specs.Steps as instance
use Rattle.fb_outputs.specs.Steps.{is_power, shown_progress}
use Rattle.plc_types.specs.declared.inputs.Inputs.{Inputs}
use Rattle.fb_outputs.specs.declared.instance.Progress.TheVariants.{Ended, Idle}
use Rattle.plc_types.specs.declared.outputs.Outputs.{Outputs}
use Rattle.motion_history.specs.Entries.{Entry, call}
use Rattle.motion_history.specs.Setup.{Setup, IsSetup}
use Rattle.motion_history.specs.declared.config.BlockDef.{BlockDef}
use Rattle.motion_kernel.specs.Histories.{IsPast, machine_after}
use Rattle.motion_kernel.specs.Machine.{instance_at, machine_at_opening}
use Rattle.motion_kernel.specs.calls.Calls.{called, reply_of}
use Rattle.motion_kernel.specs.kept.Machine.{AreWhole}
use Rattle.motion_laws.specs.entries.Replies.{AreOfBlocks}
use Rattle.motion_laws.specs.results.Comes.{ResultsCome}
use Rattle.motion_laws.specs.results.Outcomes.{progress_at}
use Rattle.motion_laws.specs.results.Results.{Tells}
use Rattle.motion_laws.proofs.Histories.{past_so_far}
use Rattle.motion_laws.proofs.arrivals.Moves.{behind}
use Rattle.motion_laws.proofs.entries.replies.Entries.{opening_of_blocks}
use Rattle.motion_laws.proofs.entries.replies.Histories.{replay_of_blocks}
use Rattle.motion_laws.proofs.results.outcomes.Histories.{EntriesMakeOutcomes}
use Rattle.motion_laws.proofs.results.Comes.{HasEndedSo, after_more, ends_come, told_end}
use Rattle.motion_laws.proofs.results.Outputs.{called_kind}

-- an end that is shown stays
shown_so : (f : Finish) (v : InstanceState) → HasEndedSo f v.progress → (instance.shown v).progress ≡ Ended f true
shown_so f v h = ap shown_progress h.is

replied_so : (f : Finish) (is : List InstanceState) (k : ℕ) → HasEndedSo f (instance_at is k).progress →
    (instance_at (slice_set is k (instance.shown (instance_at is k))) k).progress ≡ Ended f true
replied_so f [] k h = absurd (let e : Idle ≡ Ended f h.shown = h.is in cc)
replied_so f (v ∷ vs) zero h = shown_so f v h
replied_so f (v ∷ vs) (suc k) h = replied_so f vs k h

-- the instances of a history are of their blocks
pub blocks_after : (s : Setup) (es : List Entry) → AreOfBlocks s (machine_after s es).instances
unfolding machine_after
blocks_after s es = replay_of_blocks s (machine_at_opening s) es (opening_of_blocks s)

-- the reply of the last call
pub last_reply : (s : Setup) (made : List Entry) (k : ℕ) (i : Inputs) (reply : Outputs) → IsPast s (made ++ call k i reply ∷ []) →
    reply ≡ reply_of s (machine_after s made) k i
unfolding machine_after
last_reply s made k i reply past = (behind s 0 (machine_at_opening s) made (call k i reply ∷ []) past.follows).0.1

-- a reply that gives an end is one of a block that is no Power, and its instance then shows it
pub record EndsAt (s : Setup) (made : List Entry) (k : ℕ) (i : Inputs) (reply : Outputs) (b : BlockDef) (f : Finish) : Type 0 where
  pub other : is_power b.kind ≡ false
  pub after : progress_at (machine_after s (made ++ call k i reply ∷ [])) k ≡ Ended f true

pub first_ended : (s : Setup) (made : List Entry) (k : ℕ) (i : Inputs) (reply : Outputs) (b : BlockDef) (f : Finish) → slice_get s.blocks k ≡ Some b →
    IsPast s (made ++ call k i reply ∷ []) → Tells f reply → EndsAt s made k i reply b f
first_ended s made k i reply b f at past tells =
    let m = machine_after s made in
    let x = called s k i m in
    let v = instance_at x.instances k in
    let told = told_end f v (subst (Tells f) (last_reply s made k i reply past) tells) in
    record {
      other = ap is_power (sym (called_kind s m k i b (blocks_after s made) at)) ∙ told.0;
      after = ap (λ y. progress_at y k) (after_more s made [] (call k i reply)) ∙ replied_so f x.instances k told.1;
    }

pub results_come : EntriesMakeOutcomes → (s : Setup) (es : List Entry) → IsSetup s → AreWhole s → IsPast s es → ResultsCome s es
results_come make s es setup whole past made more k i reply b f is at tells =
    let so_far = made ++ call k i reply ∷ [] in
    let split : es ≡ so_far ++ more = is ∙ sym (append_assoc made (call k i reply ∷ []) more) in
    let past_here = past_so_far s so_far more (subst (IsPast s) split past) in
    let ended = first_ended s made k i reply b f at past_here tells in
    ends_come s k b so_far (λ before behind e split_so. make s before behind e k b setup whole (subst (IsPast s) split_so past_here) at ended.other) f
    (record { shown = true; is = ended.after })
