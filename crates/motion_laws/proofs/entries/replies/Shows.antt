-- Each reply of a past shows what command its block has after the call.
-- for: replies_show_commands
use Rattle.std.specs.Prelude.{◌≡◌, refl, ◌⊎◌, ℕ, zero, suc, Bool, true, false, ◌&&◌, if◌then◌else◌, Some, List, [], ◌∷◌, ◌++◌, slice_get, slice_set}
use Rattle.std.proofs.Common.{ap, sym, subst, ◌∙◌, inl, inr}
use Rattle.std.proofs.lemmas.List.{append_assoc}
use Rattle.command_pool.specs.declared.ending.Finish.{Finish}
use Rattle.command_pool.specs.declared.ending.Finish.TheVariants as finish
use Rattle.fb_outputs.specs.InstanceState.{InstanceState}
use Rattle.fb_outputs.specs.Steps as instance
use Rattle.fb_outputs.specs.Steps.{is_power, is_stop, outputs_by, outputs_of, result_of}
use Rattle.plc_types.specs.declared.inputs.Inputs.{Inputs}
use Rattle.fb_outputs.specs.declared.instance.Progress.{Progress}
use Rattle.fb_outputs.specs.declared.instance.Progress.TheVariants.{Active, Ended, Idle, Waiting}
use Rattle.plc_types.specs.declared.outputs.Outputs.{Outputs}
use Rattle.motion_history.specs.Entries.{Entry, call}
use Rattle.motion_history.specs.Setup.{IsSetup, Setup}
use Rattle.motion_history.specs.declared.config.BlockDef.{BlockDef}
use Rattle.motion_kernel.specs.Histories.{IsPast, machine_after}
use Rattle.motion_kernel.specs.Machine.{Machine, instance_at}
use Rattle.motion_kernel.specs.calls.Calls.{after_call, called, reply_of}
use Rattle.motion_kernel.specs.kept.Machine.{AreWhole, IsMachineKept}
use Rattle.motion_kernel.proofs.kept.Laws.{ConfigurationsAreSound}
use Rattle.motion_kernel.proofs.kept.Machine.{MachinesStayKept}
use Rattle.motion_laws.specs.entries.Replies.{AreOfBlocks}
use Rattle.motion_kernel.specs.owners.Commands.{active_at, active_shown, commands_at, commands_shown}
use Rattle.motion_kernel.specs.owners.Objects.{IsThere, object_of}
use Rattle.motion_laws.specs.owners.Shown.{AreWhereShown, ShowsCommand}
use Rattle.motion_laws.proofs.Histories.{past_kept, past_so_far}
use Rattle.motion_laws.proofs.owners.active.Calls.{reply_active}
use Rattle.motion_laws.proofs.owners.commands.Calls.{reply_shown}
use Rattle.motion_laws.proofs.results.Comes.{after_more}
use Rattle.motion_laws.proofs.results.Outputs.{by_progress, called_kind}
use Rattle.motion_laws.proofs.results.Replied.{blocks_after, last_reply}
use Rattle.motion_laws.proofs.results.outcomes.Entries.{commands_there, object_there}

-- outputs show how far a command is
record ShowsProgress (stop : Bool) (o : Outputs) (p : Progress) : Type 0 where
  busy : o.busy ≡ true → commands_shown p ≡ 1
  has : commands_shown p ≡ 1 → o.busy ≡ true
  active : o.active ≡ true → (active_shown p ≡ 1) ⊎ ((stop ≡ true) × (o.done ≡ true))
  leads : active_shown p ≡ 1 → o.active ≡ true

-- a result shows no command, but that a Stop holds
holding : (stop execute reached : Bool) → (stop && execute && reached) ≡ true → stop ≡ true
holding true execute reached h = refl
holding false execute reached h = h

result_shows : (stop execute reached : Bool) (f : Finish) (shown : Bool) → ShowsProgress stop (result_of (stop && execute && reached) f) (Ended f shown)
result_shows stop execute reached finish.Done shown = record {
  busy = λ h. absurd (cc);
  has = λ h. absurd (cc);
  active = λ h. inr (holding stop execute reached h, refl);
  leads = λ h. absurd (cc);
}
result_shows stop execute reached finish.Aborted shown = record {
  busy = λ h. absurd (cc);
  has = λ h. absurd (cc);
  active = λ h. absurd (cc);
  leads = λ h. absurd (cc);
}
result_shows stop execute reached (finish.Error n) shown = record {
  busy = λ h. absurd (cc);
  has = λ h. absurd (cc);
  active = λ h. absurd (cc);
  leads = λ h. absurd (cc);
}

outputs_show : (stop execute reached : Bool) (p : Progress) → ShowsProgress stop (outputs_by stop execute reached p) p
outputs_show stop execute reached Idle = record {
  busy = λ h. absurd (cc);
  has = λ h. absurd (cc);
  active = λ h. absurd (cc);
  leads = λ h. absurd (cc);
}
outputs_show stop execute reached Waiting = record {
  busy = λ h. refl;
  has = λ h. refl;
  active = λ h. absurd (cc);
  leads = λ h. absurd (cc);
}
outputs_show stop execute reached Active = record {
  busy = λ h. refl;
  has = λ h. refl;
  active = λ h. inl refl;
  leads = λ h. refl;
}
outputs_show stop execute reached (Ended f shown) = result_shows stop execute reached f shown

-- a result that was shown is no command as before
commands_replied : (is : List InstanceState) (k : ℕ) →
    commands_shown (instance_at (slice_set is k (instance.shown (instance_at is k))) k).progress ≡ commands_shown (instance_at is k).progress
commands_replied [] k = refl
commands_replied (v ∷ vs) zero = reply_shown v.progress
commands_replied (v ∷ vs) (suc k) = commands_replied vs k

active_replied : (is : List InstanceState) (k : ℕ) →
    active_shown (instance_at (slice_set is k (instance.shown (instance_at is k))) k).progress ≡ active_shown (instance_at is k).progress
active_replied [] k = refl
active_replied (v ∷ vs) zero = reply_active v.progress
active_replied (v ∷ vs) (suc k) = active_replied vs k

-- the outputs of an instance that is no Power
no_power : (v : InstanceState) → is_power v.kind ≡ false → ShowsProgress (is_stop v.kind) (outputs_of v) v.progress
no_power v other =
    subst (λ (o : Outputs). ShowsProgress (is_stop v.kind) o v.progress)
    (sym (by_progress v other)) (outputs_show (is_stop v.kind) v.execute v.reached v.progress)

-- a reply and the machine after it
reply_shows : (s : Setup) (m : Machine) (k : ℕ) (i : Inputs) (b : BlockDef) → slice_get s.blocks k ≡ Some b → is_power b.kind ≡ false →
    AreOfBlocks s m.instances → IsThere (after_call s m k i) (object_of b) → AreWhereShown s (after_call s m k i) →
    ShowsCommand (after_call s m k i) k b (reply_of s m k i)
reply_shows s m k i b at other blocks there shown =
    let x = called s k i m in
    let v = instance_at x.instances k in
    let y = after_call s m k i in
    let o = object_of b in
    let on = commands_there s k b at other in
    let kind_is = called_kind s m k i b blocks at in
    let by = no_power v (ap is_power kind_is ∙ other) in
    let count : commands_at y k o ≡ commands_shown v.progress =
    shown.commands k o there ∙ ap (λ t. if t then commands_shown (instance_at y.instances k).progress else 0) on ∙ commands_replied x.instances k in
    let leading : active_at y k o ≡ active_shown v.progress =
    shown.active k o there ∙ ap (λ t. if t then active_shown (instance_at y.instances k).progress else 0) on ∙ active_replied x.instances k in
    record {
      busy = λ h. count ∙ by.busy h;
      has = λ h. by.has (sym count ∙ h);
      active = λ h. elim (by.active h) [
        | inl a ↦ inl (leading ∙ a)
        | inr d ↦ inr (record { stop = ap is_stop (sym kind_is) ∙ d.0; done = d.1 })
      ];
      leads = λ h. by.leads (sym leading ∙ h);
    }

-- and so each reply of a history
pub entry_shows : MachinesStayKept → ConfigurationsAreSound →
    ((s : Setup) (es : List Entry) → IsSetup s → AreWhole s → IsPast s es → AreWhereShown s (machine_after s es)) →
    (s : Setup) (made more : List Entry) (k : ℕ) (i : Inputs) (reply : Outputs) (b : BlockDef) → IsSetup s → AreWhole s →
    IsPast s (made ++ call k i reply ∷ more) → slice_get s.blocks k ≡ Some b → is_power b.kind ≡ false →
    ShowsCommand (after_call s (machine_after s made) k i) k b reply
unfolding machine_after
entry_shows machines sound owners s made more k i reply b setup whole past at other =
    let so_far = made ++ call k i reply ∷ [] in
    let m = machine_after s made in
    let y = after_call s m k i in
    let past_here = past_so_far s so_far more (subst (IsPast s) (sym (append_assoc made (call k i reply ∷ []) more)) past) in
    let is : machine_after s so_far ≡ y = after_more s made [] (call k i reply) in
    let shown : AreWhereShown s y = subst (AreWhereShown s) is (owners s so_far setup whole past_here) in
    let kept : IsMachineKept s y = subst (IsMachineKept s) is (past_kept machines s so_far setup whole past_here) in
    subst (ShowsCommand y k b) (sym (last_reply s made k i reply past_here))
    (reply_shows s m k i b at other (blocks_after s made) (object_there sound s y k b kept at) shown)
