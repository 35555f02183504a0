-- Each reply of a past reports one result.
-- for: replies_tell_one_result, replies_show_commands, results_are_told and others
use Rattle.std.specs.Prelude.{◌≡◌, refl, ℕ, zero, suc, ◌<◌, Bool, true, ◌&&◌, Some, List, [], ◌∷◌, ◌++◌, length, slice_get, slice_set}
use Rattle.std.proofs.Common.{arith, ap, sym, subst, ◌∙◌}
use Rattle.std.proofs.lemmas.List.{get_or-set_same}
use Rattle.fb_outputs.specs.InstanceState.{InstanceState}
use Rattle.fb_outputs.specs.Replies as replies
use Rattle.fb_outputs.specs.Replies.{Happening, IsReply, after_all, is_error_number, may_hold}
use Rattle.fb_outputs.specs.Steps as instance
use Rattle.fb_outputs.specs.Steps.{finished, is_stop, opened, outputs_of, started, with_reached}
use Rattle.plc_types.specs.declared.inputs.Inputs.{Inputs}
use Rattle.plc_types.specs.declared.outputs.Outputs.{Outputs}
use Rattle.motion_history.specs.Entries.{Entry, call, cycle, end_of}
use Rattle.motion_history.specs.Setup.{Setup, IsSetup}
use Rattle.motion_history.specs.declared.config.BlockDef.{BlockDef}
use Rattle.motion_kernel.specs.calls.Calls.{after_call, called, reply_of}
use Rattle.motion_kernel.specs.cycles.Cycles.{after_cycle}
use Rattle.motion_kernel.specs.Histories.{IsPast, inputs_of, replay}
use Rattle.motion_kernel.specs.Machine.{Machine, instance_at, machine_at_opening, no_instance}
use Rattle.motion_kernel.specs.kept.Machine.{AreWhole}
use Rattle.motion_laws.specs.entries.Replies.{AreOfBlocks, HasHappened, IsReplyOf}
use Rattle.motion_laws.proofs.entries.refusals.Calls.{call_in}
use Rattle.motion_laws.proofs.Histories.{past_kept, past_so_far}
use Rattle.motion_laws.proofs.entries.replies.Commands.{InstancesTellOne, ReplyLaws, Stays, call_stays}
use Rattle.motion_laws.proofs.entries.replies.Entries.{opening_of_blocks, called_of_blocks, call_of_blocks, cycle_of_blocks}

-- the instance that is called has the call's Execute up to its reply
abbrev HasExecute : ℕ → Bool → List InstanceState → Type 0
HasExecute k execute is = (instance_at is k).execute ≡ execute

one_written : (is : List InstanceState) (j k : ℕ) (i : InstanceState) (execute : Bool) → i.execute ≡
    (instance_at is j).execute → HasExecute k execute is →
    HasExecute k execute (slice_set is j i)
one_written [] j k i execute same h = h
one_written (x ∷ xs) zero zero i execute same h = same ∙ h
one_written (x ∷ xs) zero (suc k) i execute same h = h
one_written (x ∷ xs) (suc j) zero i execute same h = h
one_written (x ∷ xs) (suc j) (suc k) i execute same h = one_written xs j k i execute same h

execute_stays : (k : ℕ) (execute : Bool) → Stays (HasExecute k execute)
execute_stays k execute = record {
  ends = λ is j f n h. one_written is j k (finished (instance_at is j) f) execute refl h;
  starts = λ is j active h. one_written is j k (started (instance_at is j) active) execute refl h;
}

executed : (s : Setup) (m : Machine) (k : ℕ) (i : Inputs) (b : BlockDef) →
    slice_get s.blocks k ≡ Some b → k < length m.instances →
    HasExecute k i.execute (called s k i m).instances
executed s m k i b at l =
    call_stays (HasExecute k i.execute) (execute_stays k i.execute) s k i m (λ none. absurd (cc))
    (ap (λ (x : InstanceState). x.execute)
    (get_or-set_same m.instances k
    (instance.called (instance_at m.instances k) i.execute) no_instance l))

-- what happens to an instance leaves its kind
pub kind_after : (i : InstanceState) (hs : List Happening) → (after_all i hs).kind ≡ i.kind
kind_after i [] = refl
kind_after i (replies.call execute ∷ hs) = kind_after (instance.called i execute) hs
kind_after i (replies.start active ∷ hs) = kind_after (started i active) hs
kind_after i (replies.ending f ∷ hs) = kind_after (finished i f) hs
kind_after i (replies.cycle reached ∷ hs) = kind_after (with_reached i reached) hs
kind_after i (replies.reply ∷ hs) = kind_after (instance.shown i) hs

-- so its reply reports one result
replies_so : InstancesTellOne → (b : BlockDef) (i : Inputs) (j : InstanceState) →
    HasHappened b.kind j → j.execute ≡ i.execute → IsReplyOf b i (outputs_of j)
replies_so laws b i j h e =
    let a = after_all (opened b.kind) h.happenings in
    let kind : j.kind ≡ b.kind = ap (λ (x : InstanceState). x.kind) h.is ∙ kind_after
    (opened b.kind) h.happenings in
    let holds : may_hold j ≡ is_stop b.kind && i.execute = λ x. is_stop (kind x) && e x in
    let single : IsReply (may_hold j) (outputs_of j) =
    subst (λ (x : InstanceState). IsReply (may_hold x) (outputs_of x)) (sym h.is)
    (laws.single b.kind h.happenings) in
    record {
      single = subst (λ x. IsReply x (outputs_of j)) holds single;
      numbered = subst (λ (x : InstanceState). (outputs_of x).error ≡ true → is_error_number
          (outputs_of x).error_id ≡ true) (sym h.is)
          (laws.numbered b.kind h.happenings h.numbered);
    }

pub reply_of_block : InstancesTellOne → (s : Setup) (m : Machine) (k : ℕ) (i : Inputs)
    (b : BlockDef) → AreOfBlocks s m.instances →
    k < length m.instances → slice_get s.blocks k ≡ Some b → IsReplyOf b i (reply_of s m k i)
reply_of_block laws s m k i b all l at =
    replies_so laws b i (instance_at (called s k i m).instances k)
    (called_of_blocks s m k i all k b at) (executed s m k i b at l)

-- and so each reply of a history
pub replay_of_blocks : (s : Setup) (m : Machine) (es : List Entry) → AreOfBlocks s m.instances →
    AreOfBlocks s (replay s m es).instances
replay_of_blocks s m [] h = h
replay_of_blocks s m (call k i reply ∷ es) h = replay_of_blocks s (after_call s m k i) es
    (call_of_blocks s m k i h)
replay_of_blocks s m (cycle n rows grows ∷ es) h = replay_of_blocks s
    (after_cycle s m (inputs_of rows)) es (cycle_of_blocks s m (inputs_of rows) h)
replay_of_blocks s m (end_of task ∷ es) h = replay_of_blocks s m es h

pub entry_of_block : ReplyLaws → (s : Setup) (made more : List Entry) (k : ℕ) (i : Inputs)
    (reply : Outputs) (b : BlockDef) → IsSetup s → AreWhole s →
    IsPast s (made ++ call k i reply ∷ more) → slice_get s.blocks k ≡ Some b → IsReplyOf b i reply
entry_of_block laws s made more k i reply b setup whole past at =
    let m = replay s (machine_at_opening s) made in
    let kept = past_kept laws.machines s made setup whole
    (past_so_far s made (call k i reply ∷ more) past) in
    let sizes = kept.sized in
    let size = sizes.instances in
    let one = call_in s 0 (machine_at_opening s) made more k i reply past.follows in
    let is = one.made in
    let there = is.there in
    let all = replay_of_blocks s (machine_at_opening s) made (opening_of_blocks s) in
    subst (IsReplyOf b i) (sym one.answered) (reply_of_block laws.instances s m k i b all
    (omega arith) at)
