-- A result that a reply reports stays while Execute is true, and goes with it.
-- for: results_stay_shown, done_moves_are_at_their_targets, commands_end_by_their_kinds and others
use Rattle.std.specs.Prelude.{◌≡◌, refl, ℕ, Bool, true, false, Some, List, [], ◌∷◌, ◌++◌, slice_get}
use Rattle.std.proofs.Common.{ap, sym, subst, ◌∙◌}
use Rattle.std.proofs.lemmas.List.{append-nil, append_assoc}
use Rattle.command_pool.specs.declared.ending.Finish.{Finish}
use Rattle.fb_outputs.specs.Steps.{edge_of, is_power}
use Rattle.plc_types.specs.declared.inputs.Inputs.{Inputs}
use Rattle.fb_outputs.specs.declared.instance.Progress.TheVariants.{Ended, Idle}
use Rattle.plc_types.specs.declared.outputs.Outputs.{Outputs}
use Rattle.motion_history.specs.Entries.{Entry, call}
use Rattle.motion_history.specs.Setup.{Setup, IsSetup}
use Rattle.motion_history.specs.declared.config.BlockDef.{BlockDef}
use Rattle.motion_kernel.proofs.kept.Machine.{MachinesStayKept}
use Rattle.motion_kernel.specs.Histories.{IsPast, machine_after}
use Rattle.motion_kernel.specs.Machine.{Machine, instance_at}
use Rattle.motion_kernel.specs.calls.Calls.{reply_of, with_execute}
use Rattle.motion_kernel.specs.kept.Machine.{AreWhole, IsMachineKept}
use Rattle.motion_kernel.specs.owners.Commands.{commands_shown}
use Rattle.motion_laws.specs.results.Comes.{ResultsGo, ResultsStay}
use Rattle.motion_laws.specs.results.Outcomes.{progress_at, progress_by_edge}
use Rattle.motion_laws.specs.results.Results.{AreNoCalls, ResultsAreTold, Tells}
use Rattle.motion_laws.proofs.Histories.{past_kept, past_so_far}
use Rattle.motion_laws.proofs.results.Comes.{after_more}
use Rattle.motion_laws.proofs.results.Outputs.{progress_called, reply_shows_nothing, reply_tells}
use Rattle.motion_laws.proofs.results.Replied.{blocks_after, first_ended, last_reply}

-- entries that are no calls of an instance leave its end
still_ended : (s : Setup) (all pre between post : List Entry) (k : ℕ) (f : Finish) → ResultsAreTold s all → all ≡ pre ++ (between ++ post) →
    AreNoCalls k between → progress_at (machine_after s pre) k ≡ Ended f true → progress_at (machine_after s (pre ++ between)) k ≡ Ended f true
still_ended s all pre [] post k f told is none h = ap (λ es. progress_at (machine_after s es) k) (append-nil pre) ∙ h
still_ended s all pre (e ∷ es) post k f told is none h =
    let same = (told pre (es ++ post) e k is).untold (ap commands_shown h) none.0 in
    let now : progress_at (machine_after s (pre ++ e ∷ [])) k ≡ progress_at (machine_after s pre) k =
    ap (λ m. progress_at m k) (after_more s pre [] e) ∙ same in
    subst (λ xs. progress_at (machine_after s xs) k ≡ Ended f true) (append_assoc pre (e ∷ []) es)
    (still_ended s all (pre ++ e ∷ []) es post k f told (is ∙ sym (append_assoc pre (e ∷ []) (es ++ post))) none.1 (now ∙ h))

-- the machine of a past is kept
pub machine_kept : MachinesStayKept → (s : Setup) (es : List Entry) → IsSetup s → AreWhole s → IsPast s es → IsMachineKept s (machine_after s es)
unfolding machine_after
machine_kept laws s es setup whole past = past_kept laws s es setup whole past

-- where results are reported
abbrev pub AllAreTold : Type 0
AllAreTold = (s : Setup) (es : List Entry) → IsSetup s → AreWhole s → IsPast s es → ResultsAreTold s es

-- the next call of an instance after a reply that reported a result: this still stands, and the
-- reply is as the call leaves it
record IsCalledAgain (s : Setup) (m : Machine) (k : ℕ) (next : Inputs) (later : Outputs) (b : BlockDef) (f : Finish) : Type 0 where
  other : is_power b.kind ≡ false
  kept : IsMachineKept s m
  ended : progress_at m k ≡ Ended f true
  reply : later ≡ reply_of s m k next

called_again : MachinesStayKept → AllAreTold → (s : Setup) (es : List Entry) → IsSetup s → AreWhole s → IsPast s es →
    (made between more : List Entry) (k : ℕ) (i next : Inputs) (reply later : Outputs) (b : BlockDef) (f : Finish) →
    es ≡ made ++ call k i reply ∷ (between ++ call k next later ∷ more) → slice_get s.blocks k ≡ Some b → AreNoCalls k between → Tells f reply →
    IsCalledAgain s (machine_after s (made ++ call k i reply ∷ between)) k next later b f
called_again machines told s es setup whole past made between more k i next reply later b f is at none tells =
    let first = made ++ call k i reply ∷ [] in
    let pre = made ++ call k i reply ∷ between in
    let rest = between ++ call k next later ∷ more in
    let all : es ≡ first ++ rest = is ∙ sym (append_assoc made (call k i reply ∷ []) rest) in
    let joined : first ++ between ≡ pre = append_assoc made (call k i reply ∷ []) between in
    let split : es ≡ pre ++ call k next later ∷ more = is ∙ sym (append_assoc made (call k i reply ∷ between) (call k next later ∷ more)) in
    let ended = first_ended s made k i reply b f at (past_so_far s first rest (subst (IsPast s) all past)) tells in
    let past_here : IsPast s (pre ++ call k next later ∷ []) =
    past_so_far s (pre ++ call k next later ∷ []) more (subst (IsPast s) (split ∙ sym (append_assoc pre (call k next later ∷ []) more)) past) in
    record {
      other = ended.other;
      kept = machine_kept machines s pre setup whole (past_so_far s pre (call k next later ∷ []) past_here);
      ended = subst (λ xs. progress_at (machine_after s xs) k ≡ Ended f true) joined
          (still_ended s es first between (call k next later ∷ more) k f (told s es setup whole past) all none ended.after);
      reply = last_reply s pre k next later past_here;
    }

-- with Execute still true the result stays
pub results_stay : MachinesStayKept → AllAreTold → (s : Setup) (es : List Entry) → IsSetup s → AreWhole s → IsPast s es → ResultsStay s es
results_stay machines told s es setup whole past made between more k i next reply later b f is at none high tells =
    let pre = made ++ call k i reply ∷ between in
    let m = machine_after s pre in
    let again = called_again machines told s es setup whole past made between more k i next reply later b f is at none tells in
    let still : progress_called s m k next b ≡ Ended f true =
    ap (λ e. progress_by_edge s e k b next (with_execute k next m) (progress_at m k)) high ∙ again.ended in
    subst (Tells f) (sym again.reply) (reply_tells s m k next b again.kept.sized (blocks_after s pre) at again.other f true still)

-- with Execute false it goes
gone : (s : Setup) (k : ℕ) (b : BlockDef) (i : Inputs) (y : Machine) (a c : Bool) (f : Finish) → c ≡ false →
    progress_by_edge s (edge_of a c) k b i y (Ended f true) ≡ Idle
gone s k b i y a true f e = absurd (cc)
gone s k b i y true false f e = refl
gone s k b i y false false f e = refl

pub results_go : MachinesStayKept → AllAreTold → (s : Setup) (es : List Entry) → IsSetup s → AreWhole s → IsPast s es → ResultsGo s es
results_go machines told s es setup whole past made between more k i next reply later b f is at none ends tells =
    let pre = made ++ call k i reply ∷ between in
    let m = machine_after s pre in
    let before = (instance_at m.instances k).execute in
    let y = with_execute k next m in
    let again = called_again machines told s es setup whole past made between more k i next reply later b f is at none tells in
    let idle : progress_called s m k next b ≡ Idle =
    ap (progress_by_edge s (edge_of before next.execute) k b next y) again.ended ∙ gone s k b next y before next.execute f ends in
    again.reply ∙ reply_shows_nothing s m k next b again.kept.sized (blocks_after s pre) at again.other idle
