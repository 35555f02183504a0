-- Whoever loses its command is notified how it ended, and shows it at its next call or in its own.
-- for: results_are_told
use Rattle.std.specs.Prelude.{◌≡◌, refl, ℕ, ◌+◌, Bool, true, false, not, ◌&&◌, if◌then◌else◌, Some, List, [], ◌∷◌, ◌++◌, slice_get}
use Rattle.std.proofs.Common.{arith, ap, sym, subst, ◌∙◌}
use Rattle.command_changes.specs.Fates.{AreAxisFates, AreGroupFates}
use Rattle.command_pool.specs.declared.ending.Finish.{Finish}
use Rattle.command_pool.specs.declared.ending.Finish.TheVariants as finish
use Rattle.fb_outputs.specs.Steps.{edge_of, is_power}
use Rattle.plc_types.specs.declared.inputs.Inputs.{Inputs}
use Rattle.fb_outputs.specs.declared.instance.Progress.TheVariants.{Ended}
use Rattle.plc_types.specs.declared.outputs.Outputs.{Outputs}
use Rattle.motion_history.specs.Entries.{Entry, call, cycle, cycle_count, cycles_of, end_of}
use Rattle.motion_history.specs.Setup.{Setup, IsSetup}
use Rattle.motion_history.specs.declared.config.BlockDef.{BlockDef}
use Rattle.motion_kernel.specs.calls.Calls.{reply_of, with_execute}
use Rattle.motion_kernel.specs.Histories.{Follows, IsPast, IsOf, after, inputs_of, machine_after, replay}
use Rattle.motion_kernel.specs.Machine.{Machine, instance_at, machine_at_opening}
use Rattle.motion_kernel.specs.kept.Machine.{AreWhole, IsMachineKept}
use Rattle.motion_laws.specs.owners.Shown.{AreWhereShown}
use Rattle.motion_kernel.specs.owners.Objects.{IsThere, Object, has_commands_on, a_group, an_axis, object_of}
use Rattle.motion_kernel.specs.owners.Commands.{active_at, active_shown, commands_shown}
use Rattle.motion_laws.specs.entries.Replies.{AreOfBlocks}
use Rattle.motion_laws.specs.results.Outcomes.{IsOutcome, begins_command, end_of_command, finish_in, progress_at, progress_beside, progress_by, progress_by_call, progress_by_edge}
use Rattle.motion_laws.specs.results.Results.{AreNoCalls, KeepsResults, ResultsAreTold, Tells, TellsNext, end_in, is_call_of, is_rising}
use Rattle.motion_laws.proofs.arrivals.Moves.{behind}
use Rattle.motion_laws.proofs.owners.Shown.{call_all_shown, cycle_all_shown, past_all_shown}
use Rattle.motion_kernel.proofs.kept.Machine.{kept_by_cycle}
use Rattle.motion_kernel.proofs.owners.commands.Events.{shown_where}
use Rattle.motion_laws.proofs.entries.replies.Entries.{call_of_blocks, cycle_of_blocks, opening_of_blocks}
use Rattle.motion_laws.proofs.entries.replies.Histories.{replay_of_blocks}
use Rattle.motion_laws.proofs.Histories.{past_kept, past_so_far}
use Rattle.motion_laws.proofs.results.Spared.{call_spares, cycle_spares}
use Rattle.motion_laws.proofs.results.Answered.{answer_told}
use Rattle.motion_laws.proofs.results.Events.{HasEnded, progress_in}
use Rattle.motion_laws.proofs.results.Outputs.{reply_tells}
use Rattle.motion_laws.proofs.results.outcomes.DoneBy.{call_not_done, done_by}
use Rattle.motion_laws.proofs.results.outcomes.Fates.{same_ends}
use Rattle.motion_laws.proofs.results.outcomes.Final.{OutcomeLaws}
use Rattle.motion_laws.proofs.results.outcomes.Histories.{EntriesMakeOutcomes}
use Rattle.motion_laws.proofs.results.outcomes.Others.{call_affects}
use Rattle.motion_laws.proofs.results.outcomes.Shown.{cycle_affects, ends_as_told}

-- the laws on which it rests that results are reported
pub record TellLaws : Type 0 where
  pub outcomes : OutcomeLaws
  pub axes : AreAxisFates
  pub groups : AreGroupFates

-- a machine of a past
record IsRunning (s : Setup) (m : Machine) : Type 0 where
  kept : IsMachineKept s m
  shown : AreWhereShown s m
  blocks : AreOfBlocks s m.instances

runs_on : TellLaws → (s : Setup) (cycles : ℕ) (m : Machine) (e : Entry) → AreWhole s →
    IsRunning s m → IsOf s cycles m e → IsRunning s (after s m e)
runs_on laws s cycles m (call k i reply) whole h is = record {
  kept = laws.outcomes.owners.walk.machines.call s m k i whole is.0 h.kept;
  shown = call_all_shown laws.outcomes.owners s m k i whole is.0 h.kept h.shown;
  blocks = call_of_blocks s m k i h.blocks;
}
runs_on laws s cycles m (cycle c rows grows) whole h is = record {
  kept = kept_by_cycle laws.outcomes.owners.walk.machines s m rows grows h.kept is.1;
  shown = cycle_all_shown laws.outcomes.owners s m (inputs_of rows) h.kept h.shown;
  blocks = cycle_of_blocks s m (inputs_of rows) h.blocks;
}
runs_on laws s cycles m (end_of task) whole h is = h

-- an entry gives nothing to an instance without a command
untold_by : TellLaws → (s : Setup) (cycles : ℕ) (m : Machine) (e : Entry) (k : ℕ) → AreWhole s →
    IsRunning s m → IsOf s cycles m e → commands_shown (progress_in m.instances k) ≡ 0 →
    is_call_of k e ≡ false → progress_in (after s m e).instances k ≡ progress_in m.instances k
untold_by laws s cycles m (call j i reply) k whole h is none other =
    call_spares laws.outcomes.owners s m k j i whole is.0 h.kept h.shown.commands other none
untold_by laws s cycles m (cycle c rows grows) k whole h is none other =
    cycle_spares laws.outcomes.owners s m (inputs_of rows) k h.kept h.shown.commands none
untold_by laws s cycles m (end_of task) k whole h is none other = refl

-- whoever has commands has a block that is no Power
record HasBlock (s : Setup) (k : ℕ) : Type 0 where
  block : BlockDef
  is : slice_get s.blocks k ≡ Some block
  other : is_power block.kind ≡ false

-- whoever has the active command of an axis or a group has its block there
on_it : (s : Setup) (m : Machine) (k : ℕ) (o : Object) → IsRunning s m → IsThere m o →
    active_at m k o ≡ 1 → has_commands_on (slice_get s.blocks k) o ≡ true
on_it s m k o h there owns =
    let all = h.shown.active k o there in
    shown_where (has_commands_on (slice_get s.blocks k) o) (active_shown
    (progress_in m.instances k)) (omega arith)

-- what an end leaves of an instance
ended_by : (s : Setup) (m : Machine) (e : Entry) (k : ℕ) (o : Object) (f : Finish) →
    progress_at (after s m e) k ≡ progress_beside s m e k o → end_of_command s m e k o ≡ Some f →
    HasEnded f k (after s m e)
ended_by s m e k o f outcome ends =
    outcome ∙ ap (λ x. progress_by x (begins_command s m e k o) (progress_at m k)) ends

-- the instance that has the active command is given the end of its fate
end_by : TellLaws → (s : Setup) (cycles : ℕ) (m : Machine) (e : Entry) (k : ℕ) (o : Object) →
    AreWhole s → IsRunning s m → IsOf s cycles m e → IsThere m o → active_at m k o ≡ 1 →
    is_call_of k e ≡ false → end_of_command s m e k o ≡ end_in s m e o
end_by laws s cycles m (call j i reply) k o whole h is there owns other =
    let on = on_it s m k o h there owns in
    let affects = call_affects laws.outcomes s m j k i o whole is.0 h.kept h.shown there on other in
    ends_as_told laws.outcomes s m _ k o _ h.shown there owns affects
    ∙ same_ends laws.axes laws.groups s m (call j i reply) o
end_by laws s cycles m (cycle c rows grows) k o whole h is there owns other =
    let on = on_it s m k o h there owns in
    let affects = cycle_affects laws.outcomes s m (inputs_of rows) k o h.kept h.shown there on in
    ends_as_told laws.outcomes s m _ k o _ h.shown there owns affects
    ∙ same_ends laws.axes laws.groups s m (cycle c rows grows) o
end_by laws s cycles m (end_of task) k (an_axis n) whole h is there owns other = refl
end_by laws s cycles m (end_of task) k (a_group j) whole h is there owns other = refl

-- the end of a task ends no command
task_ends_none : (s : Setup) (m : Machine) (task k : ℕ) (o : Object) (f : Finish) →
    end_of_command s m (end_of task) k o ≡ Some f → ⊥
task_ends_none s m task k (an_axis n) f e = cc
task_ends_none s m task k (a_group j) f e = cc

-- a command that ends beside the instance's own calls has ended so
ended_beside : (s : Setup) (m : Machine) (e : Entry) (k : ℕ) (b : BlockDef) (f : Finish) →
    IsOutcome s m e k b → is_call_of k e ≡ false →
    end_of_command s m e k (object_of b) ≡ Some f → HasEnded f k (after s m e)
ended_beside s m (call j i reply) k b f outcome d ends =
    let o = object_of b in
    let beside = ap (λ x. if x then progress_by_call s k b i m
    else progress_beside s m (call j i reply) k o) d in
    ended_by s m (call j i reply) k o f (outcome ∙ beside) ends
ended_beside s m (cycle c rows grows) k b f outcome d ends =
    ended_by s m (cycle c rows grows) k (object_of b) f outcome ends
ended_beside s m (end_of task) k b f outcome d ends =
    absurd (task_ends_none s m task k (object_of b) f ends)

-- one that is Done there is so by a cycle
done_in_cycle : (s : Setup) (m : Machine) (e : Entry) (k : ℕ) (o : Object) →
    end_of_command s m e k o ≡ Some finish.Done → cycle_count e ≡ 1
done_in_cycle s m (call j i reply) k o ends = absurd (call_not_done s m j i reply k o ends)
done_in_cycle s m (cycle c rows grows) k o ends = refl
done_in_cycle s m (end_of task) k o ends = absurd (task_ends_none s m task k o finish.Done ends)

-- an end that was reported stays until the instance is called
record IsWaitingToTell (s : Setup) (f : Finish) (k : ℕ) (m : Machine) : Type 0 where
  running : IsRunning s m
  ended : HasEnded f k m

waits_on : TellLaws → (s : Setup) (cycles : ℕ) (m : Machine) (before more : List Entry) (k : ℕ)
    (f : Finish) → AreWhole s → IsWaitingToTell s f k m → Follows s cycles m (before ++ more) →
    AreNoCalls k before → IsWaitingToTell s f k (replay s m before)
waits_on laws s cycles m [] more k f whole h follows none = h
waits_on laws s cycles m (e ∷ es) more k f whole h follows none =
    let same = untold_by laws s cycles m e k whole h.running follows.0 (ap commands_shown h.ended)
    none.0 in
    waits_on laws s (cycles + cycle_count e) (after s m e) es more k f whole
    (record {
      running = runs_on laws s cycles m e whole h.running follows.0;
      ended = same ∙ h.ended;
    }) follows.1 none.1

-- a call that is no rising edge leaves an end that was reported
still_ended : (s : Setup) (a c : Bool) (k : ℕ) (b : BlockDef) (i : Inputs) (m : Machine)
    (f : Finish) → not a && c ≡ false →
    progress_by_edge s (edge_of a c) k b i m (Ended f false) ≡ Ended f false
still_ended s true true k b i m f r = refl
still_ended s true false k b i m f r = refl
still_ended s false true k b i m f r = absurd (cc)
still_ended s false false k b i m f r = refl

-- and its reply shows it
next_tells : (s : Setup) (m : Machine) (k : ℕ) (i : Inputs) (f : Finish) → HasBlock s k →
    IsWaitingToTell s f k m → is_rising m k i ≡ false → Tells f (reply_of s m k i)
next_tells s m k i f has h r =
    let before = (instance_at m.instances k).execute in
    let b = has.block in
    let y = with_execute k i m in
    reply_tells s m k i b h.running.kept.sized h.running.blocks has.is has.other f false
    (ap (progress_by_edge s (edge_of before i.execute) k b i y) h.ended
    ∙ still_ended s before i.execute k b i y f r)

-- the reply of a call after some entries
answered : (s : Setup) (cycles : ℕ) (m : Machine) (before later : List Entry) (k : ℕ) (i : Inputs)
    (reply : Outputs) → Follows s cycles m (before ++ call k i reply ∷ later) →
    reply ≡ reply_of s (replay s m before) k i
answered s cycles m before later k i reply follows =
    (behind s cycles m before (call k i reply ∷ later) follows).0.1

tells_next : TellLaws → (s : Setup) (cycles : ℕ) (m : Machine) (es : List Entry) (k : ℕ)
    (f : Finish) → AreWhole s → HasBlock s k → IsWaitingToTell s f k m → Follows s cycles m es →
    TellsNext s k f m es
tells_next laws s cycles m es k f whole has h follows before later i reply is none r =
    let all = subst (Follows s cycles m) is follows in
    let now = waits_on laws s cycles m before (call k i reply ∷ later) k f whole h all none in
    subst (Tells f) (sym (answered s cycles m before later k i reply all))
    (next_tells s (replay s m before) k i f has now r)

results_kept : TellLaws → (s : Setup) (cycles : ℕ) (m : Machine) (e : Entry) (more : List Entry)
    (k : ℕ) → AreWhole s → IsRunning s m → Follows s cycles m (e ∷ more) →
    ((b : BlockDef) → slice_get s.blocks k ≡ Some b → is_power b.kind ≡ false →
    IsOutcome s m e k b) → KeepsResults s m e more k
results_kept laws s cycles m e more k whole h follows outcome = record {
  outcome = outcome;
  end = λ o there owns other. end_by laws s cycles m e k o whole h follows.0 there owns other;
  done = λ o there ends. done_by s m e k o h.shown there ends;
  by_cycle = λ o ends. done_in_cycle s m e k o ends;
  told = λ b f at other beside ends.
      tells_next laws s (cycles + cycle_count e) (after s m e) more k f whole
      (record { block = b; is = at; other = other })
      (record {
        running = runs_on laws s cycles m e whole h follows.0;
        ended = ended_beside s m e k b f (outcome b at other) beside ends;
      }) follows.1;
  answered = λ b i reply f is at other ends.
      let made : IsOf s cycles m (call k i reply) = subst (IsOf s cycles m) is follows.0 in
      answer_told s m k i reply b f h.kept.sized h.blocks made.1 at other
      (subst (λ x. finish_in s m x k b ≡ Some f) is ends);
  untold = λ none other. untold_by laws s cycles m e k whole h follows.0 none other;
}

-- and so in every past
pub results_told : TellLaws → EntriesMakeOutcomes → (s : Setup) (es : List Entry) → IsSetup s →
    AreWhole s → IsPast s es → ResultsAreTold s es
unfolding machine_after
results_told laws make s es setup whole past made more e k is =
    let all = subst (IsPast s) is past in
    let so_far = past_so_far s made (e ∷ more) all in
    results_kept laws s (0 + cycles_of made) (machine_after s made) e more k whole
    (record {
      kept = past_kept laws.outcomes.owners.walk.machines s made setup whole so_far;
      shown = past_all_shown laws.outcomes.owners s made setup whole so_far;
      blocks = replay_of_blocks s (machine_at_opening s) made (opening_of_blocks s);
    }) (behind s 0 (machine_at_opening s) made (e ∷ more) all.follows)
    (λ b at other. make s made more e k b setup whole all at other)
