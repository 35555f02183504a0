-- A refused call changes nothing but its instance.
-- for: refusals_change_nothing, refusals_are_the_first, replies_tell_one_result and others
use Rattle.std.specs.Prelude.{◌≡◌, refl, ℕ, zero, suc, ◌+◌, ◌<◌, ◌≤◌, Bool, true, false, Option, Some, None, Err, List, [], ◌∷◌, ◌++◌, length, slice_get}
use Rattle.std.proofs.Common.{arith, ap, sym, subst, ◌∙◌}
use Rattle.axis_core.specs.Calls.{answer_by, answer_of, core_after_command, core_after_power, core_after_verdict}
use Rattle.axis_core.specs.Refusals as axis_refusals
use Rattle.axis_core.specs.declared.reason.Reason as axis_reason
use Rattle.axis_core.specs.declared.reason.Reason.TheVariants as axis_reasons
use Rattle.command_pool.specs.declared.ending.Refusal.{Refusal}
use Rattle.plc_types.specs.declared.kind.BlockKind.{BlockKind}
use Rattle.plc_types.specs.declared.kind.BlockKind.TheVariants as kind
use Rattle.command_pool.specs.declared.wanted.Wanted.{Wanted}
use Rattle.fb_outputs.specs.InstanceState.{InstanceState}
use Rattle.fb_outputs.specs.Steps as instance
use Rattle.fb_outputs.specs.Steps.{edge_of, is_power, is_stop, outputs_by, outputs_of, reached_after}
use Rattle.plc_types.specs.declared.inputs.Inputs.{Inputs}
use Rattle.fb_outputs.specs.declared.instance.Edge.TheVariants as edge
use Rattle.fb_outputs.specs.declared.instance.Progress.TheVariants.{Idle}
use Rattle.plc_types.specs.declared.outputs.Outputs.{Outputs}
use Rattle.group_core.specs.Calls as group_calls
use Rattle.group_core.specs.Calls.{commanded, commanded_by}
use Rattle.group_core.specs.Refusals as group_refusals
use Rattle.group_core.specs.declared.look.GroupLook.{GroupLook}
use Rattle.group_core.specs.declared.reason.Reason as group_reason
use Rattle.group_core.specs.declared.reason.Reason.TheVariants as group_reasons
use Rattle.motion_history.specs.Calls.{IsCall}
use Rattle.motion_history.specs.Entries.{Entry, call, cycle_count}
use Rattle.motion_history.specs.Setup.{Setup}
use Rattle.motion_kernel.specs.calls.Asking.{wanted_of}
use Rattle.motion_kernel.specs.calls.Calls.{after_axis_command, after_call, after_group_command, after_power, asked_of_axis, called, leaves_path, members_led, reply_of, with_answer, with_axis_core, with_execute, with_group_core}
use Rattle.motion_kernel.specs.Histories.{Follows, IsPast, after, machine_after, replay}
use Rattle.motion_kernel.specs.looks.GroupLooks.{group_look}
use Rattle.motion_kernel.specs.Machine.{Machine, axis_core_at, group_core_at, instance_at, machine_at_opening}
use Rattle.motion_laws.specs.entries.Refusals.{IsRefusalNumber, IsRefused, machine_refused}
use Rattle.motion_kernel.proofs.Segments.{replay_append}
use Rattle.motion_kernel.proofs.walk.Requests.{by_request}
use Rattle.motion_laws.proofs.entries.refusals.Instances.{axis_as_it_is, group_as_it_is, shows_no_error, written_shows, rise_of, ChangesNothing, RefusesWell, admitted_well, asking_machine, refused_well}

-- the numbers of refusals
is_number : (n : ℕ) → 1 ≤ n → n ≤ 19 → IsRefusalNumber n
is_number n l m = record { least = l; most = m }

axis_number : (r : axis_reason.Reason) → IsRefusalNumber (axis_refusals.number_of r)
axis_number axis_reasons.NotPowered = is_number 1 (omega arith) (omega arith)
axis_number axis_reasons.InErrorStop = is_number 2 (omega arith) (omega arith)
axis_number axis_reasons.InStopping = is_number 3 (omega arith) (omega arith)
axis_number axis_reasons.InHoming = is_number 4 (omega arith) (omega arith)
axis_number axis_reasons.GroupHoldsAxis = is_number 5 (omega arith) (omega arith)
axis_number axis_reasons.BadVelocity = is_number 6 (omega arith) (omega arith)
axis_number axis_reasons.BadAcceleration = is_number 7 (omega arith) (omega arith)
axis_number axis_reasons.BadDeceleration = is_number 8 (omega arith) (omega arith)
axis_number axis_reasons.JerkRefused = is_number 9 (omega arith) (omega arith)
axis_number axis_reasons.TargetOutside = is_number 10 (omega arith) (omega arith)
axis_number axis_reasons.QueueFull = is_number 11 (omega arith) (omega arith)
axis_number axis_reasons.NotAtRest = is_number 12 (omega arith) (omega arith)
axis_number axis_reasons.BadRatio = is_number 13 (omega arith) (omega arith)
axis_number axis_reasons.NoTable = is_number 14 (omega arith) (omega arith)
axis_number axis_reasons.SelfMaster = is_number 15 (omega arith) (omega arith)
axis_number axis_reasons.NotFollowing = is_number 19 (omega arith) (omega arith)

group_number : (r : group_reason.Reason) → IsRefusalNumber (group_refusals.number_of r)
group_number group_reasons.NotPowered = is_number 1 (omega arith) (omega arith)
group_number group_reasons.InErrorStop = is_number 2 (omega arith) (omega arith)
group_number group_reasons.InStopping = is_number 3 (omega arith) (omega arith)
group_number group_reasons.InHoming = is_number 4 (omega arith) (omega arith)
group_number group_reasons.BadVelocity = is_number 6 (omega arith) (omega arith)
group_number group_reasons.BadAcceleration = is_number 7 (omega arith) (omega arith)
group_number group_reasons.BadDeceleration = is_number 8 (omega arith) (omega arith)
group_number group_reasons.JerkRefused = is_number 9 (omega arith) (omega arith)
group_number group_reasons.TargetOutside = is_number 10 (omega arith) (omega arith)
group_number group_reasons.QueueFull = is_number 11 (omega arith) (omega arith)
group_number group_reasons.NotAtRest = is_number 12 (omega arith) (omega arith)
group_number group_reasons.GroupStateRefuses = is_number 16 (omega arith) (omega arith)
group_number group_reasons.BlendRefused = is_number 17 (omega arith) (omega arith)
group_number group_reasons.CircularRefused = is_number 18 (omega arith) (omega arith)

-- a command that is asked of an axis
axis_verdict : (k n : ℕ) (kind : BlockKind) (i : Inputs) (m : Machine) (w : Wanted)
    (o : Option axis_reason.Reason) →
    edge_of (instance_at m.instances k).execute i.execute ≡ edge.Rising →
    let c = axis_core_at (asking_machine k i m) n in
    RefusesWell k m
    (with_answer k kind (answer_by o w c)
    (with_axis_core (asking_machine k i m) n (core_after_verdict o w c)))
axis_verdict k n kind i m w None e = admitted_well k kind _ m _
axis_verdict k n kind i m w (Some r) e =
    refused_well k kind i m _ (axis_refusals.number_of r) e (axis_number r)
    (axis_as_it_is (asking_machine k i m) n)

axis_well : (s : Setup) (k n : ℕ) (kind : BlockKind) (i : Inputs) (m : Machine) → edge_of
    (instance_at m.instances k).execute i.execute ≡ edge.Rising →
    RefusesWell k m (after_axis_command s k n kind i (asking_machine k i m))
unfolding after_axis_command core_after_command answer_of
axis_well s k n kind i m e =
    let q = asked_of_axis s k n kind i (asking_machine k i m) in
    axis_verdict k n kind i m q.wanted (axis_refusals.refusal_of q) e

-- a command that is asked of a group
pub no_leaving : (kind : BlockKind) (r : Refusal) → leaves_path kind (Err r) ≡ false
no_leaving kind.GroupDisable r = refl
no_leaving _ r = refl

group_verdict : (s : Setup) (k j : ℕ) (kind : BlockKind) (i : Inputs) (m : Machine)
    (members : GroupLook) (w : Wanted) (o : Option group_reason.Reason) →
    edge_of (instance_at m.instances k).execute i.execute ≡ edge.Rising →
    let c = group_core_at (asking_machine k i m) j in
    let answer = group_calls.answer_by o w c in
    RefusesWell k m
    (with_answer k kind answer
    (members_led s j kind answer
    (with_group_core (asking_machine k i m) j (commanded_by o members w c))))
group_verdict s k j kind i m members w None e = admitted_well k kind _ m _
group_verdict s k j kind i m members w (Some r) e =
    let free = asking_machine k i m in
    let number = group_refusals.number_of r in
    let led : members_led s j kind (Err (record { number = number }))
    (with_group_core free j (group_core_at free j)) ≡ with_group_core free j
    (group_core_at free j) =
    let none = no_leaving kind (record { number = number }) in rw none refl in
    refused_well k kind i m _ number e (group_number r) (led ∙ group_as_it_is free j)

group_well : (s : Setup) (k j : ℕ) (kind : BlockKind) (i : Inputs) (m : Machine) → edge_of
    (instance_at m.instances k).execute i.execute ≡ edge.Rising →
    RefusesWell k m (after_group_command s k j kind i (asking_machine k i m))
unfolding after_group_command commanded group_calls.answer_of
group_well s k j kind i m e =
    let free = asking_machine k i m in
    let c = group_core_at free j in
    let w = wanted_of k kind i in
    let members = group_look s free j 0 in
    group_verdict s k j kind i m members w
    (group_refusals.refusal_of (group_calls.asked_in c w i.jerk members)) e

-- a Power that is called anew shows no error
power_shows : (i : InstanceState) (execute : Bool) → edge_of i.execute execute ≡ edge.Rising →
    (outputs_of (instance.called i execute)).error ≡ false
power_shows i execute e =
    let idle : instance.progress_after (edge_of i.execute execute) i.progress ≡ Idle = ap
    (λ x. instance.progress_after x i.progress) e in
    shows_no_error (is_power i.kind) (is_stop i.kind) execute _
    (instance.progress_after (edge_of i.execute execute) i.progress) _ refl
    (ap (λ p.
    (outputs_by (is_stop i.kind) execute
    (reached_after i.kind (edge_of i.execute execute) i.reached) p).error) idle)

power_on : (s : Setup) (n : ℕ) (enable : Bool) (m : Machine) → enable ≡ true →
    (after_power s n enable m).instances ≡ m.instances
unfolding after_power core_after_power
power_on s n true m e = refl
power_on s n false m e = absurd (cc)

pub power_never : (s : Setup) (k n : ℕ) (i : Inputs) (m : Machine) → edge_of
    (instance_at m.instances k).execute i.execute ≡ edge.Rising →
    (outputs_of (instance_at (after_power s n i.execute (with_execute k i m)).instances k)).error
    ≡ true → ⊥
power_never s k n i m e shows =
    let rise = rise_of (instance_at m.instances k).execute i.execute e in
    let same = power_on s n i.execute (with_execute k i m) rise.is in
    let none = written_shows m.instances k (instance.called (instance_at m.instances k) i.execute)
    (power_shows (instance_at m.instances k) i.execute e) in
    let P : List InstanceState → Type 0 = λ js. (outputs_of (instance_at js k)).error ≡ true in
    let error = subst P same shows in
    cc

power_well : (s : Setup) (k n : ℕ) (i : Inputs) (m : Machine) → edge_of
    (instance_at m.instances k).execute i.execute ≡ edge.Rising →
    RefusesWell k m (after_power s n i.execute (with_execute k i m))
power_well s k n i m e shows = absurd (power_never s k n i m e shows)

-- a block that is there
pub there_is : {X : Type 0} (xs : List X) (k : ℕ) → k < length xs → slice_get xs k ≡ None → ⊥
there_is [] k l e = omega arith
there_is (x ∷ xs) zero l e = cc
there_is (x ∷ xs) (suc k) l e = there_is xs k (omega arith) e

call_well : (s : Setup) (m : Machine) (k : ℕ) (i : Inputs) → k < length s.blocks → IsRefused m k i
    (reply_of s m k i) → ChangesNothing k m (called s k i m)
call_well s m k i l h =
    let well : RefusesWell k m (called s k i m) =
    by_request s k i m (λ r y. RefusesWell k m y) (record {
      absent = λ none. absurd (there_is s.blocks k l none);
      quiet = λ b at other e. absurd (e h.edge);
      power = λ b at is. power_well s k b.object i m h.edge;
      axis_command = λ b at other e off. axis_well s k b.object b.kind i m e;
      group_command = λ b at other e on. group_well s k b.object b.kind i m e;
    }) in
    well h.error

pub refused_call : (s : Setup) (m : Machine) (k : ℕ) (i : Inputs) → k < length s.blocks →
    IsRefused m k i (reply_of s m k i) →
    after_call s m k i ≡ machine_refused k (reply_of s m k i).error_id m
refused_call s m k i l h = let w = call_well s m k i l h in w.left

pub refused_number : (s : Setup) (m : Machine) (k : ℕ) (i : Inputs) → k < length s.blocks →
    IsRefused m k i (reply_of s m k i) →
    IsRefusalNumber (reply_of s m k i).error_id
refused_number s m k i l h = let w = call_well s m k i l h in w.number

-- a call in a history is the machine's
pub record IsCalled (s : Setup) (m : Machine) (k : ℕ) (i : Inputs) (reply : Outputs) : Type 0 where
  pub made : IsCall s k i
  pub answered : reply ≡ reply_of s m k i

pub call_in : (s : Setup) (cycles : ℕ) (m : Machine) (made more : List Entry) (k : ℕ) (i : Inputs)
    (reply : Outputs) →
    Follows s cycles m (made ++ call k i reply ∷ more) → IsCalled s (replay s m made) k i reply
call_in s cycles m [] more k i reply f = record { made = f.0.0; answered = f.0.1 }
call_in s cycles m (e ∷ es) more k i reply f = call_in s (cycles + cycle_count e)
    (after s m e) es more k i reply f.1

pub refused_entry : (s : Setup) (made more : List Entry) (k : ℕ) (i : Inputs) (reply : Outputs) →
    IsPast s (made ++ call k i reply ∷ more) →
    IsRefused (machine_after s made) k i reply →
    machine_after s (made ++ call k i reply ∷ []) ≡ machine_refused k reply.error_id
    (machine_after s made)
unfolding machine_after
refused_entry s made more k i reply past h =
    let m = replay s (machine_at_opening s) made in
    let one = call_in s 0 (machine_at_opening s) made more k i reply past.follows in
    let is = one.made in
    let refused : IsRefused m k i (reply_of s m k i) = subst (IsRefused m k i) one.answered h in
    replay_append s (machine_at_opening s) made (call k i reply ∷ [])
    ∙ refused_call s m k i is.there refused
    ∙ ap (λ (o : Outputs). machine_refused k o.error_id m) (sym one.answered)

pub numbered_entry : (s : Setup) (made more : List Entry) (k : ℕ) (i : Inputs) (reply : Outputs) →
    IsPast s (made ++ call k i reply ∷ more) → IsRefused (machine_after s made) k i reply →
    IsRefusalNumber reply.error_id
unfolding machine_after
numbered_entry s made more k i reply past h =
    let m = replay s (machine_at_opening s) made in
    let one = call_in s 0 (machine_at_opening s) made more k i reply past.follows in
    let is = one.made in
    let refused : IsRefused m k i (reply_of s m k i) = subst (IsRefused m k i) one.answered h in
    subst (λ (o : Outputs). IsRefusalNumber o.error_id) (sym one.answered)
    (refused_number s m k i is.there refused)
