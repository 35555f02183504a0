-- What a call makes of the command of its own instance.
-- for: replies_show_commands, entries_make_outcomes, results_are_told and others
use Rattle.std.specs.Prelude.{◌≡◌, refl, ℕ, ◌<◌, Bool, true, false, if◌then◌else◌, Some, Ok, Err, Result, List, length, slice_get, slice_set}
use Rattle.std.proofs.Common.{arith, ap, sym, subst, ◌∙◌}
use Rattle.std.proofs.lemmas.List.{length-set}
use Rattle.axis_core.specs.Calls.{core_after_command}
use Rattle.axis_core.specs.Calls as axis
use Rattle.plc_types.specs.Kinds.{acts_on_group}
use Rattle.command_pool.specs.declared.ending.Finish.TheVariants as finish
use Rattle.command_pool.specs.declared.ending.Refusal.{Refusal}
use Rattle.plc_types.specs.declared.kind.BlockKind.{BlockKind}
use Rattle.fb_outputs.specs.InstanceState.{InstanceState}
use Rattle.fb_outputs.specs.Steps as instance
use Rattle.fb_outputs.specs.Steps.{is_power, progress_after, shown_progress}
use Rattle.plc_types.specs.declared.inputs.Inputs.{Inputs}
use Rattle.fb_outputs.specs.declared.instance.Edge.{Edge}
use Rattle.fb_outputs.specs.declared.instance.Edge.TheVariants as edge
use Rattle.fb_outputs.specs.declared.instance.Progress.{Progress}
use Rattle.fb_outputs.specs.declared.instance.Progress.TheVariants.{Ended, Waiting}
use Rattle.group_core.specs.Calls as group
use Rattle.group_core.specs.Calls.{commanded}
use Rattle.motion_history.specs.Setup.{Setup}
use Rattle.motion_history.specs.declared.config.BlockDef.{BlockDef}
use Rattle.motion_kernel.specs.Machine.{Machine, axis_core_at, group_core_at, instance_at}
use Rattle.motion_kernel.specs.calls.Asking.{is_done_at_once, wanted_of}
use Rattle.motion_kernel.specs.calls.Calls.{after_axis_command, after_call, after_group_command, answered_instance, asked_of_axis, called, members_led, with_axis_core, with_execute, with_group_core, without_owner}
use Rattle.motion_kernel.specs.kept.Machine.{IsSized}
use Rattle.motion_kernel.specs.looks.GroupLooks.{group_look}
use Rattle.motion_kernel.proofs.Sizes.{sized_axis, sized_group, sized_instance, sized_members, sized_without}
use Rattle.motion_laws.specs.results.Outcomes.{progress_answered, progress_at, progress_by_call, progress_by_edge}
use Rattle.motion_kernel.proofs.owners.commands.Asked.{set_at}
use Rattle.motion_laws.proofs.results.Events.{progress_in}
use Rattle.motion_kernel.proofs.walk.Requests.{by_request, edge_in}

-- an instance that is answered
answered : (x : BlockKind) (answer : Result Bool Refusal) (i : InstanceState) → (answered_instance x answer i).progress ≡ progress_answered x answer
answered x (Err r) i = refl
answered x (Ok true) i = refl
answered x (Ok false) i = by (is_done_at_once x)
  where
    by : (b : Bool) → (let j : InstanceState = if b then instance.finished i finish.Done else instance.started i false in j).progress
        ≡ (if b then Ended finish.Done false else Waiting)
    by true = refl
    by false = refl

module _ (s : Setup) (k : ℕ) (place : k < length s.blocks) where
  set_there : (is : List InstanceState) (v : InstanceState) → k < length is → progress_in (slice_set is k v) k ≡ v.progress
  set_there is v l = ap (λ (x : InstanceState). x.progress) (set_at is k v l)

  set_here : (m : Machine) (v : InstanceState) → IsSized s m → progress_in (slice_set m.instances k v) k ≡ v.progress
  set_here m v sized = let n = sized.instances in set_there m.instances v (omega arith)

  axis_asked : (n : ℕ) (x : BlockKind) (i : Inputs) (free : Machine) → IsSized s free →
      progress_at (after_axis_command s k n x i free) k ≡ progress_answered x (axis.answer_of (asked_of_axis s k n x i free) (axis_core_at free n))
  unfolding after_axis_command
  axis_asked n x i free sized =
      let c = axis_core_at free n in
      let q = asked_of_axis s k n x i free in
      let made = with_axis_core free n (core_after_command q c) in
      set_here made (answered_instance x (axis.answer_of q c) (instance_at made.instances k)) (sized_axis s free n (core_after_command q c) sized)
      ∙ answered x (axis.answer_of q c) (instance_at made.instances k)

  group_asked : (n : ℕ) (x : BlockKind) (i : Inputs) (free : Machine) → IsSized s free →
      progress_at (after_group_command s k n x i free) k
      ≡ progress_answered x (group.answer_of (wanted_of k x i) i.jerk (group_look s free n 0) (group_core_at free n))
  unfolding after_group_command
  group_asked n x i free sized =
      let c = group_core_at free n in
      let w = wanted_of k x i in
      let members = group_look s free n 0 in
      let answer = group.answer_of w i.jerk members c in
      let made = with_group_core free n (commanded w i.jerk members c) in
      let led = members_led s n x answer made in
      set_here led (answered_instance x answer (instance_at led.instances k))
      (sized_members s n x answer made (sized_group s free n (commanded w i.jerk members c) sized))
      ∙ answered x answer (instance_at led.instances k)

  -- in a call that is no rising edge
  no_edge : (e : Edge) (b : BlockDef) (i : Inputs) (m : Machine) (p : Progress) → (e ≡ edge.Rising → ⊥) →
      progress_after e p ≡ progress_by_edge s e k b i m p
  no_edge edge.Rising b i m p quiet = absurd (quiet refl)
  no_edge edge.High b i m p quiet = refl
  no_edge edge.Falling b i m p quiet = refl
  no_edge edge.Low b i m p quiet = refl

  -- in any call
  pub called_progress : (b : BlockDef) (i : Inputs) (m : Machine) → slice_get s.blocks k ≡ Some b → is_power b.kind ≡ false → IsSized s m →
      progress_at (called s k i m) k ≡ progress_by_edge s (edge_in k i m) k b i (with_execute k i m) (progress_at m k)
  called_progress b i m at other sized =
      let v = instance.called (instance_at m.instances k) i.execute in
      let x = with_execute k i m in
      let free = without_owner k x in
      let size = sized_without s k x (sized_instance s m k v sized) in
      let n = b.object in
      let now = edge_in k i m in
      let p = progress_at m k in
      let after = progress_by_edge s now k b i x p in
      let same : (c : BlockDef) → slice_get s.blocks k ≡ Some c → b ≡ c = λ c is. cc in
      let answers : Bool → Progress = λ on. progress_answered b.kind (if on
      then group.answer_of (wanted_of k b.kind i) i.jerk (group_look s free n 0) (group_core_at free n)
      else axis.answer_of (asked_of_axis s k n b.kind i free) (axis_core_at free n)) in
      let rises : now ≡ edge.Rising → answers (acts_on_group b.kind) ≡ after =
      λ e. ap (λ z. progress_by_edge s z k b i x p) (sym e) in
      by_request s k i m (λ r y. progress_at y k ≡ after) (record {
        absent = λ none. absurd (cc);
        quiet = λ c is power e. set_here m v sized ∙ no_edge now b i x p e;
        power = λ c is power.
            let known = ap (λ (d : BlockDef). is_power d.kind) (same c is) ∙ ap is_power power in
            absurd (cc);
        axis_command = λ c is power e off.
            let mine = ap (λ (d : BlockDef). acts_on_group d.kind) (same c is) ∙ off in
            subst (λ (d : BlockDef). progress_at (after_axis_command s k d.object d.kind i free) k ≡ after) (same c is)
            (axis_asked n b.kind i free size ∙ ap answers (sym mine) ∙ rises e);
        group_command = λ c is power e on.
            let mine = ap (λ (d : BlockDef). acts_on_group d.kind) (same c is) ∙ on in
            subst (λ (d : BlockDef). progress_at (after_group_command s k d.object d.kind i free) k ≡ after) (same c is)
            (group_asked n b.kind i free size ∙ ap answers (sym mine) ∙ rises e);
      })

  pub own_outcome : (b : BlockDef) (i : Inputs) (m : Machine) → slice_get s.blocks k ≡ Some b → is_power b.kind ≡ false → IsSized s m →
      IsSized s (after_call s m k i) → progress_at (after_call s m k i) k ≡ progress_by_call s k b i m
  own_outcome b i m at other sized size =
      let x = called s k i m in
      let v = instance.shown (instance_at x.instances k) in
      let n = size.instances in
      let as_many = length-set x.instances k v in
      set_there x.instances v (omega arith) ∙ ap shown_progress (called_progress b i m at other sized)
