-- The ErrorID of a refused call is the first whose condition holds.
-- for: refusals_are_the_first
use Rattle.std.specs.Prelude.{◌≡◌, refl, ℕ, Bool, true, false, Option, Some, None, Err, Ok, List, if◌then◌else◌, slice_get, ◌++◌, ◌∷◌}
use Rattle.std.proofs.Common.{ap, subst, sym, ◌∙◌}
use Rattle.axis_core.specs.Calls.{answer_by, answer_of, core_after_command, core_after_verdict}
use Rattle.axis_core.specs.Cores as axis_cores
use Rattle.axis_core.specs.Refusals as axis_refusals
use Rattle.group_core.specs.Cores as group_cores
use Rattle.command_pool.specs.declared.ending.Finish.TheVariants as finish
use Rattle.command_pool.specs.declared.ending.Refusal.{Refusal}
use Rattle.motion_kernel.specs.owners.Objects.{object_of}
use Rattle.motion_kernel.specs.kept.Machine.{AreWhole}
use Rattle.std.proofs.lemmas.Bool.{eq-eqb}
use Rattle.axis_core.specs.declared.reason.Reason as axis_reason
use Rattle.plc_types.specs.Kinds.{acts_on_group}
use Rattle.plc_types.specs.declared.kind.BlockKind.{BlockKind}
use Rattle.command_pool.specs.declared.wanted.Wanted.{Wanted}
use Rattle.fb_outputs.specs.Steps.{edge_of, outputs_of}
use Rattle.plc_types.specs.declared.inputs.Inputs.{Inputs}
use Rattle.fb_outputs.specs.declared.instance.Edge.TheVariants as edge
use Rattle.plc_types.specs.declared.outputs.Outputs.{Outputs}
use Rattle.group_core.specs.Calls as group_calls
use Rattle.group_core.specs.Calls.{commanded, commanded_by}
use Rattle.group_core.specs.Refusals as group_refusals
use Rattle.group_core.specs.declared.look.GroupLook.{GroupLook}
use Rattle.group_core.specs.declared.reason.Reason as group_reason
use Rattle.motion_history.specs.Entries.{Entry, call}
use Rattle.motion_history.specs.Setup.{Setup, IsSetup}
use Rattle.motion_history.specs.declared.config.BlockDef.{BlockDef}
use Rattle.motion_kernel.proofs.walk.Requests.{by_request}
use Rattle.motion_kernel.specs.Histories.{IsPast, machine_after, replay}
use Rattle.motion_kernel.specs.Machine.{Machine, axis_core_at, group_core_at, instance_at, machine_at_opening}
use Rattle.motion_kernel.specs.calls.Asking.{wanted_of}
use Rattle.motion_kernel.specs.calls.Calls.{after_axis_command, after_group_command, after_power, asked_of_axis, called, members_led, reply_of, with_answer, with_axis_core, with_execute, with_group_core, without_owner}
use Rattle.motion_kernel.specs.looks.GroupLooks.{group_look}
use Rattle.motion_laws.proofs.entries.refusals.Calls.{call_in, no_leaving, power_never}
use Rattle.motion_laws.proofs.entries.refusals.Instances.{admitted_never, are_refused, asking_machine, axis_as_it_is, group_as_it_is, id_shown}
use Rattle.motion_laws.proofs.error_ids.Axes.{axis_first, axis_none}
use Rattle.motion_laws.proofs.error_ids.Groups.{group_first, group_none}
use Rattle.motion_laws.specs.entries.Refusals.{IsRefused}
use Rattle.motion_laws.specs.error_ids.First.{HoldsOfNone, IsFirst}
use Rattle.motion_laws.specs.results.Outcomes.{answer_in, end_answered, end_by_edge, end_of_command, finish_in}
use Rattle.motion_laws.specs.results.Results.{ResultsAreTold}
use Rattle.motion_laws.specs.error_ids.Calls.{BlockTable, RefusalsAreFirst, TableSays}

-- an ErrorID is the first of its kind's table whose condition holds
abbrev FirstOf : Bool → Setup → ℕ → BlockDef → Inputs → Machine → ℕ → Type 0
FirstOf g s k b i m id = BlockTable (λ conditions ids. IsFirst conditions ids id) g s k b i m

-- a machine whose instance shows an error shows one of these ErrorIDs
abbrev ShowsOf : (ℕ → Type 0) → ℕ → Machine → Type 0
ShowsOf P k x = (outputs_of (instance_at x.instances k)).error ≡ true → P (id_shown x.instances k)

-- where the call is refused by a number, that one
refused_here : (k : ℕ) (kind : BlockKind) (i : Inputs) (m : Machine) (number : ℕ) →
    edge_of (instance_at m.instances k).execute i.execute ≡ edge.Rising →
    (P : ℕ → Type 0) → P number →
    ShowsOf P k (with_answer k kind (Err (record { number = number })) (asking_machine k i m))
unfolding without_owner
refused_here k kind i m number e P is shows =
    let all = are_refused m.instances k i.execute number e shows in
    subst P (sym all.same) is

refused_by : (k : ℕ) (kind : BlockKind) (i : Inputs) (m y : Machine) (number : ℕ) →
    edge_of (instance_at m.instances k).execute i.execute ≡ edge.Rising →
    (P : ℕ → Type 0) → P number → y ≡ asking_machine k i m →
    ShowsOf P k (with_answer k kind (Err (record { number = number })) y)
refused_by k kind i m y number e P is same =
    subst (λ x. ShowsOf P k (with_answer k kind (Err (record { number = number })) x)) (sym same)
    (refused_here k kind i m number e P is)

-- an admitted one shows none
admitted_by : (P : ℕ → Type 0) (k : ℕ) (kind : BlockKind) (active : Bool) (y : Machine) →
    ShowsOf P k (with_answer k kind (Ok active) y)
admitted_by P k kind active y shows = absurd (admitted_never k kind active y shows)

-- a command of an axis
axis_verdict : (P : ℕ → Type 0) (k n : ℕ) (kind : BlockKind) (i : Inputs) (m : Machine)
    (w : Wanted) (o : Option axis_reason.Reason) →
    edge_of (instance_at m.instances k).execute i.execute ≡ edge.Rising →
    ((r : axis_reason.Reason) → o ≡ Some r → P (axis_refusals.number_of r)) →
    let c = axis_core_at (asking_machine k i m) n in
    ShowsOf P k
    (with_answer k kind (answer_by o w c)
    (with_axis_core (asking_machine k i m) n (core_after_verdict o w c)))
axis_verdict P k n kind i m w None e first =
    admitted_by P k kind _ (with_axis_core (asking_machine k i m) n
    (core_after_verdict None w (axis_core_at (asking_machine k i m) n)))
axis_verdict P k n kind i m w (Some r) e first =
    refused_by k kind i m _ (axis_refusals.number_of r) e P (first r refl)
    (axis_as_it_is (asking_machine k i m) n)

axis_shows : (s : Setup) (k : ℕ) (b : BlockDef) (i : Inputs) (m : Machine) →
    edge_of (instance_at m.instances k).execute i.execute ≡ edge.Rising →
    ShowsOf (FirstOf false s k b i (asking_machine k i m)) k
    (after_axis_command s k b.object b.kind i (asking_machine k i m))
unfolding after_axis_command core_after_command answer_of
axis_shows s k b i m e =
    let q = asked_of_axis s k b.object b.kind i (asking_machine k i m) in
    axis_verdict (FirstOf false s k b i (asking_machine k i m)) k b.object b.kind i m q.wanted
    (axis_refusals.refusal_of q) e (axis_first q)

-- a command of a group
group_verdict : (P : ℕ → Type 0) (s : Setup) (k j : ℕ) (kind : BlockKind) (i : Inputs)
    (m : Machine) (members : GroupLook) (w : Wanted) (o : Option group_reason.Reason) →
    edge_of (instance_at m.instances k).execute i.execute ≡ edge.Rising →
    ((r : group_reason.Reason) → o ≡ Some r → P (group_refusals.number_of r)) →
    let c = group_core_at (asking_machine k i m) j in
    let answer = group_calls.answer_by o w c in
    ShowsOf P k
    (with_answer k kind answer
    (members_led s j kind answer
    (with_group_core (asking_machine k i m) j (commanded_by o members w c))))
group_verdict P s k j kind i m members w None e first =
    let c = group_core_at (asking_machine k i m) j in
    admitted_by P k kind _ (members_led s j kind (group_calls.answer_by None w c)
    (with_group_core (asking_machine k i m) j (commanded_by None members w c)))
group_verdict P s k j kind i m members w (Some r) e first =
    let free = asking_machine k i m in
    let number = group_refusals.number_of r in
    let led : members_led s j kind (Err (record { number = number }))
    (with_group_core free j (group_core_at free j)) ≡ with_group_core free j
    (group_core_at free j) =
    let none = no_leaving kind (record { number = number }) in rw none refl in
    refused_by k kind i m _ number e P (first r refl) (led ∙ group_as_it_is free j)

group_shows : (s : Setup) (k : ℕ) (b : BlockDef) (i : Inputs) (m : Machine) →
    edge_of (instance_at m.instances k).execute i.execute ≡ edge.Rising →
    ShowsOf (FirstOf true s k b i (asking_machine k i m)) k
    (after_group_command s k b.object b.kind i (asking_machine k i m))
unfolding after_group_command commanded group_calls.answer_of
group_shows s k b i m e =
    let free = asking_machine k i m in
    let c = group_core_at free b.object in
    let w = wanted_of k b.kind i in
    let members = group_look s free b.object 0 in
    let q = group_calls.asked_in c w i.jerk members in
    group_verdict (FirstOf true s k b i free) s k b.object b.kind i m members w
    (group_refusals.refusal_of q) e (group_first q)

-- a Power shows none
power_none : (P : ℕ → Type 0) (s : Setup) (k n : ℕ) (i : Inputs) (m : Machine) →
    edge_of (instance_at m.instances k).execute i.execute ≡ edge.Rising →
    ShowsOf P k (after_power s n i.execute (with_execute k i m))
power_none P s k n i m e shows = absurd (power_never s k n i m e shows)

-- the ErrorID of a refused call
same_block : (x b : BlockDef) → Some x ≡ Some b → x ≡ b
same_block x b e = cc

call_first : (s : Setup) (m : Machine) (k : ℕ) (i : Inputs) (b : BlockDef) →
    slice_get s.blocks k ≡ Some b → IsRefused m k i (reply_of s m k i) →
    FirstOf (acts_on_group b.kind) s k b i (asking_machine k i m) (reply_of s m k i).error_id
call_first s m k i b at h =
    let P = FirstOf (acts_on_group b.kind) s k b i (asking_machine k i m) in
    let well : ShowsOf P k (called s k i m) =
    by_request s k i m (λ r y. ShowsOf P k y) (record {
      absent = λ none. absurd (let no = sym none ∙ at in cc);
      quiet = λ x is other e. absurd (e h.edge);
      power = λ x is kind. power_none P s k x.object i m h.edge;
      axis_command = λ x is other e off.
          let same = same_block x b (sym is ∙ at) in
          subst (λ y. ShowsOf P k (after_axis_command s k y.object y.kind i (asking_machine k i m)))
          (sym same)
          (subst (λ g. ShowsOf (FirstOf g s k b i (asking_machine k i m)) k
          (after_axis_command s k b.object b.kind i (asking_machine k i m)))
          (sym (ap (λ y. acts_on_group y.kind) (sym same) ∙ off)) (axis_shows s k b i m e));
      group_command = λ x is other e on.
          let same = same_block x b (sym is ∙ at) in
          subst (λ y. ShowsOf P k (after_group_command s k y.object y.kind i (asking_machine k i m)))
          (sym same)
          (subst (λ g. ShowsOf (FirstOf g s k b i (asking_machine k i m)) k
          (after_group_command s k b.object b.kind i (asking_machine k i m)))
          (sym (ap (λ y. acts_on_group y.kind) (sym same) ∙ on)) (group_shows s k b i m e));
    }) in
    well h.error

-- an answer that is no refusal is one where no condition holds
axis_answered : (o : Option axis_reason.Reason) (w : Wanted) (c : axis_cores.Core) →
    ((r : Refusal) → answer_by o w c ≡ Err r → ⊥) → o ≡ None
axis_answered None w c h = refl
axis_answered (Some r) w c h = absurd (h (record { number = axis_refusals.number_of r }) refl)

group_answered : (o : Option group_reason.Reason) (w : Wanted) (c : group_cores.Core) →
    ((r : Refusal) → group_calls.answer_by o w c ≡ Err r → ⊥) → o ≡ None
group_answered None w c h = refl
group_answered (Some r) w c h = absurd (h (record { number = group_refusals.number_of r }) refl)

none_holds : (g : Bool) (s : Setup) (k : ℕ) (b : BlockDef) (i : Inputs) (m : Machine) →
    ((r : Refusal) → (let free = asking_machine k i m in
    if g then group_calls.answer_of (wanted_of k b.kind i) i.jerk (group_look s free b.object 0)
    (group_core_at free b.object)
    else answer_of (asked_of_axis s k b.object b.kind i free) (axis_core_at free b.object)) ≡ Err r → ⊥) →
    BlockTable HoldsOfNone g s k b i (asking_machine k i m)
unfolding answer_of group_calls.answer_of
none_holds true s k b i m h =
    let free = asking_machine k i m in
    let c = group_core_at free b.object in
    let w = wanted_of k b.kind i in
    let q = group_calls.asked_in c w i.jerk (group_look s free b.object 0) in
    group_none q (group_answered (group_refusals.refusal_of q) w c h)
none_holds false s k b i m h =
    let free = asking_machine k i m in
    let q = asked_of_axis s k b.object b.kind i free in
    axis_none q (axis_answered (axis_refusals.refusal_of q) q.wanted (axis_core_at free b.object) h)

-- a refusal is shown in the reply
refusal_ends : (s : Setup) (m : Machine) (k : ℕ) (i : Inputs) (reply : Outputs) (b : BlockDef)
    (r : Refusal) → edge_of (instance_at m.instances k).execute i.execute ≡ edge.Rising →
    answer_in s k b i (with_execute k i m) ≡ Err r →
    finish_in s m (call k i reply) k b ≡ Some (finish.Error r.number)
refusal_ends s m k i reply b r e is =
    let x = with_execute k i m in
    let o = end_of_command s m (call k i reply) k (object_of b) in
    ap (λ t. if t then end_by_edge s (edge_of (instance_at m.instances k).execute i.execute) k b i x
    else o) (eq-eqb k k refl)
    ∙ ap (λ f. end_by_edge s f k b i x) e ∙ ap (end_answered b.kind) is

refused_first : (s : Setup) (made more : List Entry) (k : ℕ) (i : Inputs) (reply : Outputs)
    (b : BlockDef) → IsPast s (made ++ call k i reply ∷ more) → slice_get s.blocks k ≡ Some b →
    IsRefused (machine_after s made) k i reply →
    TableSays (λ conditions ids. IsFirst conditions ids reply.error_id) s k b i
    (machine_after s made)
unfolding machine_after
refused_first s made more k i reply b past at h =
    let m = replay s (machine_at_opening s) made in
    let one = call_in s 0 (machine_at_opening s) made more k i reply past.follows in
    let refused : IsRefused m k i (reply_of s m k i) = subst (IsRefused m k i) one.answered h in
    subst (λ (o : Outputs). FirstOf (acts_on_group b.kind) s k b i (asking_machine k i m) o.error_id)
    (sym one.answered) (call_first s m k i b at refused)

-- result_laws' results_are_told
abbrev pub ResultsTold : Type 0
ResultsTold = (s : Setup) (es : List Entry) → IsSetup s → AreWhole s → IsPast s es →
    ResultsAreTold s es

pub refusals_first : ResultsTold → (s : Setup) (es : List Entry) → IsSetup s → AreWhole s →
    IsPast s es → RefusalsAreFirst s es
refusals_first told s es setup whole past = record {
  refused = λ made more k i reply b is at h. refused_first s made more k i reply b
      (subst (IsPast s) is past) at h;
  admitted = λ made more k i reply b is at other e fine.
      let m = machine_after s made in
      let results = told s es setup whole past made more (call k i reply) k is in
      none_holds (acts_on_group b.kind) s k b i m (λ r refuses.
      let tells = results.answered b i reply (finish.Error r.number) refl at other
      (refusal_ends s m k i reply b r e refuses) in
      let error = tells.0 in
      cc);
}
