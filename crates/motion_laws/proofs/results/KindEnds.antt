-- Commands end by their kinds.
-- for: commands_end_by_their_kinds
use Rattle.std.specs.Prelude.{◌≡◌, ◌≢◌, refl, ℕ, ◌<◌, Bool, true, false, ◌&&◌, nat_eq, if◌then◌else◌, ℤ, Option, Some, None, is_some, Result, Ok, Err, List, [], ◌∷◌, length, slice_get}
use Rattle.std.proofs.Common.{arith, ap, sym, subst, ◌∙◌, inl, inr}
use Rattle.std.proofs.lemmas.Bool.{cases_Bool}
use Rattle.axis_core.specs.Cores as axes
use Rattle.axis_core.specs.Cycles.{Advance, advance_by_command, advance_by_progress, advance_in_cycle, advance_without_error, progress_by_step}
use Rattle.axis_core.specs.Drives.{answer_error_of, is_driven}
use Rattle.axis_core.specs.Fates as axis_fates
use Rattle.axis_core.specs.Kinds.{end_by, wish_by}
use Rattle.axis_core.specs.Profiles.{profile_of}
use Rattle.axis_core.specs.Steps.{step_for_wish}
use Rattle.axis_core.specs.blocks.Moves.{target_of}
use Rattle.axis_core.specs.blocks.Path.{place_on_path}
use Rattle.axis_core.specs.declared.axis.Axis.{Axis}
use Rattle.axis_core.specs.declared.look.AxisLook.{AxisLook}
use Rattle.axis_core.specs.declared.profile.Closes.{Closes}
use Rattle.axis_core.specs.declared.profile.Closes.TheVariants.{Never, AtOnce, WhenDone, ForNext}
use Rattle.axis_state.specs.States.{is_error_stop}
use Rattle.plc_types.specs.declared.axis.AxisRow.{AxisRow}
use Rattle.buffer_modes.specs.Fates.{Fate, goes_on, replaced}
use Rattle.buffer_modes.specs.Owners.{owner_by}
use Rattle.command_core.specs.CommandState.{CommandState, active_of}
use Rattle.plc_types.proofs.EveryKind.{every-kind, every-kind-that}
use Rattle.plc_types.specs.Kinds.{acts_on_group}
use Rattle.command_pool.specs.declared.ending.Finish.{Finish}
use Rattle.command_pool.specs.declared.ending.Finish.TheVariants as finish
use Rattle.command_pool.specs.declared.ending.Refusal.{Refusal}
use Rattle.plc_types.specs.declared.kind.BlockKind.{BlockKind}
use Rattle.plc_types.specs.declared.kind.BlockKind.TheVariants as kind
use Rattle.command_pool.specs.declared.wanted.Wanted.{Wanted}
use Rattle.fb_outputs.specs.Steps.{edge_of}
use Rattle.plc_types.specs.declared.inputs.Inputs.{Inputs}
use Rattle.fb_outputs.specs.declared.instance.Edge.{Edge}
use Rattle.fb_outputs.specs.declared.instance.Edge.TheVariants as edge
use Rattle.plc_types.specs.declared.outputs.Outputs.{Outputs}
use Rattle.group_core.specs.Cores as groups
use Rattle.group_core.specs.Cycles as group_cycles
use Rattle.group_core.specs.Fates as group_fates
use Rattle.group_core.specs.GroupKept.{fits}
use Rattle.group_core.specs.declared.look.GroupLook.{GroupLook}
use Rattle.plc_types.specs.declared.group.GroupRow.{GroupRow}
use Rattle.plc_types.specs.declared.group.GroupState.{GroupState}
use Rattle.plc_types.specs.declared.group.GroupState.TheVariants as state
use Rattle.motion_history.specs.Entries.{Entry, call, cycle, cycle_count, end_of}
use Rattle.motion_history.specs.Setup.{Setup, IsSetup}
use Rattle.motion_history.specs.declared.config.BlockDef.{BlockDef}
use Rattle.motion_kernel.specs.Histories.{IsPast, inputs_of, machine_after}
use Rattle.motion_kernel.specs.Machine.{Machine, axis_core_at, group_at, group_core_at, instance_at}
use Rattle.motion_kernel.specs.calls.Asking.{is_done_at_once}
use Rattle.motion_kernel.specs.calls.Calls.{with_execute}
use Rattle.motion_kernel.specs.cycles.Cycles.{look_of_axis, look_of_group}
use Rattle.motion_kernel.specs.kept.Machine.{AreWhole, IsMachineKept}
use Rattle.motion_kernel.proofs.Sizes.{by_if}
use Rattle.motion_kernel.proofs.kept.Calls.{axis_object, group_object}
use Rattle.motion_kernel.proofs.kept.Laws.{ConfigurationsAreSound}
use Rattle.motion_kernel.specs.owners.Commands.{active_at}
use Rattle.motion_kernel.specs.owners.Kinds.{AreOfTheirBlocks, is_reset}
use Rattle.motion_kernel.specs.owners.Objects.{IsThere, Object, a_group, an_axis, object_of}
use Rattle.motion_kernel.specs.owners.Blocks.{command_state_at}
use Rattle.motion_laws.specs.results.KindEnds.{EndByKinds, GivesWay, may_be_done, may_give_way}
use Rattle.motion_laws.specs.results.Outcomes.{answer_in, end_answered, end_by_edge, end_of_command, finish_in}
use Rattle.motion_laws.specs.results.Results.{KeepsResults, ResultsAreTold, end_in}
use Rattle.motion_laws.proofs.causes.AxisCycles.{fate_ends}
use Rattle.motion_laws.proofs.Histories.{past_so_far}
use Rattle.motion_laws.proofs.entries.numbers.Groups.{OnlyDone, path_done}
use Rattle.motion_kernel.proofs.owners.Counts.{found_in}
use Rattle.motion_laws.proofs.owners.Events.{active_in}
use Rattle.motion_kernel.proofs.owners.commands.Events.{there_where}
use Rattle.motion_laws.proofs.owners.kinds.Kept.{kinds_match}
use Rattle.motion_laws.proofs.results.Stays.{machine_kept}
use Rattle.motion_laws.proofs.results.outcomes.DoneBy.{call_not_done}
use Rattle.motion_kernel.proofs.walk.Keeps.{WalkLaws}

-- how a command of a kind may end by a step, with the one that waits first
abbrev EndsRight : BlockKind → Option Wanted → Option Finish → Type 0
EndsRight x next None = Unit {0}
EndsRight x next (Some finish.Done) = may_be_done x ≡ true
EndsRight x next (Some finish.Aborted) = (may_give_way x ≡ true) × (is_some next ≡ true)
EndsRight x next (Some (finish.Error n)) = Unit {0}

-- whether a kind may end as its commands close
abbrev may_close : Closes → BlockKind → Bool
may_close Never x = true
may_close ForNext x = may_give_way x
may_close closes x = may_be_done x

closes_as_may : (x : BlockKind) → may_close (profile_of x).closes x ≡ true
closes_as_may x = every-kind (λ k. may_close (profile_of k).closes k) refl x

closes_right : (c : Closes) (x : BlockKind) (next : Option Wanted) (holds : Bool) →
    may_close c x ≡ true → EndsRight x next (end_by c next holds)
closes_right Never x next holds h = tt
closes_right AtOnce x next holds h = h
closes_right WhenDone x next holds h = by_if (EndsRight x next) holds (Some finish.Done) None h tt
closes_right ForNext x None holds h = tt
closes_right ForNext x (Some w) holds h =
    by_if (EndsRight x (Some w)) holds (Some finish.Aborted) None (h, refl) tt

-- the active command, if there is one
abbrev ActiveEnds : Option Wanted → Option Wanted → Option Finish → Type 0
ActiveEnds None next f = f ≡ None
ActiveEnds (Some w) next f = EndsRight w.kind next f

none_right : (active next : Option Wanted) → ActiveEnds active next None
none_right None next = refl
none_right (Some w) next = tt

progress_right : (a : Axis) (w : Wanted) (next : Option Wanted) (look : AxisLook) (r : Result ℤ ℕ) →
    EndsRight w.kind next
    (advance_by_progress w.kind (target_of w) a (progress_by_step a w next look r)).ending
progress_right a w next look (Ok step) =
    closes_right (profile_of w.kind).closes w.kind next _ (closes_as_may w.kind)
progress_right a w next look (Err n) = tt

command_right : (active next : Option Wanted) (look : AxisLook) (a : Axis) →
    ActiveEnds active next (advance_by_command active next look a).ending
command_right None next look a = refl
command_right (Some w) next look a =
    progress_right a w next look (step_for_wish a (wish_by w.kind a w next look))

placed_right : (place : Option ℤ) (next : Option Wanted) (look : AxisLook) (a : Axis) →
    ActiveEnds a.active next (advance_without_error place next look a).ending
placed_right None next look a = command_right a.active next look a
placed_right (Some place) next look a = none_right a.active next

advance_right : (next : Option Wanted) (look : AxisLook) (a : Axis) →
    ActiveEnds a.active next (advance_in_cycle next look a).ending
unfolding advance_in_cycle
advance_right next look a =
    by_if (λ (x : Advance). ActiveEnds a.active next x.ending) (is_error_stop a.state) _ _
    (none_right a.active next) (placed_right (place_on_path a look) next look a)

failed_right : (active next : Option Wanted) (n : ℕ) →
    ActiveEnds active next (replaced (finish.Error n) active None).ends
failed_right None next n = refl
failed_right (Some w) next n = tt

moved_right : (look : AxisLook) (c : axes.Core) →
    ActiveEnds c.axis.active (slice_get c.waiting 0) (axis_fates.moved_fate look c).ends
moved_right look c =
    let next = slice_get c.waiting 0 in
    let step = advance_in_cycle next look c.axis in
    subst (ActiveEnds c.axis.active next)
    (sym (fate_ends (axis_fates.is_blended c.axis.active c) step.ending c.waiting step.axis))
    (advance_right next look c.axis)

cycle_right : (look : AxisLook) (c : axes.Core) →
    ActiveEnds c.axis.active (slice_get c.waiting 0) (axis_fates.cycle_fate look c).ends
unfolding axis_fates.cycle_fate
cycle_right look c =
    let next = slice_get c.waiting 0 in
    let n = answer_error_of c.axis look.input in
    let P : Fate → Type 0 = λ f. ActiveEnds c.axis.active next f.ends in
    by_if P (nat_eq n 0) _ (replaced (finish.Error n) c.axis.active None)
    (by_if P (is_driven c.axis look.input && c.axis.driven) (axis_fates.moved_fate look c) goes_on
    (moved_right look c) (none_right c.axis.active next))
    (failed_right c.axis.active next n)

-- a cycle aborts none of a group
abbrev IsKept : Option Finish → Type 0
IsKept f = f ≡ Some finish.Aborted → ⊥

done_kept : (f : Option Finish) → OnlyDone f → IsKept f
done_kept None only e = cc
done_kept (Some finish.Done) only e = cc
done_kept (Some finish.Aborted) only e = only
done_kept (Some (finish.Error n)) only e = only

failed_kept : (active : Option Wanted) (n : ℕ) →
    IsKept (replaced (finish.Error n) active None).ends
failed_kept None n e = cc
failed_kept (Some w) n e = cc

group_ends : (f : Option Finish) (ws : List Wanted) → (group_fates.ending_fate f ws).ends ≡ f
group_ends None ws = refl
group_ends (Some f) ws = refl

group_kept : (look : GroupLook) (c : groups.Core) → IsKept (group_fates.cycle_fate look c).ends
unfolding group_fates.cycle_fate
group_kept look c =
    let ending = group_cycles.ending_of c.group c.path in
    by_if (λ (f : Fate). IsKept f.ends) (group_fates.is_failing look c)
    (replaced (finish.Error look.error) c.group.active None)
    (group_fates.ending_fate ending c.waiting) (failed_kept c.group.active look.error)
    (λ e. done_kept ending (path_done c.group c.path) (sym (group_ends ending c.waiting) ∙ e))

-- whose command is the active one
record HasActive (k : ℕ) (c : CommandState) : Type 0 where
  command : Wanted
  is : c.active ≡ Some command
  own : command.owner ≡ Some k

has_active : (k : ℕ) (c : CommandState) → active_of k c ≡ 1 → HasActive k c
has_active k c h = by c.active refl (found_in k (owner_by c.active) (omega arith))
  where
    by : (o : Option Wanted) → c.active ≡ o → owner_by o ≡ Some k → HasActive k c
    by None is e = absurd (cc)
    by (Some w) is e = record { command = w; is = is; own = e }

-- the active command of a group is of a kind that may be Done
fits_done : (s : GroupState) (x : BlockKind) → fits s x ≡ true → may_be_done x ≡ true
fits_done state.GroupMoving kind.MoveLinearAbsolute h = refl
fits_done state.GroupMoving kind.GroupHalt h = refl
fits_done state.GroupMoving _ h = absurd (cc)
fits_done state.GroupStopping kind.GroupStop h = refl
fits_done state.GroupStopping _ h = absurd (cc)
fits_done _ x h = absurd (cc)

active_done : (s : Setup) (m : Machine) (c : ℕ) (rows : List AxisRow) (grows : List GroupRow)
    (o : Object) → IsMachineKept s m → IsThere m o → (w : Wanted) →
    (command_state_at m o).active ≡ Some w → end_in s m (cycle c rows grows) o ≡ Some finish.Done →
    may_be_done w.kind ≡ true
active_done s m c rows grows (an_axis n) h l w is e =
    let core = axis_core_at m n in
    let next = slice_get core.waiting 0 in
    subst (λ active. ActiveEnds active next (Some finish.Done)) is
    (subst (ActiveEnds core.axis.active next) e
    (cycle_right (look_of_axis s m (inputs_of rows) n) core))
active_done s m c rows grows (a_group j) h l w is e =
    let group = h.groups j l in
    let kept = group.core in
    fits_done (group_at m j).group.state w.kind (kept.active w is).fitting

-- a reset may be Done
reset_done : (x : BlockKind) → is_reset x ≡ true → may_be_done x ≡ true
reset_done x h = every-kind-that is_reset may_be_done refl x h

cycle_done : (s : Setup) (m : Machine) (c : ℕ) (rows : List AxisRow) (grows : List GroupRow)
    (more : List Entry) (k : ℕ) (b : BlockDef) → IsMachineKept s m → IsThere m (object_of b) →
    KeepsResults s m (cycle c rows grows) more k →
    AreOfTheirBlocks s (command_state_at m (object_of b)) → slice_get s.blocks k ≡ Some b →
    end_of_command s m (cycle c rows grows) k (object_of b) ≡ Some finish.Done →
    may_be_done b.kind ≡ true
cycle_done s m c rows grows more k b h l told kinds at e =
    let o = object_of b in
    elim (told.done o l e) [
      | inl act ↦
          let has = has_active k (command_state_at m o) (sym (active_in m k o) ∙ act) in
          sym (ap may_be_done (kinds.active has.command has.is k b has.own at))
          ∙ active_done s m c rows grows o h l has.command has.is (sym (told.end o l act refl) ∙ e)
      | inr reset ↦ reset_done b.kind (kinds.reset k b reset at)
    ]

-- the active command that a cycle aborts
waits_there : (ws : List Wanted) → is_some (slice_get ws 0) ≡ true → ws ≢ []
waits_there ws h =
    λ e. let none : false ≡ true = sym (ap (λ vs. is_some (slice_get vs 0)) e) ∙ h in cc

active_aborted : (s : Setup) (m : Machine) (c : ℕ) (rows : List AxisRow) (grows : List GroupRow)
    (o : Object) (w : Wanted) → (command_state_at m o).active ≡ Some w →
    end_in s m (cycle c rows grows) o ≡ Some finish.Aborted → GivesWay w.kind (command_state_at m o)
active_aborted s m c rows grows (an_axis n) w is e =
    let core = axis_core_at m n in
    let next = slice_get core.waiting 0 in
    let right = subst (λ active. ActiveEnds active next (Some finish.Aborted)) is
    (subst (ActiveEnds core.axis.active next) e
    (cycle_right (look_of_axis s m (inputs_of rows) n) core)) in
    record { may = right.0; waits = waits_there core.waiting right.1 }
active_aborted s m c rows grows (a_group j) w is e =
    absurd (group_kept (look_of_group s m (inputs_of rows) j) (group_core_at m j) e)

cycle_aborted : (s : Setup) (m : Machine) (c : ℕ) (rows : List AxisRow) (grows : List GroupRow)
    (more : List Entry) (k : ℕ) (b : BlockDef) → IsThere m (object_of b) →
    KeepsResults s m (cycle c rows grows) more k →
    AreOfTheirBlocks s (command_state_at m (object_of b)) → slice_get s.blocks k ≡ Some b →
    active_at m k (object_of b) ≡ 1 →
    end_of_command s m (cycle c rows grows) k (object_of b) ≡ Some finish.Aborted →
    GivesWay b.kind (command_state_at m (object_of b))
cycle_aborted s m c rows grows more k b l told kinds at act e =
    let o = object_of b in
    let has = has_active k (command_state_at m o) (sym (active_in m k o) ∙ act) in
    subst (λ x. GivesWay x (command_state_at m o)) (kinds.active has.command has.is k b has.own at)
    (active_aborted s m c rows grows o has.command has.is (sym (told.end o l act refl) ∙ e))

-- in a call
at_once : (x : BlockKind) →
    (if is_done_at_once x then Some finish.Done else None) ≡ Some finish.Done →
    may_be_done x ≡ true
at_once x h = every-kind-that is_done_at_once may_be_done refl x (said (is_done_at_once x) h)
  where
    said : (b : Bool) → (if b then Some finish.Done else None) ≡ Some finish.Done → b ≡ true
    said true h = refl
    said false h = absurd (cc)

answered_done : (x : BlockKind) (r : Result Bool Refusal) → end_answered x r ≡ Some finish.Done →
    may_be_done x ≡ true
answered_done x (Err r) h = absurd (cc)
answered_done x (Ok true) h = absurd (cc)
answered_done x (Ok false) h = at_once x h

edge_done : (s : Setup) (e : Edge) (k : ℕ) (b : BlockDef) (i : Inputs) (m : Machine) →
    end_by_edge s e k b i m ≡ Some finish.Done → may_be_done b.kind ≡ true
edge_done s edge.Rising k b i m h = answered_done b.kind (answer_in s k b i m) h
edge_done s edge.High k b i m h = absurd (cc)
edge_done s edge.Falling k b i m h = absurd (cc)
edge_done s edge.Low k b i m h = absurd (cc)

call_done : (s : Setup) (m : Machine) (j : ℕ) (i : Inputs) (reply : Outputs) (k : ℕ) (b : BlockDef)
    (x : Bool) →
    (if x
    then end_by_edge s (edge_of (instance_at m.instances k).execute i.execute) k b i
    (with_execute k i m) else end_of_command s m (call j i reply) k (object_of b))
    ≡ Some finish.Done → may_be_done b.kind ≡ true
call_done s m j i reply k b true h =
    edge_done s (edge_of (instance_at m.instances k).execute i.execute) k b i (with_execute k i m) h
call_done s m j i reply k b false h = absurd (call_not_done s m j i reply k (object_of b) h)

entry_done : (s : Setup) (m : Machine) (e : Entry) (more : List Entry) (k : ℕ) (b : BlockDef) →
    IsMachineKept s m → IsThere m (object_of b) → KeepsResults s m e more k →
    AreOfTheirBlocks s (command_state_at m (object_of b)) → slice_get s.blocks k ≡ Some b →
    finish_in s m e k b ≡ Some finish.Done → may_be_done b.kind ≡ true
entry_done s m (call j i reply) more k b h l told kinds at e =
    call_done s m j i reply k b (nat_eq j k) e
entry_done s m (cycle c rows grows) more k b h l told kinds at e =
    cycle_done s m c rows grows more k b h l told kinds at e
entry_done s m (end_of task) more k b h l told kinds at e = absurd (cc)

entry_aborted : (s : Setup) (m : Machine) (e : Entry) (more : List Entry) (k : ℕ) (b : BlockDef) →
    IsThere m (object_of b) → KeepsResults s m e more k →
    AreOfTheirBlocks s (command_state_at m (object_of b)) → slice_get s.blocks k ≡ Some b →
    cycle_count e ≡ 1 → active_at m k (object_of b) ≡ 1 →
    finish_in s m e k b ≡ Some finish.Aborted → GivesWay b.kind (command_state_at m (object_of b))
entry_aborted s m (call j i reply) more k b l told kinds at one act e = absurd (omega arith)
entry_aborted s m (cycle c rows grows) more k b l told kinds at one act e =
    cycle_aborted s m c rows grows more k b l told kinds at act e
entry_aborted s m (end_of task) more k b l told kinds at one act e = absurd (omega arith)

-- a block acts on an axis or a group that is there
object_there : ConfigurationsAreSound → (s : Setup) (m : Machine) (k : ℕ) (b : BlockDef) →
    IsSetup s → IsMachineKept s m → slice_get s.blocks k ≡ Some b → IsThere m (object_of b)
object_there sound s m k b setup h at =
    let sizes = h.sized in
    let a = sizes.axes in
    let g = sizes.groups in
    let there = there_where s.blocks k b at in
    let P : Bool → Type 0 =
    λ x. IsThere m (if x then a_group b.object else an_axis b.object) in
    elim (cases_Bool (acts_on_group b.kind)) [
      | inl on ↦
          let l = group_object sound s k b setup there at on in
          let here : b.object < length m.groups = omega arith in subst P (sym on) here
      | inr off ↦
          let l = axis_object sound s k b setup there at off in
          let here : b.object < length m.axes = omega arith in subst P (sym off) here
    ]

-- in every past
pub end_by_kinds : WalkLaws → ConfigurationsAreSound →
    ((s : Setup) (es : List Entry) → IsSetup s → AreWhole s → IsPast s es → ResultsAreTold s es) →
    (s : Setup) (es : List Entry) → IsSetup s → AreWhole s → IsPast s es → EndByKinds s es
end_by_kinds laws sound results s es setup whole past made more e k b is at =
    let m = machine_after s made in
    let so_far = past_so_far s made (e ∷ more) (subst (IsPast s) is past) in
    let kept = machine_kept laws.machines s made setup whole so_far in
    let there = object_there sound s m k b setup kept at in
    let told = results s es setup whole past made more e k is in
    let kinds = kinds_match laws s made setup whole so_far (object_of b) there in
    record {
      done = λ ends. entry_done s m e more k b kept there told kinds at ends;
      aborted = λ one act ends. entry_aborted s m e more k b there told kinds at one act ends;
    }
