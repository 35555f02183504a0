-- Each error that an entry of a past reports has its cause.
-- for: errors_have_causes
use Rattle.std.specs.Prelude.{◌≡◌, ◌⊎◌, refl, ℕ, ◌<◌, Bool, ℤ, true, nat_eq, Some, List, [], length, slice_get}
use Rattle.std.proofs.Common.{arith, ap, subst, sym, inl, inr}
use Rattle.std.proofs.lemmas.Bool.{cases_Bool}
use Rattle.axis_core.specs.AxisKept as kept
use Rattle.axis_core.specs.Cycles.{core_after_cycle}
use Rattle.axis_core.specs.declared.axis.Axis.{Axis}
use Rattle.axis_state.specs.States as axis_states
use Rattle.plc_types.specs.declared.axis.AxisRow.{AxisRow}
use Rattle.plc_types.specs.declared.axis_state.AxisState.{AxisState}
use Rattle.plc_types.specs.declared.axis_state.AxisState.TheVariants as state
use Rattle.command_changes.specs.Axis as axis
use Rattle.command_changes.specs.Group as group
use Rattle.command_core.specs.Changes.{all_changed}
use Rattle.buffer_modes.specs.Owners.{owner_by, owner_count}
use Rattle.axis_core.specs.blocks.Power.{is_powered}
use Rattle.command_core.specs.CommandState.{CommandState, active_of}
use Rattle.command_pool.specs.declared.ending.Finish.TheVariants as finish
use Rattle.plc_types.specs.declared.inputs.Inputs.{Inputs}
use Rattle.plc_types.specs.declared.outputs.Outputs.{Outputs}
use Rattle.plc_types.specs.declared.group.GroupRow.{GroupRow}
use Rattle.motion_history.specs.Entries.{Entry, call, cycle, end_of}
use Rattle.motion_history.specs.Setup.{Setup}
use Rattle.motion_kernel.proofs.cycles.OneAxis.{goes_through}
use Rattle.motion_kernel.proofs.owners.Blocks.{untold as nothing_told}
use Rattle.motion_kernel.proofs.walk.Keeps.{WalkLaws}
use Rattle.motion_kernel.specs.Histories.{inputs_of}
use Rattle.motion_kernel.specs.Machine.{Machine, axis_at, axis_core_at, group_core_at}
use Rattle.motion_kernel.specs.calls.Requests.{machine_asked, request_of}
use Rattle.motion_kernel.specs.cycles.Cycles.{after_cycle, look_of_axis, look_of_group}
use Rattle.motion_kernel.specs.kept.Machine.{IsMachineKept}
use Rattle.motion_kernel.specs.owners.Blocks.{command_state_at}
use Rattle.motion_kernel.specs.owners.Objects.{IsThere, Object, a_group, an_axis}
use Rattle.motion_laws.proofs.causes.AxisCycles.{AllCaused, cycle_caused}
use Rattle.motion_laws.proofs.causes.Calls.{by_block}
use Rattle.motion_laws.proofs.causes.Cycles.{TakesExactly, fails_by, takes_safe}
use Rattle.motion_laws.proofs.causes.GroupNotes as groups
use Rattle.motion_laws.proofs.entries.numbers.Axes as numbers
use Rattle.motion_laws.proofs.entries.numbers.Calls.{axis_quiet}
use Rattle.motion_laws.proofs.entries.numbers.Groups.{not_none, resets_plain}
use Rattle.motion_laws.proofs.entries.numbers.Notes.{AllTell, told_in}
use Rattle.motion_laws.specs.calls.Group as on_group
use Rattle.motion_laws.specs.causes.Axis.{CycleBrings}
use Rattle.motion_laws.specs.causes.Group.{FailsByAxis, SwitchesOff}
use Rattle.motion_laws.specs.causes.Rows.{Brings}
use Rattle.motion_laws.specs.entries.GroupEvents.{moved_in}
use Rattle.motion_laws.specs.entries.Numbers.{MayFail, waits_first}
use Rattle.motion_laws.specs.results.Outcomes.{end_of_command}

-- an axis in ErrorStop has no command that may end by an error
silent : (s : AxisState) (driven powered off : Bool) (p q : ℤ) (c : CommandState) (k error : ℕ) →
    axis_states.is_error_stop s ≡ true → kept.IsInState s driven powered off p q c.active →
    (c.waiting ≡ []) ⊎ kept.MayQueue s c.active → MayFail k c error → ⊥
unfolding owner_count
silent state.ErrorStop driven powered off p q c k error h idle (inl none) (inl own) =
    let x : active_of k c ≡ 0 = ap (λ o. owner_count k (owner_by o)) idle in omega arith
silent state.ErrorStop driven powered off p q c k error h idle (inl none) (inr own) =
    let x : waits_first k c.waiting ≡ 0 = ap (waits_first k) none in
    let y = own.0 in omega arith
silent state.ErrorStop driven powered off p q c k error h idle (inr queue) may = absurd queue
silent _ driven powered off p q c k error h idle queue may = absurd (cc)

-- of an axis in a cycle
axis_reported : TakesExactly → WalkLaws → (s : Setup) (m : Machine) (c : ℕ) (rows : List AxisRow)
    (grows : List GroupRow) (n k error : ℕ) → IsMachineKept s m → n < length m.axes →
    end_of_command s m (cycle c rows grows) k (an_axis n) ≡ Some (finish.Error error) →
    CycleBrings (look_of_axis s m (inputs_of rows) n) (axis_core_at m n)
    (axis_at (after_cycle s m (inputs_of rows)) n).setpoint error
axis_reported exact laws s m c rows grows n k error h l e =
    let ins = inputs_of rows in
    let look = look_of_axis s m ins n in
    let core = axis_core_at m n in
    let goes = goes_through s m ins n h (laws.machines.may_go_on s m ins h) l in
    let changes = laws.axis in
    let same = changes.cycle look core in
    let core_kept = goes.kept in
    let axis_kept = core_kept.axis in
    let a = axis_at m n in
    elim (cases_Bool (axis_states.is_error_stop a.state)) [
      | inl stopped ↦
          let P = numbers.IsTold (axis.command_state_of core) (core_after_cycle look core).axis in
          let told : AllTell P
          (all_changed (axis.cycle_changes look core) (axis.command_state_of core)).notes =
          subst (AllTell P) (ap (λ (d : CommandState). d.notes) same)
          (numbers.cycle_told look core refl) in
          absurd (silent a.state a.driven (is_powered a) a.was_off a.previous a.setpoint
          (axis.command_state_of core) k error stopped axis_kept.state core_kept.queue
          (told_in P k error _ told e).0)
      | inr running ↦
          let place = (core_after_cycle look core).axis.setpoint in
          let told : AllCaused look core place
          (all_changed (axis.cycle_changes look core) (axis.command_state_of core)).notes =
          subst (AllCaused look core place) (ap (λ (d : CommandState). d.notes) same)
          (cycle_caused look core refl (takes_safe exact a axis_kept) running).notes in
          subst (λ (x : Axis). CycleBrings look core x.setpoint error) (sym goes.after)
          (told_in (λ j x. CycleBrings look core place x) k error _ told e)
    ]

-- of a group in a cycle
group_reported : WalkLaws → (s : Setup) (m : Machine) (c : ℕ) (rows : List AxisRow)
    (grows : List GroupRow) (j k error : ℕ) → IsMachineKept s m → j < length m.groups →
    end_of_command s m (cycle c rows grows) k (a_group j) ≡ Some (finish.Error error) →
    FailsByAxis s m (inputs_of rows) j error
group_reported laws s m c rows grows j k error h l e =
    let ins = inputs_of rows in
    let look = look_of_group s m ins j in
    let core = group_core_at m j in
    let changes = laws.group in
    let P = groups.OfMember look core in
    let told = resets_plain P (group.cycle_changes look core)
    (group_core_at (moved_in s m ins) j) (group.command_state_of core)
    (subst (AllTell P) (ap (λ (d : CommandState). d.notes) (changes.cycle look core))
    (groups.cycle_notes look core refl)) in
    let here = told_in P k error _ told e in
    subst (FailsByAxis s m ins j) (sym here.1)
    (fails_by s m ins j h l (not_none (nat_eq look.error 0) _ here.0))

-- of a group in a call
group_told : (s : Setup) (m : Machine) (k : ℕ) (i : Inputs) (reply : Outputs) (j owner error : ℕ) →
    end_of_command s m (call k i reply) owner (a_group j) ≡ Some (finish.Error error) →
    (error ≡ 102) × SwitchesOff s k i j
group_told s m k i reply j owner error e =
    let o = slice_get s.blocks k in
    let r = request_of o k i m in
    let y = machine_asked r k i m in
    let x = on_group.by_request s r k i y j in
    let P = groups.OfPower x in
    let here = told_in P owner error _ (groups.call_notes x (group_core_at y j)
    (command_state_at y (a_group j)) (nothing_told y (a_group j))) e in
    (here.1, by_block s k i m j o refl here.0)

-- of an entry
pub entry_reports : TakesExactly → WalkLaws → (s : Setup) (m : Machine) (e : Entry) (o : Object)
    (k error : ℕ) → IsMachineKept s m → IsThere m o →
    end_of_command s m e k o ≡ Some (finish.Error error) → Brings s m e o error
entry_reports exact laws s m (call j i reply) (an_axis n) k error h l e =
    absurd (axis_quiet s m j i reply n k error e)
entry_reports exact laws s m (call j i reply) (a_group g) k error h l e =
    group_told s m j i reply g k error e
entry_reports exact laws s m (cycle c rows grows) (an_axis n) k error h l e =
    axis_reported exact laws s m c rows grows n k error h l e
entry_reports exact laws s m (cycle c rows grows) (a_group j) k error h l e =
    group_reported laws s m c rows grows j k error h l e
entry_reports exact laws s m (end_of task) (an_axis n) k error h l e = absurd (cc)
entry_reports exact laws s m (end_of task) (a_group j) k error h l e = absurd (cc)
