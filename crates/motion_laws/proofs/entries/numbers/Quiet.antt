-- Which calls give no error.
-- for: errors_have_causes, errors_are_told_as_shown
use Rattle.std.specs.Prelude.{◌≡◌, ◌⊎◌, refl, ℕ, Bool, true, false, nat_eq, ℤ, Option, Some, None, List, [], ◌∷◌}
use Rattle.std.proofs.Common.{inl, inr}
use Rattle.axis_core.specs.Calls as axis_calls
use Rattle.axis_core.specs.Cores as axes
use Rattle.axis_core.specs.Profiles.{profile_of}
use Rattle.axis_core.specs.Refusals as axis_refusals
use Rattle.axis_core.specs.Refusals.{Asked}
use Rattle.axis_core.specs.blocks.Moves.{known_target_of, with_target}
use Rattle.axis_core.specs.declared.profile.Entry.{Entry}
use Rattle.axis_core.specs.declared.profile.Entry.TheVariants.{Joins, Leaves, Awaits}
use Rattle.axis_core.specs.declared.reason.Reason as axis_reason
use Rattle.axis_state.specs.States.{is_error_stop}
use Rattle.buffer_modes.specs.Queue.{is_aborting, is_active_at_once, noted}
use Rattle.command_changes.specs.Axis as axis
use Rattle.command_changes.specs.Failing.{failing}
use Rattle.command_changes.specs.Group as group
use Rattle.command_core.specs.Changes.{Change, all_changed, awaits, changed, ends, holds, joins, replaced, resets}
use Rattle.command_core.specs.CommandState.{CommandState, queue_of}
use Rattle.command_pool.specs.Waiting.{last_of}
use Rattle.command_pool.specs.declared.ending.Finish.TheVariants as finish
use Rattle.plc_types.specs.declared.kind.BlockKind.{BlockKind}
use Rattle.plc_types.specs.declared.kind.BlockKind.TheVariants as kind
use Rattle.command_pool.specs.declared.wanted.Wanted.{Wanted}
use Rattle.plc_types.specs.declared.inputs.Inputs.{Inputs}
use Rattle.group_core.specs.Calls as group_calls
use Rattle.group_core.specs.Cores as groups
use Rattle.group_core.specs.Refusals as group_refusals
use Rattle.group_core.specs.States.{may_fail}
use Rattle.group_core.specs.declared.look.GroupLook.{GroupLook}
use Rattle.group_core.specs.declared.reason.Reason as group_reason
use Rattle.motion_history.specs.Setup.{Setup}
use Rattle.motion_kernel.specs.Machine.{Machine, group_core_at}
use Rattle.motion_kernel.specs.calls.Asking.{wanted_of}
use Rattle.motion_kernel.specs.calls.Calls.{with_execute, without_owner}
use Rattle.motion_kernel.specs.declared.memberships.Membership.{Membership}
use Rattle.motion_kernel.specs.looks.GroupLooks.{group_look}
use Rattle.motion_kernel.specs.members.Members.{membership_of}
use Rattle.motion_kernel.proofs.Sizes.{by_if}
use Rattle.motion_laws.specs.calls.Axis as on_axis
use Rattle.motion_laws.specs.calls.Axis.{AxisCall}
use Rattle.motion_laws.specs.calls.Group as on_group
use Rattle.motion_laws.specs.calls.Group.{GroupCall, by_power_off}
use Rattle.motion_kernel.specs.calls.Requests.{Request, for_axis_command, for_group_command, for_nothing, for_power}
use Rattle.motion_kernel.specs.owners.Objects.{a_group}
use Rattle.motion_laws.specs.results.Effects.{Effect, axis_changes, effect_by_request, group_changes}
use Rattle.motion_kernel.specs.owners.Blocks.{command_state_at}
use Rattle.motion_laws.proofs.entries.numbers.Notes.{AllTell, aborts_plain, all_plain, more, plain}

-- changes by which no command ends by an error
abbrev pub TellNone : List Change → Type 0
TellNone [] = Unit {0}
TellNone (joins w ∷ xs) = TellNone xs
TellNone (awaits owner ∷ xs) = TellNone xs
TellNone (holds stops ∷ xs) = TellNone xs
TellNone (replaced finish.Aborted next ws ∷ xs) = TellNone xs
TellNone (x ∷ xs) = ⊥

pub none_told : (P : ℕ → ℕ → Type 0) (xs : List Change) (c : CommandState) → TellNone xs →
    AllTell P c.notes → AllTell P (all_changed xs c).notes
none_told P [] c q h = h
none_told P (joins w ∷ xs) c q h =
    none_told P xs (changed (joins w) c) q
    (more P c.notes (noted (queue_of c) w) h (by_if (AllTell P) (is_aborting w.mode) _ []
    (all_plain P (queue_of c) finish.Aborted aborts_plain) tt))
none_told P (awaits owner ∷ xs) c q h =
    none_told P xs (changed (awaits owner) c) q
    (more P c.notes _ h (plain P c.reset finish.Aborted aborts_plain))
none_told P (holds stops ∷ xs) c q h = none_told P xs (changed (holds stops) c) q h
none_told P (replaced finish.Aborted next ws ∷ xs) c q h =
    none_told P xs (changed (replaced finish.Aborted next ws) c) q
    (more P c.notes _ h (all_plain P (queue_of c) finish.Aborted aborts_plain))
none_told P (replaced finish.Done next ws ∷ xs) c q h = absurd q
none_told P (replaced (finish.Error n) next ws ∷ xs) c q h = absurd q
none_told P (ends f t ∷ xs) c q h = absurd q
none_told P (resets ∷ xs) c q h = absurd q

-- of an axis
axis_admitted : (e : Entry) (w : Wanted) (c : axes.Core) →
    TellNone (axis.entered_changes e w c)
axis_admitted Awaits w c = tt
axis_admitted Leaves w c = tt
axis_admitted Joins w c =
    by_if TellNone (is_active_at_once (axis_calls.queue_in c) w)
    (joins w ∷ holds (axis.is_stop w.kind) ∷ []) (joins w ∷ []) tt tt

axis_asked : (r : Option axis_reason.Reason) (w : Wanted) (c : axes.Core) →
    TellNone (axis.asked_changes r w c)
axis_asked None w c =
    axis_admitted (profile_of w.kind).entry
    (with_target (known_target_of c.axis (last_of c.waiting) w) w) c
axis_asked (Some r) w c = tt

axis_command : (q : Asked) (c : axes.Core) → TellNone (axis.command_changes q c)
unfolding axis.command_changes
axis_command q c = axis_asked (axis_refusals.refusal_of q) q.wanted c

axis_power : (enable : Bool) (c : axes.Core) → TellNone (axis.power_changes enable c)
unfolding axis.power_changes
axis_power true c = tt
axis_power false c = by_if TellNone (is_error_stop c.axis.state) [] _ tt tt

-- of a group
group_line : (w : Wanted) (c : groups.Core) → TellNone (group.line_changes w c)
group_line w c =
    by_if TellNone (group_calls.waits_for_rest w c.path) _ _ tt
    (by_if TellNone (is_active_at_once (group_calls.queue_in c) w)
    (joins w ∷ holds (group.is_stop w.kind) ∷ []) (joins w ∷ []) tt tt)

group_admitted : (x : BlockKind) (w : Wanted) (c : groups.Core) →
    TellNone (group.admitted_changes x w c)
group_admitted kind.GroupReset w c = tt
group_admitted kind.GroupStop w c = tt
group_admitted kind.GroupHalt w c = tt
group_admitted kind.MoveLinearAbsolute w c = group_line w c
group_admitted _ w c = tt

group_asked : (r : Option group_reason.Reason) (w : Wanted) (c : groups.Core) →
    TellNone (group.asked_changes r w c)
group_asked None w c = group_admitted w.kind w c
group_asked (Some r) w c = tt

pub group_command : (w : Wanted) (jerk : ℤ) (members : GroupLook) (c : groups.Core) →
    TellNone (group.command_changes w jerk members c)
unfolding group.command_changes
group_command w jerk members c =
    group_asked (group_refusals.refusal_of (group_calls.asked_in c w jerk members)) w c

-- no call ends a command on an axis by an error
pub axis_none : (x : AxisCall) (c : axes.Core) → TellNone (axis_changes x c)
axis_none (on_axis.asked q) c = axis_command q c
axis_none (on_axis.power enable) c = axis_power enable c
axis_none (on_axis.led on) c = tt
axis_none on_axis.rests c = tt

-- and on a group a Power off of a member alone, by 102
pub record FailsGroup (m : Machine) (j : ℕ) (x : Effect) : Type 0 where
  pub changes : x.changes ≡ failing 102
  pub commands : x.commands ≡ command_state_at m (a_group j)

abbrev MayFailGroup : Machine → ℕ → Effect → Type 0
MayFailGroup m j x = TellNone x.changes ⊎ FailsGroup m j x

abbrev Makes : Machine → ℕ → List Change → Type 0
Makes m j xs = MayFailGroup m j (record { commands = command_state_at m (a_group j); changes = xs })

group_off : (m : Machine) (j : ℕ) → Makes m j (group.power_off_changes (group_core_at m j))
unfolding group.power_off_changes
group_off m j =
    by_if (Makes m j) (may_fail (group_core_at m j).group.state) (failing 102) []
    (inr (record { changes = refl; commands = refl })) (inl tt)

abbrev Asks : Machine → ℕ → GroupCall → Type 0
Asks m j x = Makes m j (group_changes x (group_core_at m j))

member_off : (at : Option Membership) (m : Machine) (j : ℕ) → Asks m j (by_power_off at j)
member_off None m j = inl tt
member_off (Some at) m j =
    by_if (Asks m j) (nat_eq at.group j) on_group.power_off on_group.rests (group_off m j) (inl tt)

pub group_request : (s : Setup) (r : Request) (k : ℕ) (i : Inputs) (m : Machine) (j : ℕ) →
    MayFailGroup m j (effect_by_request s r k i m (a_group j))
group_request s for_nothing k i m j = inl tt
group_request s (for_power n enable) k i m j =
    by_if (Asks m j) enable on_group.rests (by_power_off (membership_of s n) j) (inl tt)
    (member_off (membership_of s n) m j)
group_request s (for_axis_command b) k i m j = inl tt
group_request s (for_group_command b) k i m j =
    let x = without_owner k (with_execute k i m) in
    let w = wanted_of k b.kind i in
    let look = group_look s x j 0 in
    inl (by_if (λ y. TellNone (group_changes y (group_core_at x j))) (nat_eq b.object j)
    (on_group.asked w i.jerk look) on_group.rests
    (group_command w i.jerk look (group_core_at x j)) tt)
