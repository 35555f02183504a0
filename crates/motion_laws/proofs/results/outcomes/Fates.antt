-- How the active command of an axis or a group ends by its effect is how it ends by its fate.
-- for: machines_can_stand, moves_arrive_in_time, paths_end_in_time and others
use Rattle.std.specs.Prelude.{◌≡◌, refl, Bool, true, false, if◌then◌else◌, Option, Some, None, List, [], ◌∷◌, ◌++◌, is_some, slice_get}
use Rattle.std.proofs.Common.{◌∙◌, sym}
use Rattle.axis_core.specs.Cores as axis_cores
use Rattle.buffer_modes.specs.Fates.{Fate}
use Rattle.buffer_modes.specs.declared.reset.PendingReset.{PendingReset}
use Rattle.command_changes.specs.Axis as axis
use Rattle.command_changes.specs.Fates.{AreAxisFates, AreGroupFates}
use Rattle.command_changes.specs.Group as group
use Rattle.command_core.specs.Changes.{Change, changed, resets}
use Rattle.command_core.specs.CommandState.{CommandState}
use Rattle.command_core.specs.Fates.{fate_in, fate_of, followed_by}
use Rattle.command_pool.specs.declared.ending.Finish.{Finish}
use Rattle.command_pool.specs.declared.wanted.Wanted.{Wanted}
use Rattle.group_core.specs.Cores.{Core}
use Rattle.group_core.specs.blocks.Reset.{may_reset}
use Rattle.group_core.specs.declared.group.Group.{Group}
use Rattle.motion_history.specs.Entries.{Entry, call, cycle, end_of}
use Rattle.motion_history.specs.Setup.{Setup}
use Rattle.motion_kernel.specs.Histories.{inputs_of}
use Rattle.motion_kernel.specs.Machine.{Machine, axis_core_at, group_core_at}
use Rattle.motion_kernel.specs.cycles.Cycles.{look_of_axis, look_of_group}
use Rattle.motion_laws.specs.arrivals.AxisFates as axis_entry
use Rattle.motion_laws.specs.arrivals.GroupFates as group_entry
use Rattle.motion_laws.specs.calls.Axis as on_axis
use Rattle.motion_laws.specs.calls.Axis.{AxisCall}
use Rattle.motion_laws.specs.calls.Group as on_group
use Rattle.motion_laws.specs.calls.Group.{GroupCall}
use Rattle.motion_kernel.specs.calls.Requests.{machine_asked, request_of}
use Rattle.motion_laws.specs.entries.GroupEvents.{moved_in}
use Rattle.motion_kernel.specs.owners.Objects.{a_group, an_axis, Object}
use Rattle.motion_laws.specs.results.Effects.{axis_changes, effect_in, fate_by, group_changes}
use Rattle.motion_kernel.specs.owners.Blocks.{command_state_at}
use Rattle.motion_laws.specs.results.Results.{end_in}

-- a reset that is done ends no active command
followed_same : (e : Option Finish) (b : Option Wanted) (f g : Fate) → f.ends ≡ g.ends → (followed_by e b f).ends ≡ (followed_by e b g).ends
followed_same None None f g same = same
followed_same None (Some w) f g same = refl
followed_same (Some x) b f g same = refl

reset_ends_none : (o : Option PendingReset) (on_path : Bool) (g : Group) (c : CommandState) → (fate_in (group.reset_changes_by o on_path g) c).ends ≡ None
reset_ends_none None on_path g c = refl
reset_ends_none (Some r) on_path g c = by (may_reset on_path g)
  where
    by : (b : Bool) → (fate_in (if b then resets ∷ [] else []) c).ends ≡ None
    by true = refl
    by false = refl

then_none : (xs ys : List Change) (c : CommandState) → ((d : CommandState) → (fate_in ys d).ends ≡ None) → (fate_in (xs ++ ys) c).ends ≡ (fate_in xs c).ends
then_none [] ys c none = none c
then_none (x ∷ xs) ys c none =
    followed_same (fate_of x c).ends (fate_of x c).begins (fate_in (xs ++ ys) (changed x c)) (fate_in xs (changed x c)) (then_none xs ys (changed x c) none)

resets_end_none : (core : Core) (d : CommandState) → (fate_in (group.reset_changes core) d).ends ≡ None
unfolding group.reset_changes
resets_end_none core d = reset_ends_none core.group.reset (is_some core.path) core.group d

-- by what a call asks of an axis, and of a group
pub axis_ends : AreAxisFates → (x : AxisCall) (c : axis_cores.Core) →
    (fate_in (axis_changes x c) (axis.command_state_of c)).ends ≡ (axis_entry.call_fate x c).ends
axis_ends laws (on_axis.asked q) c = sym (laws.command q c).ends
axis_ends laws (on_axis.power enable) c = sym (laws.power enable c).ends
axis_ends laws (on_axis.led on) c = refl
axis_ends laws on_axis.rests c = refl

pub group_ends : AreGroupFates → (x : GroupCall) (c : Core) →
    (fate_in (group_changes x c) (group.command_state_of c)).ends ≡ (group_entry.call_fate x c).ends
group_ends laws (on_group.asked w jerk members) c = sym (laws.command w jerk members c).ends
group_ends laws on_group.power_off c = sym (laws.power_off c).ends
group_ends laws on_group.rests c = refl

module _ (axes : AreAxisFates) (groups : AreGroupFates) (s : Setup) where
  -- in any entry
  pub same_ends : (m : Machine) (e : Entry) (o : Object) → (fate_by (effect_in s m e o)).ends ≡ end_in s m e o
  same_ends m (call k i reply) (an_axis n) =
      let r = request_of (slice_get s.blocks k) k i m in
      let x = machine_asked r k i m in
      axis_ends axes (on_axis.by_request s r k i x n) (axis_core_at x n)
  same_ends m (call k i reply) (a_group j) =
      let r = request_of (slice_get s.blocks k) k i m in
      let x = machine_asked r k i m in
      group_ends groups (on_group.by_request s r k i x j) (group_core_at x j)
  same_ends m (cycle c rows grows) (an_axis n) = sym (axes.cycle (look_of_axis s m (inputs_of rows) n) (axis_core_at m n)).ends
  same_ends m (cycle c rows grows) (a_group j) =
      let look = look_of_group s m (inputs_of rows) j in
      let core = group_core_at m j in
      then_none (group.cycle_changes look core) (group.reset_changes (group_core_at (moved_in s m (inputs_of rows)) j)) (command_state_at m (a_group j))
      (resets_end_none (group_core_at (moved_in s m (inputs_of rows)) j))
      ∙ sym (groups.cycle look core).ends
  same_ends m (end_of task) (an_axis n) = refl
  same_ends m (end_of task) (a_group j) = refl
