-- Rows show errors exactly in the states of errors, in every entry of a past.
-- for: machines_can_stand, rows_show_errors, errors_have_causes
use Rattle.std.specs.Prelude.{ℕ, zero, suc, ◌<◌, ◌+◌, List, [], ◌∷◌, ◌++◌, length, map}
use Rattle.std.proofs.Common.{arith, ap, sym, subst, ◌∙◌}
use Rattle.axis_core.specs.Cycles.{axis_at_opening}
use Rattle.axis_core.specs.Shown as axis_shown
use Rattle.axis_core.specs.declared.axis.Axis.{Axis}
use Rattle.axis_state.specs.States as axis
use Rattle.plc_types.specs.declared.axis.AxisDef.{AxisDef}
use Rattle.plc_types.specs.declared.axis.AxisRow.{AxisRow}
use Rattle.group_core.specs.Shown as group_shown
use Rattle.group_core.specs.States as group
use Rattle.group_core.specs.declared.group.Group.{Group}
use Rattle.plc_types.specs.declared.group.GroupRow.{GroupRow}
use Rattle.motion_history.specs.Entries.{Entry, call, cycle, cycle_count, end_of}
use Rattle.motion_history.specs.Setup.{Setup, IsSetup}
use Rattle.motion_history.specs.declared.config.GroupDef.{GroupDef}
use Rattle.motion_kernel.proofs.kept.Machine.{kept_by_cycle}
use Rattle.motion_kernel.specs.Histories.{Follows, IsCycleOf, IsPast, inputs_of, replay}
use Rattle.motion_kernel.specs.Machine.{Machine, PlacedGroup, axis_among, group_among, group_at_opening, machine_at_opening}
use Rattle.motion_kernel.specs.calls.Calls.{after_call}
use Rattle.motion_kernel.specs.cycles.Cycles.{after_cycle}
use Rattle.motion_kernel.specs.kept.Machine.{AreWhole, IsMachineKept}
use Rattle.motion_laws.proofs.Histories.{past_kept, past_so_far}
use Rattle.motion_laws.proofs.entries.errors.Calls.{call_shown}
use Rattle.motion_laws.proofs.entries.errors.Cycles.{cycle_shown}
use Rattle.motion_laws.specs.Standing.{AreAllShown, ShowsTruly}
use Rattle.motion_laws.proofs.entries.errors.Laws.{AxisErrors, ErrorLaws, GroupErrors}
use Rattle.motion_laws.proofs.entries.events.Histories.{IsEntry, entry_in}
use Rattle.motion_laws.proofs.entries.rows.Cycles.{cycle_shows}
use Rattle.motion_kernel.proofs.owners.commands.Events.{there_where}
use Rattle.motion_laws.specs.entries.Errors.{ErrorsShow, ShowErrors, ShowsAxisError, ShowsGroupError}
use Rattle.motion_laws.specs.entries.Rows.{ShowsAxis, ShowsGroup}

-- at opening
axes_opened : AxisErrors → (ds : List AxisDef) (n : ℕ) → n < length ds →
    axis_shown.IsShown (axis_among (map axis_at_opening ds) n)
axes_opened laws [] n l = absurd (omega arith)
axes_opened laws (d ∷ ds) zero l = laws.opened d
axes_opened laws (d ∷ ds) (suc n) l = axes_opened laws ds n (omega arith)

groups_opened : GroupErrors → (ds : List GroupDef) (j : ℕ) → j < length ds →
    ShowsTruly (group_among (map group_at_opening ds) j).group
groups_opened laws [] j l = absurd (omega arith)
groups_opened laws (d ∷ ds) zero l = laws.opened d.count
groups_opened laws (d ∷ ds) (suc j) l = groups_opened laws ds j (omega arith)

pub opening_shown : ErrorLaws → (s : Setup) → AreAllShown s (machine_at_opening s)
opening_shown laws s = record {
  axes = axes_opened laws.axes s.axes;
  groups = groups_opened laws.groups s.groups;
}

-- after the entries of a history
pub replay_shown : ErrorLaws → (s : Setup) (cycles : ℕ) (m : Machine) (es : List Entry) → AreWhole s →
    IsMachineKept s m → AreAllShown s m → Follows s cycles m es → AreAllShown s (replay s m es)
replay_shown laws s cycles m [] whole h shown f = shown
replay_shown laws s cycles m (call k i reply ∷ es) whole h shown f =
    replay_shown laws s (cycles + cycle_count (call k i reply)) (after_call s m k i) es whole
    (laws.machines.call s m k i whole f.0.0 h) (call_shown laws s m k i whole f.0.0 h shown) f.1
replay_shown laws s cycles m (cycle c rows grows ∷ es) whole h shown f =
    replay_shown laws s (cycles + cycle_count (cycle c rows grows))
    (after_cycle s m (inputs_of rows)) es whole
    (kept_by_cycle laws.machines s m rows grows h f.0.1)
    (cycle_shown laws s m (inputs_of rows) h shown) f.1
replay_shown laws s cycles m (end_of task ∷ es) whole h shown f =
    replay_shown laws s (cycles + cycle_count (end_of task)) m es whole h shown f.1

-- a row that shows an axis, and one that shows a group
axis_row : (r : AxisRow) (a : Axis) → ShowsAxis r a → axis_shown.IsShown a → ShowsAxisError r
axis_row r a row shown = record {
  stopped = λ e. subst axis_shown.IsAxisError (sym row.error)
      (shown.stopped (ap axis.is_error_stop (sym row.state) ∙ e));
  clear = λ e. row.error ∙ shown.clear (ap axis.is_error_stop (sym row.state) ∙ e);
}

group_row : (r : GroupRow) (g : Group) → ShowsGroup r g → ShowsTruly g → ShowsGroupError r
group_row r g row truly =
    let shown = truly.shown in
    record {
      stopped = λ e. subst group_shown.IsGroupError (sym row.error)
          (truly.number (shown.stopped (ap group.is_error_stop (sym row.state) ∙ e)));
      clear = λ e. row.error ∙ shown.clear (ap group.is_error_stop (sym row.state) ∙ e);
    }

-- a group that is not there shows none
group_anywhere : GroupErrors → (gs : List PlacedGroup) →
    ((j : ℕ) → j < length gs → ShowsTruly (group_among gs j).group) → (j : ℕ) →
    ShowsTruly (group_among gs j).group
group_anywhere laws [] h j = laws.opened 0
group_anywhere laws (g ∷ gs) h zero = h zero (omega arith)
group_anywhere laws (g ∷ gs) h (suc j) = group_anywhere laws gs (λ k b. h (suc k) (omega arith)) j

cycle_errors : ErrorLaws → (s : Setup) (m : Machine) (rows : List AxisRow) (grows : List GroupRow) →
    IsMachineKept s m → AreAllShown s m → IsCycleOf s m rows grows → ShowErrors rows grows
cycle_errors laws s m rows grows h shown is =
    let ins = inputs_of rows in
    let x = after_cycle s m ins in
    let show = cycle_shows laws.machines s m rows grows h is in
    let all = cycle_shown laws s m ins h shown in
    let kept = kept_by_cycle laws.machines s m rows grows h is in
    let before = h.sized in
    let axes_before = before.axes in
    let sizes = kept.sized in
    let size = sizes.groups in
    let answers = is.answers in
    record {
      axes = λ n r at. let there = there_where rows n r at in
          axis_row r (axis_among x.axes n) (show.axes n r at) (all.axes n (omega arith));
      groups = λ j r at. group_row r (group_among x.groups j).group (show.groups j r at)
          (group_anywhere laws.groups x.groups (λ k b. all.groups k (omega arith)) j);
    }

entry_errors : ErrorLaws → (s : Setup) (m : Machine) (e : Entry) → IsMachineKept s m →
    AreAllShown s m → IsEntry s m e → ErrorsShow e
entry_errors laws s m (call k i reply) h shown is = tt
entry_errors laws s m (cycle n rows grows) h shown is =
    let one = is.is in cycle_errors laws s m rows grows h shown one.1
entry_errors laws s m (end_of task) h shown is = tt

pub errors_show : ErrorLaws → (s : Setup) (made more : List Entry) (e : Entry) → IsSetup s →
    AreWhole s → IsPast s (made ++ e ∷ more) → ErrorsShow e
errors_show laws s made more e setup whole past =
    let start = machine_at_opening s in
    let so_far = past_so_far s made (e ∷ more) past in
    entry_errors laws s (replay s start made) e
    (past_kept laws.machines s made setup whole so_far)
    (replay_shown laws s 0 start made whole (laws.machines.opened s setup whole)
    (opening_shown laws s) so_far.follows)
    (entry_in s 0 start made more e past.follows)
