-- What a cycle changes of the commands of an axis, and what becomes of the active one.
-- for: axis_fates_are_told, axis_changes_are_made
use Rattle.std.specs.Prelude.{◌≡◌, refl, ℕ, Bool, true, false, ◌&&◌, nat_eq, ℤ, ◌+ℤ◌, Option, Some, None, Result, Ok, Err, List, [], ◌∷◌, ◌++◌, slice_get, if◌then◌else◌, ◌≢◌}
use Rattle.std.proofs.Common.{◌∙◌, ap, sym, subst}
use Rattle.std.proofs.lemmas.List.{append-nil}
use Rattle.axis_core.specs.Cores.{Core, axis_under, axis_under_by, core_after_end, core_after_ending, core_after_error, core_after_take_over, core_taken_in}
use Rattle.axis_core.specs.Cycles.{Advance, advance_by_command, advance_by_progress, advance_in_cycle, advance_without_error, core_after_advance, core_after_cycle, core_after_going_on, core_after_reset, core_after_step, progress_in_cycle}
use Rattle.axis_core.specs.Drives.{answer_error_of, axis_at_drive, is_driven}
use Rattle.axis_core.specs.Profiles.{profile_of}
use Rattle.axis_core.specs.blocks.Halts.{axis_after_stop, leaves_stopping}
use Rattle.axis_core.specs.blocks.Moves.{position_of, target_of, with_target}
use Rattle.axis_core.specs.blocks.Path.{place_on_path}
use Rattle.axis_core.specs.blocks.Reset.{after_reset, may_reset, reset_axis, reset_notes}
use Rattle.axis_core.specs.declared.axis.Axis.{Axis}
use Rattle.axis_core.specs.declared.look.AxisLook.{AxisLook}
use Rattle.axis_core.specs.declared.profile.Goal.{Goal}
use Rattle.axis_core.specs.declared.profile.Goal.TheVariants.{FromBefore}
use Rattle.axis_core.specs.declared.progress.Progress.{Progress}
use Rattle.axis_state.specs.Diagram.{next_of}
use Rattle.axis_state.specs.States.{is_error_stop}
use Rattle.axis_state.specs.declared.diagram.AxisEvent.TheVariants.{StopReleased}
use Rattle.buffer_modes.specs.Queue.{active_note}
use Rattle.buffer_modes.specs.declared.reset.PendingReset.{PendingReset}
use Rattle.plc_types.specs.declared.drive.DriveIn.{DriveIn}
use Rattle.command_core.specs.Changes as change
use Rattle.command_core.specs.Changes.{Change, all_changed, ends, holds, resets, replaced, with_known}
use Rattle.command_core.specs.Laws.{AreInOrder}
use Rattle.command_pool.specs.Waiting.{told_to}
use Rattle.command_pool.specs.declared.ending.Finish.{Finish}
use Rattle.plc_types.specs.declared.kind.BlockKind.{BlockKind}
use Rattle.command_pool.specs.declared.wanted.Wanted.{Wanted}
use Rattle.motion_numbers.specs.Ranges.{is_outside}
use Rattle.command_changes.specs.Failing.{failing}
use Rattle.command_changes.specs.Axis.{advance_changes, command_state_of, cycle_changes, ended_changes, ending_changes, is_stop, release_changes, reset_changes, step_changes, taking_changes_in}
use Rattle.command_changes.proofs.Choices.{by_if, either}
use Rattle.command_core.specs.Brought.{BringNone}
use Rattle.axis_core.specs.Fates.{cycle_fate, ending_fate, is_blended, moved_fate, taker_in, taker_of}
use Rattle.buffer_modes.specs.Fates.{Fate, goes_on}
use Rattle.command_core.specs.CommandState.{CommandState}
use Rattle.command_pool.specs.declared.ending.Finish.TheVariants as finish
use Rattle.buffer_modes.specs.Fates as fates
use Rattle.command_changes.proofs.Alike.{Cycled, Goes, both_go, fails, then_goes, with_active}
use Rattle.command_changes.proofs.Fates.{AreQuiet, By, single}
use Rattle.command_changes.proofs.axis.Calls.{failed_makes, holder}

-- a cycle makes these changes of the commands, and this of the active one
abbrev Cycles : Core → Fate → List Change → Core → Type 0
Cycles c f xs d = Cycled (command_state_of c) f xs (command_state_of d)

-- or the active one goes on
abbrev Stands : Core → List Change → Core → Type 0
Stands c xs d = Goes (command_state_of c) xs (command_state_of d)

-- the first that waits takes over
abbrev ending : Finish → List Wanted → Core → Core
ending f ws c = record c { axis = record c.axis { active = None; reached = false }; waiting = ws; notes = c.notes ++ active_note f c.axis.active }

-- where the active command ends so and these wait, this one begins by these changes
record Takes (f : Finish) (ws : List Wanted) (c : Core) (next : Option Wanted) (xs : List Change) (d : Core) : Type 0 where
  makes : command_state_of d ≡ all_changed xs (record (command_state_of c) { waiting = ws })
  none : BringNone xs
  fated : (blends : Bool) (v : Wanted) → By (record (command_state_of c) { active = Some v; waiting = ws }) (record { ends = Some f; begins = next; blends = blends }) xs

begun_takes : (t : Option ℤ) (f : Finish) (w v : Wanted) (ws : List Wanted) (c : Core) → with_known t w ≡ v → v.kind ≡ w.kind →
    Takes f (w ∷ ws) c (Some v) (ends f t ∷ holds (is_stop w.kind) ∷ []) (record (ending f ws c) { axis = axis_under v (ending f ws c).axis })
unfolding axis_under_by
begun_takes t f w v ws c e h = record {
  makes =
      ap (λ o. record (all_changed (ends f t ∷ []) (record (command_state_of c) { waiting = w ∷ ws })) { active = Some v; hold = o }) (holder v.kind v)
      ∙ (λ i. record (all_changed (ends f t ∷ []) (record (command_state_of c) { waiting = w ∷ ws })) { active = Some (sym e i); hold = change.hold_by (is_stop (h i)) (Some (sym e i)) });
  none = (tt, (tt, tt));
  fated = λ blends u. record { ends = refl; begins = ap Some (sym e) };
}

relative_takes : (b : Bool) (f : Finish) (w : Wanted) (t : ℤ) (ws : List Wanted) (c : Core) →
    Takes f (w ∷ ws) c (if b then None else Some (with_target (Some t) w)) (if b then ends f None ∷ failing 106 else ends f (Some t) ∷ holds (is_stop w.kind) ∷ [])
    (if b then core_after_error 106 (record (ending f ws c) { axis = record (ending f ws c).axis { active = Some w } })
    else record (ending f ws c) { axis = axis_under (with_target (Some t) w) (ending f ws c).axis })
relative_takes true f w t ws c = record {
  makes = failed_makes 106 (record (ending f ws c) { axis = record (ending f ws c).axis { active = Some w } });
  none = (tt, fails 106);
  fated = λ blends v. record { ends = refl; begins = refl };
}
relative_takes false f w t ws c = begun_takes (Some t) f w (with_target (Some t) w) ws c refl refl

goal_takes : (g : Goal) (t : Option ℤ) (f : Finish) (w : Wanted) (ws : List Wanted) (c : Core) →
    Takes f (w ∷ ws) c (taker_in g t w c.axis) (taking_changes_in g t f w c.axis) (core_taken_in g t w (ending f ws c))
goal_takes (FromBefore base) None f w ws c =
    let t = c.axis.setpoint +ℤ position_of w in relative_takes (is_outside c.axis.limits.lo t c.axis.limits.hi) f w t ws c
goal_takes (FromBefore base) (Some t) f w ws c = begun_takes None f w w ws c refl refl
goal_takes _ t f w ws c = begun_takes None f w w ws c refl refl

first_takes : (f : Finish) (ws : List Wanted) (c : Core) → c.waiting ≡ ws →
    Takes f ws c (taker_of ws c.axis) (ended_changes f ws c.axis) (core_after_take_over ws (ending f c.waiting c))
first_takes f [] c e = record { makes = rw e refl; none = (tt, tt); fated = λ blends v. record { ends = refl; begins = refl } }
first_takes f (w ∷ ws) c e = goal_takes (profile_of w.kind).goal w.target f w ws c

-- an active command ends so, or goes on
ended_cycles : (blends : Bool) (f : Finish) (c : Core) → c.axis.active ≢ None →
    Cycles c (record { ends = Some f; begins = taker_of c.waiting c.axis; blends = blends }) (ended_changes f c.waiting c.axis) (core_after_end f c)
unfolding core_after_end
ended_cycles blends f c some =
    let takes = first_takes f c.waiting c refl in
    let P : Option Wanted → Type 0 = λ o. By (record (command_state_of c) { active = o })
    (record { ends = Some f; begins = taker_of c.waiting c.axis; blends = blends }) (ended_changes f c.waiting c.axis) in
    record { makes = takes.makes; none = takes.none; fated = with_active P c.axis.active some (takes.fated blends) }

ending_cycles : (blends : Bool) (o : Option Finish) (c : Core) → (o ≢ None → c.axis.active ≢ None) →
    Cycles c (ending_fate blends o c.waiting c.axis) (ending_changes o c.waiting c.axis) (core_after_ending o c)
ending_cycles blends None c some = record { makes = refl; none = tt; fated = record { ends = refl; begins = refl } }
ending_cycles blends (Some (finish.Error n)) c some =
    let P : Option Wanted → Type 0 = λ o. By (record (command_state_of c) { active = o }) (record { ends = Some (finish.Error n); begins = None; blends = false }) (failing n) in
    record { makes = failed_makes n c; none = fails n; fated = with_active P c.axis.active (some (λ e. cc)) (λ v. record { ends = refl; begins = refl }) }
ending_cycles blends (Some finish.Done) c some = ended_cycles blends finish.Done c (some (λ e. cc))
ending_cycles blends (Some finish.Aborted) c some = ended_cycles blends finish.Aborted c (some (λ e. cc))

-- a step leaves the commands
abbrev pub Stays : Core → Axis → Type 0
Stays c a = command_state_of (record c { axis = a }) ≡ command_state_of c

result_stays : (x : BlockKind) (t : ℤ) (r : Result Progress ℕ) (c : Core) → Stays c (advance_by_progress x t c.axis r).axis
result_stays x t (Ok p) c = refl
result_stays x t (Err n) c = refl

command_stays : (active next : Option Wanted) (look : AxisLook) (c : Core) → Stays c (advance_by_command active next look c.axis).axis
command_stays None next look c = refl
command_stays (Some w) next look c = result_stays w.kind (target_of w) (progress_in_cycle c.axis w next look) c

placed_stays : (o : Option ℤ) (next : Option Wanted) (look : AxisLook) (c : Core) → Stays c (advance_without_error o next look c.axis).axis
placed_stays None next look c = command_stays c.axis.active next look c
placed_stays (Some place) next look c = by_if (Stays c) look.path_ends _ _ (λ h. refl) (λ h. refl)

pub advance_stays : (next : Option Wanted) (look : AxisLook) (c : Core) → Stays c (advance_in_cycle next look c.axis).axis
unfolding advance_in_cycle
advance_stays next look c =
    by_if (λ (x : Advance). Stays c x.axis) (is_error_stop c.axis.state) _ _ (λ h. refl) (λ h. placed_stays (place_on_path c.axis look) next look c)

-- only an active command ends by a step
ends_by : (active next : Option Wanted) (look : AxisLook) (a : Axis) → (advance_by_command active next look a).ending ≢ None → active ≢ None
ends_by None next look a h = absurd (h refl)
ends_by (Some w) next look a h = λ n. absurd (cc)

ends_at : (place : Option ℤ) (next : Option Wanted) (look : AxisLook) (a : Axis) → (advance_without_error place next look a).ending ≢ None → a.active ≢ None
ends_at (Some place) next look a h = absurd (h refl)
ends_at None next look a h = ends_by a.active next look a h

advance_ends : (next : Option Wanted) (look : AxisLook) (a : Axis) → (advance_in_cycle next look a).ending ≢ None → a.active ≢ None
unfolding advance_in_cycle
advance_ends next look a =
    by_if (λ (x : Advance). x.ending ≢ None → a.active ≢ None) (is_error_stop a.state) _ _
    (λ e h. absurd (h refl)) (λ e. ends_at (place_on_path a look) next look a)

-- leaving Stopping, an error of the answer and a Reset
released_stands : (look : AxisLook) (c : Core) → Stands c (release_changes look c.axis) (record c { axis = axis_after_stop look c.axis })
released_stands look c =
    either (λ (xs : List Change) (a : Axis). Stands c xs (record c { axis = a })) (leaves_stopping look c.axis)
    (holds false ∷ []) [] (record c.axis { state = next_of StopReleased; hold = None }) c.axis
    (λ h. record { makes = refl; none = (tt, tt); quiet = ((λ d. refl), tt) }) (λ h. record { makes = refl; none = tt; quiet = tt })

reset_stands : (o : Option PendingReset) (input : DriveIn) (c : Core) → c.axis.reset ≡ o →
    Stands c (reset_changes o input c.axis) (record c { axis = reset_axis o input c.axis; notes = c.notes ++ reset_notes o input c.axis })
reset_stands None input c e = record { makes = ap (λ ns. record (command_state_of c) { notes = ns }) (append-nil c.notes); none = tt; quiet = tt }
reset_stands (Some p) input c e = by (may_reset input c.axis)
  where
    by : (b : Bool) → Stands c (if b then resets ∷ [] else []) (record c {
      axis = (if b then after_reset c.axis else c.axis);
      notes = c.notes ++ (if b then told_to p.owner finish.Done else []);
    })
    by true = record { makes = rw e refl; none = (tt, tt); quiet = ((λ d. refl), tt) }
    by false = record { makes = ap (λ ns. record (command_state_of c) { notes = ns }) (append-nil c.notes); none = tt; quiet = tt }

module _ (order : AreInOrder) where
  -- a driven spell goes on, or does not
  moved_cycles : (look : AxisLook) (c : Core) → Cycles c (moved_fate look c) (advance_changes look c) (core_after_going_on look c)
  moved_cycles look c =
      let step = advance_in_cycle (slice_get c.waiting 0) look c.axis in
      let moved = core_after_advance look c in
      let same = advance_stays (slice_get c.waiting 0) look c in
      let ends : Cycles (record c { axis = step.axis }) (moved_fate look c) (ending_changes step.ending c.waiting step.axis) moved =
      ending_cycles (is_blended c.axis.active c) step.ending (record c { axis = step.axis })
      (λ n e. advance_ends (slice_get c.waiting 0) look c.axis n (ap (λ (s : CommandState). s.active) (sym same) ∙ e)) in
      then_goes order (subst (λ s. Cycled s (moved_fate look c) (ending_changes step.ending c.waiting step.axis) (command_state_of moved)) same ends) (released_stands look moved)

  stepped_cycles : (look : AxisLook) (driven : Bool) (c : Core) →
      Cycles c (if driven && c.axis.driven then moved_fate look c else goes_on) (step_changes look driven c) (core_after_step look driven c)
  stepped_cycles look driven c = by (driven && c.axis.driven)
    where
      by : (b : Bool) → Cycles c (if b then moved_fate look c else goes_on) (if b then advance_changes look c else [])
          (if b then core_after_going_on look c else record c { axis = axis_at_drive driven look.input c.axis })
      by true = moved_cycles look c
      by false = record { makes = refl; none = tt; fated = record { ends = refl; begins = refl } }

  -- after an error nothing ends
  failed_stands : (look : AxisLook) (driven : Bool) (n : ℕ) (c : Core) →
      Stands (core_after_error n c) (step_changes look driven (core_after_error n c)) (core_after_step look driven (core_after_error n c))
  unfolding core_after_error advance_in_cycle
  failed_stands look driven n c =
      let x : Core = core_after_error n c in
      let stepped = stepped_cycles look driven x in
      record {
        makes = stepped.makes;
        none = stepped.none;
        quiet = by_if AreQuiet (driven && x.axis.driven) (advance_changes look x) [] (λ h. (released_stands look (core_after_advance look x)).quiet) (λ h. tt);
      }

  pub cycle_cycles : (look : AxisLook) (c : Core) → Cycles c (cycle_fate look c) (cycle_changes look c) (core_after_cycle look c)
  unfolding cycle_fate cycle_changes core_after_cycle
  cycle_cycles look c = by (nat_eq n 0)
    where
      n : ℕ
      n = answer_error_of c.axis look.input

      driven : Bool
      driven = is_driven c.axis look.input

      ran : Bool → Core
      ran b = core_after_step look driven (if b then c else core_after_error n c)

      rest : (b : Bool) → Stands (ran b) (reset_changes (ran b).axis.reset look.input (ran b).axis) (core_after_reset look.input (ran b))
      rest b = reset_stands (ran b).axis.reset look.input (ran b) refl

      by : (b : Bool) → Cycles c (if b then (if driven && c.axis.driven then moved_fate look c else goes_on) else fates.replaced (finish.Error n) c.axis.active None)
          ((if b then [] else failing n) ++ (step_changes look driven (if b then c else core_after_error n c) ++ reset_changes (ran b).axis.reset look.input (ran b).axis))
          (core_after_reset look.input (ran b))
      by true = then_goes order (stepped_cycles look driven c) (rest true)
      by false =
          let failed : Cycles c (fates.replaced (finish.Error n) c.axis.active None) (failing n) (core_after_error n c) =
          record { makes = failed_makes n c; none = fails n; fated = single (replaced (finish.Error n) None []) (holds false ∷ []) (command_state_of c) ((λ d. refl), tt) } in
          then_goes order failed (both_go order (failed_stands look driven n c) (rest false))
