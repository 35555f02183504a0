-- What a cycle changes of the commands of a group, and what becomes of the active one.
-- for: group_fates_are_told, group_changes_are_made
use Rattle.std.specs.Prelude.{◌≡◌, refl, ℕ, Bool, true, false, ℤ, Option, Some, None, is_some, List, [], ◌∷◌, ◌++◌, if◌then◌else◌, ◌≢◌}
use Rattle.std.proofs.Common.{ap}
use Rattle.std.proofs.lemmas.List.{append-nil}
use Rattle.buffer_modes.specs.Queue.{active_note}
use Rattle.buffer_modes.specs.declared.reset.PendingReset.{PendingReset}
use Rattle.command_core.specs.Changes.{Change, all_changed, holds, resets}
use Rattle.command_core.specs.CommandState.{CommandState}
use Rattle.command_core.specs.Laws.{AreInOrder}
use Rattle.command_pool.specs.Waiting.{told_to}
use Rattle.command_pool.specs.declared.ending.Finish.{Finish}
use Rattle.command_pool.specs.declared.wanted.Wanted.{Wanted}
use Rattle.group_core.specs.Cores.{Core, ended, ended_by, failed, taken_over}
use Rattle.group_core.specs.Cycles.{answered, cycled, ending_of, moved, path_after, released, reset_cycled, reset_where, advanced, advanced_with}
use Rattle.group_core.specs.Refusals.{states_in}
use Rattle.group_core.specs.States.{is_error_stop}
use Rattle.group_core.specs.Tracks.{places_at, OnPath}
use Rattle.group_core.specs.blocks.Halts.{leaves_stopping}
use Rattle.group_core.specs.blocks.Reset.{after_reset, may_reset, reset_by, reset_notes}
use Rattle.group_core.specs.declared.group.Group.{Group}
use Rattle.group_core.specs.declared.look.GroupLook.{GroupLook}
use Rattle.axis_state.specs.GroupDiagram.{next_of}
use Rattle.axis_state.specs.declared.group_diagram.GroupEvent.TheVariants.{StopReleased}
use Rattle.command_changes.specs.Failing.{failing}
use Rattle.command_changes.specs.Group.{command_state_of, cycle_changes, ending_changes, release_changes, reset_changes, reset_changes_by}
use Rattle.command_changes.proofs.Choices.{either, by_if}
use Rattle.command_core.specs.Brought.{BringNone}
use Rattle.group_core.specs.Fates.{cycle_fate, ending_fate, is_failing}
use Rattle.group_core.specs.declared.group.Motion.{Motion}
use Rattle.group_core.proofs.Ends.{failed-ending}
use Rattle.buffer_modes.specs.Fates.{Fate, goes_on}
use Rattle.command_pool.specs.declared.ending.Finish.TheVariants as finish
use Rattle.group_core.specs.Cycles as cycles
use Rattle.buffer_modes.specs.Fates as fates
use Rattle.command_changes.proofs.Alike.{Cycled, Goes, then_goes, with_active}
use Rattle.command_changes.proofs.Fates.{AreQuiet, By, both_quiet}
use Rattle.command_changes.proofs.group.Calls.{failing_cycles, holder}

-- a cycle makes these changes of the commands, and this of the active one
abbrev Cycles : Core → Fate → List Change → Core → Type 0
Cycles c f xs d = Cycled (command_state_of c) f xs (command_state_of d)

-- or the active one goes on
abbrev Stands : Core → List Change → Core → Type 0
Stands c xs d = Goes (command_state_of c) xs (command_state_of d)

-- the active command ends so, and the first that waits takes over
first_makes : (members : GroupLook) (s : List ℤ) (f : Finish) (ws : List Wanted) (c : Core) → c.waiting ≡ ws →
    command_state_of (taken_over members s ws (record c { group = record c.group { active = None }; notes = c.notes ++ active_note f c.group.active }))
    ≡ all_changed (ending_changes (Some f) ws) (record (command_state_of c) { waiting = ws })
first_makes members s f [] c e = rw e refl
first_makes members s f (w ∷ ws) c e =
    ap (λ o. record (all_changed (ending_changes (Some f) []) (record (command_state_of c) { waiting = w ∷ ws })) { hold = o }) (holder w.kind w)

first_none : (f : Finish) (ws : List Wanted) → BringNone (ending_changes (Some f) ws)
first_none f [] = (tt, tt)
first_none f (w ∷ ws) = (tt, (tt, tt))

first_fated : (f : Finish) (v : Wanted) (ws : List Wanted) (c : CommandState) →
    By (record c { active = Some v; waiting = ws }) (ending_fate (Some f) ws) (ending_changes (Some f) ws)
first_fated f v [] c = record { ends = refl; begins = refl }
first_fated f v (w ∷ ws) c = record { ends = refl; begins = refl }

ended_cycles : (members : GroupLook) (s : List ℤ) (o : Option Finish) (c : Core) → (o ≢ None → c.group.active ≢ None) →
    Cycles c (ending_fate o c.waiting) (ending_changes o c.waiting) (ended_by members s o c)
unfolding ended
ended_cycles members s None c some = record { makes = refl; none = tt; fated = record { ends = refl; begins = refl } }
ended_cycles members s (Some f) c some =
    let P : Option Wanted → Type 0 = λ o. By (record (command_state_of c) { active = o }) (ending_fate (Some f) c.waiting) (ending_changes (Some f) c.waiting) in
    record {
      makes = first_makes members s f c.waiting c refl;
      none = first_none f c.waiting;
      fated = with_active P c.group.active (some (λ n. cc)) (λ v. first_fated f v c.waiting (command_state_of c));
    }

-- only an active command ends by a step
ends_by : (active : Option Wanted) (m : Motion) → (advanced_with active m).ending ≢ None → active ≢ None
ends_by None m h = absurd (h refl)
ends_by (Some w) m h = λ n. absurd (cc)

advance_ends : (g : Group) (m : Motion) → (advanced g m).ending ≢ None → g.active ≢ None
unfolding advanced
advance_ends g m =
    by_if (λ (x : cycles.Advance). x.ending ≢ None → g.active ≢ None) (is_error_stop g.state) _ _
    (λ e h. absurd (h refl)) (λ e. ends_by g.active m)

path_ends : (g : Group) (p : Option OnPath) → ending_of g p ≢ None → g.active ≢ None
path_ends g None h = absurd (h refl)
path_ends g (Some p) h = advance_ends g p.motion h

moved_cycles : (members : GroupLook) (c : Core) →
    Cycles c (ending_fate (ending_of c.group c.path) c.waiting) (ending_changes (ending_of c.group c.path) c.waiting) (moved members c)
moved_cycles members c =
    let path = path_after c.group c.path in
    ended_cycles members (places_at path members.setpoints) (ending_of c.group c.path) (record c { path = path }) (path_ends c.group c.path)

-- leaving GroupStopping, and a GroupReset
released_stands : (held : Bool) (c : Core) → Stands c (release_changes held c.group c.path) (released held c)
released_stands held c =
    either (λ (xs : List Change) (g : Group). Stands c xs (record c { group = g })) (leaves_stopping held c.group c.path)
    (holds false ∷ []) [] (record c.group { state = next_of StopReleased; hold = None }) c.group
    (λ h. record { makes = refl; none = (tt, tt); quiet = ((λ d. refl), tt) }) (λ h. record { makes = refl; none = tt; quiet = tt })

reset_by_stands : (o : Option PendingReset) (members : GroupLook) (c : Core) → c.group.reset ≡ o →
    Stands c (reset_changes_by o (is_some c.path) c.group)
    (record c { group = reset_by o (states_in members) (is_some c.path) c.group; notes = c.notes ++ reset_notes o (is_some c.path) c.group })
reset_by_stands None members c e = record { makes = ap (λ ns. record (command_state_of c) { notes = ns }) (append-nil c.notes); none = tt; quiet = tt }
reset_by_stands (Some p) members c e = by (may_reset (is_some c.path) c.group)
  where
    by : (b : Bool) → Stands c (if b then resets ∷ [] else []) (record c {
      group = (if b then after_reset (states_in members) c.group else c.group);
      notes = c.notes ++ (if b then told_to p.owner finish.Done else []);
    })
    by true = record { makes = rw e refl; none = (tt, tt); quiet = ((λ d. refl), tt) }
    by false = record { makes = ap (λ ns. record (command_state_of c) { notes = ns }) (append-nil c.notes); none = tt; quiet = tt }

pub reset_stands : (members : GroupLook) (c : Core) → Stands c (reset_changes c) (reset_cycled members c)
unfolding reset_changes reset_where
reset_stands members c = reset_by_stands c.group.reset members c refl

reset_none_by : (o : Option PendingReset) (on : Bool) (g : Group) → BringNone (reset_changes_by o on g)
reset_none_by None on g = tt
reset_none_by (Some p) on g = by_if BringNone (may_reset on g) (resets ∷ []) [] (λ h. (tt, tt)) (λ h. tt)

pub reset_none : (c : Core) → BringNone (reset_changes c)
unfolding reset_changes
reset_none c = reset_none_by c.group.reset (is_some c.path) c.group

-- nothing ends by the step of a group that has failed
none_quiet : (o : Option Finish) (ws : List Wanted) → o ≡ None → AreQuiet (ending_changes o ws)
none_quiet None ws e = tt
none_quiet (Some f) ws e = absurd (cc)

-- the changes of a cycle after an error of a member
abbrev step_changes : GroupLook → Core → List Change
step_changes members c =
    let after = moved members c in
    ending_changes (ending_of c.group c.path) c.waiting ++ release_changes members.stop_held after.group after.path

module _ (order : AreInOrder) where
  stepped_cycles : (members : GroupLook) (c : Core) →
      Cycles c (ending_fate (ending_of c.group c.path) c.waiting) (step_changes members c) (released members.stop_held (moved members c))
  stepped_cycles members c = then_goes order (moved_cycles members c) (released_stands members.stop_held (moved members c))

  failed_stands : (members : GroupLook) (n : ℕ) (c : Core) →
      Stands (failed n c) (step_changes members (failed n c)) (released members.stop_held (moved members (failed n c)))
  failed_stands members n c =
      let x : Core = failed n c in
      let after = moved members x in
      let stepped = stepped_cycles members x in
      record {
        makes = stepped.makes;
        none = stepped.none;
        quiet = both_quiet (ending_changes (ending_of x.group x.path) x.waiting) (release_changes members.stop_held after.group after.path)
            (none_quiet (ending_of x.group x.path) x.waiting (failed-ending n c)) (released_stands members.stop_held after).quiet;
      }

  pub cycle_cycles : (members : GroupLook) (c : Core) → Cycles c (cycle_fate members c) (cycle_changes members c) (cycled members c)
  unfolding cycle_fate cycle_changes cycled
  cycle_cycles members c = by (is_failing members c)
    where
      by : (b : Bool) → Cycles c (if b then fates.replaced (finish.Error members.error) c.group.active None else ending_fate (ending_of c.group c.path) c.waiting)
          ((if b then failing members.error else []) ++ step_changes members (if b then failed members.error c else c))
          (released members.stop_held (moved members (if b then failed members.error c else c)))
      by true = then_goes order (failing_cycles members.error c) (failed_stands members members.error c)
      by false = stepped_cycles members c
