-- An entry's outcome, by what it makes of the commands of an axis or a group.
-- for: replies_show_commands, entries_make_outcomes, results_are_told and others
use Rattle.std.specs.Prelude.{◌≡◌, ℕ, true, List, [], slice_get}
use Rattle.std.proofs.Common.{arith, ap, sym, ◌∙◌}
use Rattle.plc_types.specs.declared.drive.DriveIn.{DriveIn}
use Rattle.plc_types.specs.declared.axis.AxisRow.{AxisRow}
use Rattle.command_core.specs.Brought.{brought}
use Rattle.command_core.specs.Changes.{all_changed}
use Rattle.command_core.specs.CommandState.{active_of, owns}
use Rattle.command_core.specs.Ends.{end_among}
use Rattle.plc_types.specs.declared.group.GroupRow.{GroupRow}
use Rattle.motion_history.specs.Entries.{cycle}
use Rattle.motion_history.specs.Setup.{Setup}
use Rattle.motion_kernel.specs.Histories.{inputs_of}
use Rattle.motion_kernel.specs.Machine.{Machine}
use Rattle.motion_kernel.specs.cycles.Cycles.{after_cycle, cycled}
use Rattle.motion_kernel.specs.kept.Machine.{IsMachineKept}
use Rattle.motion_kernel.specs.owners.Commands.{active_at, commands_at, commands_shown}
use Rattle.motion_kernel.specs.owners.Objects.{IsThere, Object, has_commands_on}
use Rattle.motion_laws.specs.owners.Shown.{AreWhereShown}
use Rattle.motion_laws.specs.results.Effects.{Effect, changes_in_cycle, fate_by, notes_by}
use Rattle.motion_laws.specs.results.Outcomes.{progress_at, progress_beside}
use Rattle.motion_laws.proofs.owners.Events.{active_in, commands_of}
use Rattle.motion_kernel.proofs.owners.Blocks.{untold}
use Rattle.motion_laws.proofs.owners.Shown.{cycle_all_shown}
use Rattle.motion_kernel.proofs.owners.commands.Events.{IsGood, shown_if}
use Rattle.motion_laws.proofs.results.Cycles.{found_spares}
use Rattle.motion_laws.proofs.results.Events.{one_there, progress_in}
use Rattle.motion_laws.proofs.results.outcomes.Cycles.{cycle_brings, cycle_leaves, cycled_good, there_in}
use Rattle.motion_laws.proofs.results.outcomes.Final.{IsShownBy, OutcomeLaws, outcome}
use Rattle.motion_laws.proofs.results.outcomes.Notes.{progress_told}
use Rattle.motion_kernel.proofs.walk.Events.{found_alike}
use Rattle.motion_kernel.proofs.walk.Keeps.{command_state_at}

-- what happens to the commands of an axis or a group, and to an instance that has its commands
-- there
pub record Affects (k : ℕ) (o : Object) (x : Effect) (m after : Machine) : Type 0 where
  pub command_state : command_state_at after o ≡ record (all_changed x.changes x.commands) { notes = [] }
  pub progress : progress_in after.instances k ≡ progress_told k (notes_by x) (progress_in m.instances k)
  pub notes : x.commands.notes ≡ []
  pub none : brought k x.changes ≡ 0
  pub owns : owns k x.commands ≡ owns k (command_state_at m o)
  pub active : active_of k x.commands ≡ active_of k (command_state_at m o)

-- it shows its commands before and after
pub shown_by : (s : Setup) (k : ℕ) (o : Object) (x : Effect) (m told after : Machine) → has_commands_on (slice_get s.blocks k) o ≡ true →
    IsThere m o → IsThere after o → AreWhereShown s m → AreWhereShown s after → Affects k o x m told → command_state_at after o ≡ command_state_at told o →
    (commands_shown (progress_in told.instances k) ≡ 0 → progress_in after.instances k ≡ progress_in told.instances k) →
    IsShownBy k x.commands x.changes (progress_in m.instances k) (progress_in told.instances k) (progress_in after.instances k)
shown_by s k o x m told after on here there before now a same stays = record {
  none = a.none;
  notes = a.notes;
  before = a.owns ∙ sym (commands_of m k o) ∙ shown_if _ _ (commands_at m k o) on (before.commands k o here);
  active_before = a.active ∙ sym (active_in m k o) ∙ shown_if _ _ (active_at m k o) on (before.active k o here);
  after = ap (owns k) (sym (same ∙ a.command_state)) ∙ sym (commands_of after k o) ∙ shown_if _ _ (commands_at after k o) on (now.commands k o there);
  active_after = ap (active_of k) (sym (same ∙ a.command_state)) ∙ sym (active_in after k o)
      ∙ shown_if _ _ (active_at after k o) on (now.active k o there);
  tells = a.progress;
  stays = stays;
}

-- a cycle
pub cycle_affects : OutcomeLaws → (s : Setup) (m : Machine) (ins : List DriveIn) (k : ℕ) (o : Object) → IsMachineKept s m → AreWhereShown s m →
    IsThere m o → has_commands_on (slice_get s.blocks k) o ≡ true →
    Affects k o (record { commands = command_state_at m o; changes = changes_in_cycle s m ins o }) m (cycled s m ins).machine
cycle_affects laws s m ins k o kept h l on =
    let good : IsGood s m = record { sized = kept.sized; shown = h.commands } in
    let made = cycle_leaves laws.owners s k m ins kept good laws.order o on l in
    record {
      command_state = made.command_state;
      progress = made.progress;
      notes = untold m o;
      none = cycle_brings laws.owners laws.order s m ins k o;
      owns = λ i. owns k (command_state_at m o);
      active = λ i. active_of k (command_state_at m o);
    }

pub cycle_outcome : OutcomeLaws → (s : Setup) (m : Machine) (c : ℕ) (rows : List AxisRow) (grows : List GroupRow) (k : ℕ) (o : Object) →
    IsMachineKept s m → AreWhereShown s m → IsThere m o → has_commands_on (slice_get s.blocks k) o ≡ true →
    progress_at (after_cycle s m (inputs_of rows)) k ≡ progress_beside s m (cycle c rows grows) k o
cycle_outcome laws s m c rows grows k o kept h l on =
    let ins = inputs_of rows in
    let good : IsGood s m = record { sized = kept.sized; shown = h.commands } in
    let x = (cycled s m ins).machine in
    let sound = cycled_good laws.owners s k m ins kept good in
    let alike = found_alike s x in
    let effect : Effect = record { commands = command_state_at m o; changes = changes_in_cycle s m ins o } in
    outcome laws k (command_state_at m o) (changes_in_cycle s m ins o) _ _ _
    (shown_by s k o effect m x (after_cycle s m ins) on l (alike.there o (there_in s m x o good sound l)) h
    (cycle_all_shown laws.owners s m ins kept h) (cycle_affects laws s m ins k o kept h l on) (alike.same o)
    (λ none. found_spares s x k sound.shown none))

-- the instance whose active command ends is reported so
pub ends_as_told : OutcomeLaws → (s : Setup) (m z : Machine) (k : ℕ) (o : Object) (x : Effect) → AreWhereShown s m → IsThere m o →
    active_at m k o ≡ 1 → Affects k o x m z → end_among k (notes_by x) ≡ (fate_by x).ends
ends_as_told laws s m z k o x h l act a =
    let all = one_there s k m o (h.commands k) l in
    let owned = commands_of m k o in
    let has = a.owns in
    laws.fates.end k x.changes x.commands a.notes (omega arith) a.none (a.active ∙ sym (active_in m k o) ∙ act)
