-- What an event makes of the commands that an instance has, by its changes.
-- for: machines_can_stand, replies_show_commands, commands_are_where_their_instances_show and others
use Rattle.std.specs.Prelude.{◌≡◌, refl, ℕ, false, nat_eq, if◌then◌else◌, List, slice_get}
use Rattle.std.proofs.Common.{arith, ap, sym, ◌∙◌}
use Rattle.std.proofs.lemmas.Bool.{eqb-false}
use Rattle.std.proofs.lemmas.List.{get_or-set_other}
use Rattle.buffer_modes.specs.Owners.{ends_given}
use Rattle.command_core.specs.Brought.{brought}
use Rattle.command_core.specs.Calls as calls
use Rattle.command_core.specs.Changes.{Change, all_changed}
use Rattle.command_core.specs.CommandState.{active_of, owns, waiting_of}
use Rattle.fb_outputs.specs.InstanceState.{InstanceState}
use Rattle.motion_history.specs.Setup.{Setup}
use Rattle.motion_kernel.specs.Machine.{Machine, instance_at, no_instance}
use Rattle.motion_kernel.specs.calls.Calls.{with_instance}
use Rattle.motion_kernel.specs.owners.Commands.{active_at, active_shown, commands_at, commands_shown}
use Rattle.motion_kernel.specs.owners.Objects.{a_group, an_axis, IsThere, Object, has_commands_on}
use Rattle.motion_laws.proofs.owners.active.Events.{ActiveOf, KeepsActive}
use Rattle.motion_laws.proofs.owners.active.Waiting.{KeepsWaiting}
use Rattle.motion_kernel.proofs.owners.commands.Events.{Changes, OwnerLaws, ShownOf}
use Rattle.motion_kernel.proofs.owners.commands.Freed.{instances_without}
use Rattle.motion_kernel.proofs.walk.Events.{freed_at, freed_there}
use Rattle.motion_kernel.proofs.owners.Blocks.{untold}
use Rattle.motion_kernel.proofs.walk.Keeps.{Event, command_state_at, freed}

-- an instance's commands by those of the object
pub commands_of : (m : Machine) (k : ℕ) (o : Object) → commands_at m k o ≡ owns k (command_state_at m o)
commands_of m k (an_axis n) = omega arith
commands_of m k (a_group j) = omega arith

pub active_in : (m : Machine) (k : ℕ) (o : Object) → active_at m k o ≡ active_of k (command_state_at m o)
active_in m k (an_axis n) = refl
active_in m k (a_group j) = refl

-- the other instances, where one asks
pub free_same : (k j : ℕ) (i : InstanceState) (m : Machine) → nat_eq k j ≡ false →
    instance_at (freed k i m).instances j ≡ instance_at m.instances j
free_same k j i m d =
    ap (λ is. instance_at is j) (instances_without k (with_instance m k i))
    ∙ get_or-set_other m.instances k j i no_instance (λ e. eqb-false k j d (sym e))

module _ (laws : OwnerLaws) where
  -- an event that brings an instance nothing
  pub event_changes : (k : ℕ) (m x : Machine) (o : Object) (xs : List Change) → Event m x o xs → brought k xs ≡ 0 →
      Changes k m x o (all_changed xs (command_state_at m o)).notes
  event_changes k m x o xs e none = record {
    there = e.there;
    as_many = e.as_many;
    here =
        let before = commands_of m k o in
        let now = commands_of x k o ∙ ap (owns k) e.here in
        let once = laws.once.once k xs (command_state_at m o) in
        let nothing : ends_given k (command_state_at m o).notes ≡ 0 = ap (ends_given k) (untold m o) in
        omega arith;
    beside = λ p l d. commands_of x k p ∙ ap (owns k) (e.beside p l d) ∙ sym (commands_of m k p);
    told = e.told;
  }

  pub event_keeps : (k : ℕ) (m x : Machine) (o : Object) (xs : List Change) → Event m x o xs → brought k xs ≡ 0 → calls.IsCall xs →
      KeepsActive k m x o
  event_keeps k m x o xs e none call = record {
    active =
        let before = active_in m k o in
        let now = active_in x k o ∙ ap (active_of k) e.here in
        let more = laws.more.active k xs (command_state_at m o) call in
        omega arith;
    waiting =
        let now = ap (waiting_of k) e.here in
        let more = laws.more.waiting k xs (command_state_at m o) in
        omega arith;
    beside = λ p l d. active_in x k p ∙ ap (active_of k) (e.beside p l d) ∙ sym (active_in m k p);
  }

  pub event_keeps_waiting : (k : ℕ) (m x : Machine) (o : Object) (xs : List Change) → Event m x o xs → brought k xs ≡ 0 →
      KeepsWaiting k m x o
  event_keeps_waiting k m x o xs e none = record {
    waiting =
        let now = ap (waiting_of k) e.here in
        let more = laws.more.waiting k xs (command_state_at m o) in
        omega arith;
    beside = λ p l d. ap (waiting_of k) (e.beside p l d);
  }

  -- where an instance asks, it has no command, and the others have theirs
  pub free_none : (k : ℕ) (i : InstanceState) (m : Machine) (o : Object) → IsThere (freed k i m) o → owns k (command_state_at (freed k i m) o) ≡ 0
  free_none k i m o l = ap (owns k) (freed_at laws.walk k i m o (freed_there k i m o l)) ∙ laws.once.taken_away k (command_state_at m o)

  pub free_shown : (s : Setup) (k j : ℕ) (i : InstanceState) (m : Machine) → nat_eq k j ≡ false → ShownOf s j m → ShownOf s j (freed k i m)
  free_shown s k j i m d shown o l =
      let there = freed_there k i m o l in
      commands_of (freed k i m) j o ∙ ap (owns j) (freed_at laws.walk k i m o there) ∙ laws.once.left j k (command_state_at m o) d
      ∙ sym (commands_of m j o) ∙ shown o there
      ∙ ap (λ (x : InstanceState). if has_commands_on (slice_get s.blocks j) o then commands_shown x.progress else 0) (sym (free_same k j i m d))

  pub active_left : (k j : ℕ) (i : InstanceState) (m : Machine) (o : Object) → nat_eq k j ≡ false → IsThere m o →
      active_at (freed k i m) j o ≡ active_at m j o
  active_left k j i m o d there =
      active_in (freed k i m) j o ∙ ap (active_of j) (freed_at laws.walk k i m o there) ∙ laws.more.left j k (command_state_at m o) d
      ∙ sym (active_in m j o)

  pub free_active : (s : Setup) (k j : ℕ) (i : InstanceState) (m : Machine) → nat_eq k j ≡ false → ActiveOf s j m → ActiveOf s j (freed k i m)
  free_active s k j i m d active o l =
      let there = freed_there k i m o l in
      active_left k j i m o d there ∙ active o there
      ∙ ap (λ (x : InstanceState). if has_commands_on (slice_get s.blocks j) o then active_shown x.progress else 0) (sym (free_same k j i m d))
