-- What the instances are given at a cycle's end leaves those without a command.
-- for: replies_show_commands, entries_make_outcomes, results_are_told and others
use Rattle.std.specs.Prelude.{◌≡◌, ◌≢◌, refl, ℕ, zero, suc, ◌≤◌, Bool, true, false, Option, Some, None, List, [], ◌∷◌, length, slice_get, slice_set}
use Rattle.std.proofs.Common.{arith, ap, sym, ◌∙◌}
use Rattle.std.proofs.lemmas.List.{get_or-set_other}
use Rattle.axis_core.specs.declared.axis.Axis.{Axis}
use Rattle.buffer_modes.specs.Owners.{owner_by}
use Rattle.fb_outputs.specs.InstanceState.{InstanceState}
use Rattle.fb_outputs.specs.Steps as instance
use Rattle.motion_history.specs.Setup.{Setup}
use Rattle.motion_history.specs.declared.config.BlockDef.{BlockDef}
use Rattle.motion_kernel.specs.cycles.Showing.{axes_shown, found_by, groups_shown, instance_found, instances_found, told_found, with_found}
use Rattle.motion_kernel.specs.Machine.{Machine, PlacedGroup, axis_at, group_at, instance_at, no_instance}
use Rattle.motion_kernel.specs.calls.Telling.{shown_active}
use Rattle.motion_kernel.specs.owners.Commands.{CommandsAreShown, commands_shown}
use Rattle.motion_laws.proofs.owners.commands.Cycles.{axis_active_shown, group_active_shown}
use Rattle.motion_laws.proofs.results.Events.{progress_in}

-- what the instances are given at a cycle's end leaves those without a command
owner_spares : (o : Option ℕ) (reached : Bool) (is : List InstanceState) (k : ℕ) →
    ((j : ℕ) → o ≡ Some j → j ≢ k) → instance_at (shown_active o reached is) k ≡ instance_at is k
owner_spares None reached is k other = refl
owner_spares (Some j) reached is k other =
    get_or-set_other is j k
    (instance.with_reached (instance.started (instance_at is j) true) reached) no_instance
    (λ e. other j refl (sym e))

-- who shows no command isn't one that shows one
no_owner : (m : Machine) (k j : ℕ) → commands_shown (progress_in m.instances k) ≡ 0 →
    commands_shown (progress_in m.instances j) ≡ 1 → j ≢ k
no_owner m k j none one e =
    let same = ap (λ x. commands_shown (progress_in m.instances x)) e in absurd (omega arith)

axes_shown_spare : (s : Setup) (m : Machine) (n k : ℕ) (is : List InstanceState) →
    CommandsAreShown s m → n ≤ length m.axes → commands_shown (progress_in m.instances k) ≡ 0 →
    instance_at (axes_shown n m.axes is) k ≡ instance_at is k
unfolding axes_shown
axes_shown_spare s m zero k is h l none = refl
axes_shown_spare s m (suc n) k is h l none =
    owner_spares (owner_by (axis_at m n).active) (axis_at m n).reached (axes_shown n m.axes is) k
    (λ j e. no_owner m k j none (axis_active_shown s m n j h (omega arith) e))
    ∙ axes_shown_spare s m n k is h (omega arith) none

groups_shown_spare : (s : Setup) (m : Machine) (n k : ℕ) (is : List InstanceState) →
    CommandsAreShown s m → n ≤ length m.groups → commands_shown (progress_in m.instances k) ≡ 0 →
    instance_at (groups_shown n m.groups is) k ≡ instance_at is k
unfolding groups_shown
groups_shown_spare s m zero k is h l none = refl
groups_shown_spare s m (suc n) k is h l none =
    owner_spares (owner_by (group_at m n).group.active) false (groups_shown n m.groups is) k
    (λ j e. no_owner m k j none (group_active_shown s m n j h (omega arith) e))
    ∙ groups_shown_spare s m n k is h (omega arith) none

-- an instance that changes in nothing but what it found
one_progress : (is : List InstanceState) (j k : ℕ) (v : InstanceState) →
    v.progress ≡ progress_in is j → progress_in (slice_set is j v) k ≡ progress_in is k
one_progress [] j k v e = refl
one_progress (i ∷ is) zero zero v e = e
one_progress (i ∷ is) zero (suc k) v e = refl
one_progress (i ∷ is) (suc j) zero v e = refl
one_progress (i ∷ is) (suc j) (suc k) v e = one_progress is j k v e

found_progress : (o : Option Bool) (j : ℕ) (is : List InstanceState) (k : ℕ) →
    progress_in (told_found o j is) k ≡ progress_in is k
found_progress None j is k = refl
found_progress (Some found) j is k =
    one_progress is j k (instance.with_reached (instance_at is j) found) refl

where_progress : (o : Option BlockDef) (axes : List Axis) (groups : List PlacedGroup) (j : ℕ)
    (is : List InstanceState) (k : ℕ) →
    progress_in (instance_found o axes groups j is) k ≡ progress_in is k
where_progress None axes groups j is k = refl
where_progress (Some b) axes groups j is k =
    found_progress (found_by b.kind axes groups j b.object) j is k

all_progress : (n : ℕ) (blocks : List BlockDef) (axes : List Axis) (groups : List PlacedGroup)
    (is : List InstanceState) (k : ℕ) →
    progress_in (instances_found n blocks axes groups is) k ≡ progress_in is k
unfolding instances_found
all_progress zero blocks axes groups is k = refl
all_progress (suc n) blocks axes groups is k =
    where_progress (slice_get blocks n) axes groups n (instances_found n blocks axes groups is) k
    ∙ all_progress n blocks axes groups is k

pub found_spares : (s : Setup) (m : Machine) (k : ℕ) → CommandsAreShown s m →
    commands_shown (progress_in m.instances k) ≡ 0 →
    progress_in (with_found s m).instances k ≡ progress_in m.instances k
unfolding with_found
found_spares s m k h none =
    let axes = axes_shown (length m.axes) m.axes m.instances in
    all_progress (length s.blocks) s.blocks m.axes m.groups (groups_shown (length m.groups) m.groups
    axes) k
    ∙ ap (λ (i : InstanceState). i.progress)
    (groups_shown_spare s m (length m.groups) k axes h (omega arith) none
    ∙ axes_shown_spare s m (length m.axes) k m.instances h (omega arith) none)
