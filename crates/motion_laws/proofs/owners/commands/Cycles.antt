-- Commands are where they are shown after a cycle.
-- for: machines_can_stand, replies_show_commands, commands_are_where_their_instances_show and others
use Rattle.std.specs.Prelude.{◌≡◌, refl, ℕ, zero, suc, ◌<◌, ◌≤◌, Bool, true, false, if◌then◌else◌, Option, Some, None, List, length, slice_get}
use Rattle.std.proofs.Common.{arith, ap, sym, ◌∙◌}
use Rattle.buffer_modes.specs.Owners.{owner_count, owner_by}
use Rattle.command_pool.specs.declared.wanted.Wanted.{Wanted}
use Rattle.fb_outputs.specs.InstanceState.{InstanceState}
use Rattle.fb_outputs.specs.Steps as instance
use Rattle.motion_history.specs.Setup.{Setup}
use Rattle.motion_history.specs.declared.config.BlockDef.{BlockDef}
use Rattle.motion_kernel.specs.cycles.Showing.{axes_shown, found_by, groups_shown, instance_found, instances_found, told_found, with_found}
use Rattle.motion_kernel.specs.Machine.{Machine, axis_at, group_at, instance_at}
use Rattle.motion_kernel.specs.calls.Telling.{shown_active}
use Rattle.motion_kernel.specs.owners.Commands.{CommandsAreShown, commands_at}
use Rattle.motion_kernel.specs.owners.Objects.{a_group, an_axis}
use Rattle.motion_kernel.proofs.owners.Counts.{owner_is, shown_by}
use Rattle.motion_laws.proofs.owners.commands.Calls.{one_shown}
use Rattle.motion_kernel.proofs.owners.commands.Events.{most_one, instances_shown}

-- what the instances are given at its end: an active command's instance shows one already
pub at_least : (b : Bool) (n c : ℕ) → 1 ≤ c → c ≡ (if b then n else 0) → n ≤ 1 → n ≡ 1
at_least true n c l e m = omega arith
at_least false n c l e m = absurd (omega arith)

pub active_owner : (k : ℕ) (active : Option Wanted) → owner_by active ≡ Some k → owner_count k
    (owner_by active) ≡ 1
active_owner k None e = absurd (cc)
active_owner k (Some w) e = ap (owner_count k) e ∙ owner_is k

pub axis_active_shown : (s : Setup) (m : Machine) (n k : ℕ) → CommandsAreShown s m →
    n < length m.axes → owner_by (axis_at m n).active ≡ Some k → shown_by m.instances k ≡ 1
axis_active_shown s m n k h l e =
    let one = active_owner k (axis_at m n).active e in
    at_least _ _ (commands_at m k (an_axis n)) (omega arith) (h k (an_axis n) l)
    (most_one (instance_at m.instances k).progress)

pub group_active_shown : (s : Setup) (m : Machine) (j k : ℕ) → CommandsAreShown s m →
    j < length m.groups → owner_by (group_at m j).group.active ≡ Some k → shown_by m.instances k ≡ 1
group_active_shown s m j k h l e =
    let one = active_owner k (group_at m j).group.active e in
    at_least _ _ (commands_at m k (a_group j)) (omega arith) (h k (a_group j) l)
    (most_one (instance_at m.instances k).progress)

-- instances that show as many commands as those of a machine
abbrev pub AsShown : Machine → List InstanceState → Type 0
AsShown m is = (k : ℕ) → shown_by is k ≡ shown_by m.instances k

pub told_active : (m : Machine) (o : Option ℕ) (reached : Bool) (is : List InstanceState) →
    ((k : ℕ) → o ≡ Some k → shown_by m.instances k ≡ 1) → AsShown m is →
    AsShown m (shown_active o reached is)
told_active m None reached is h same k = same k
told_active m (Some j) reached is h same k =
    one_shown is j k (instance.with_reached (instance.started (instance_at is j) true) reached)
    (sym (h j refl) ∙ sym (same j)) ∙ same k

pub axes_told : (s : Setup) (m : Machine) (n : ℕ) (is : List InstanceState) → CommandsAreShown s m →
    n ≤ length m.axes → AsShown m is → AsShown m (axes_shown n m.axes is)
unfolding axes_shown
axes_told s m zero is h l same = same
axes_told s m (suc n) is h l same =
    told_active m (owner_by (axis_at m n).active) (axis_at m n).reached (axes_shown n m.axes is)
    (λ k e. axis_active_shown s m n k h (omega arith) e)
    (axes_told s m n is h (omega arith) same)

pub groups_told : (s : Setup) (m : Machine) (n : ℕ) (is : List InstanceState) →
    CommandsAreShown s m → n ≤ length m.groups → AsShown m is → AsShown m
    (groups_shown n m.groups is)
unfolding groups_shown
groups_told s m zero is h l same = same
groups_told s m (suc n) is h l same =
    told_active m (owner_by (group_at m n).group.active) false (groups_shown n m.groups is)
    (λ k e. group_active_shown s m n k h (omega arith) e)
    (groups_told s m n is h (omega arith) same)

pub one_found : (m : Machine) (o : Option Bool) (j : ℕ) (is : List InstanceState) → AsShown m is →
    AsShown m (told_found o j is)
one_found m None j is same k = same k
one_found m (Some found) j is same k = one_shown is j k
    (instance.with_reached (instance_at is j) found) refl ∙ same k

pub found_where : (m : Machine) (o : Option BlockDef) (j : ℕ) (is : List InstanceState) →
    AsShown m is → AsShown m (instance_found o m.axes m.groups j is)
found_where m None j is same = same
found_where m (Some b) j is same = one_found m
    (found_by b.kind m.axes m.groups j b.object) j is same

pub all_found : (m : Machine) (n : ℕ) (blocks : List BlockDef) (is : List InstanceState) →
    AsShown m is → AsShown m (instances_found n blocks m.axes m.groups is)
unfolding instances_found
all_found m zero blocks is same = same
all_found m (suc n) blocks is same = found_where m (slice_get blocks n) n
    (instances_found n blocks m.axes m.groups is) (all_found m n blocks is same)

pub found_shown : (s : Setup) (m : Machine) → CommandsAreShown s m → CommandsAreShown s
    (with_found s m)
unfolding with_found
found_shown s m h k =
    let axes = axes_told s m (length m.axes) m.instances h (omega arith) (λ j. refl) in
    let groups = groups_told s m (length m.groups) (axes_shown (length m.axes) m.axes m.instances) h
    (omega arith) axes in
    let all = all_found m (length s.blocks) s.blocks
    (groups_shown (length m.groups) m.groups
    (axes_shown (length m.axes) m.axes m.instances)) groups in
    instances_shown s k m _ (all k) (h k)
