-- Commands are where they are shown once one is asked of an axis or a group.
-- for: owners_have_blocks
use Rattle.std.specs.Prelude.{◌≡◌, refl, ℕ, ◌<◌, true, false, nat_eq, if◌then◌else◌, Option, Some, None, List, length, slice_get, slice_set}
use Rattle.std.proofs.Common.{ap, sym, subst, ◌∙◌, inl, inr}
use Rattle.std.proofs.lemmas.Bool.{cases_Bool, eqb-true}
use Rattle.std.proofs.lemmas.List.{get_or-set_same}
use Rattle.axis_core.specs.Owners as axis
use Rattle.axis_core.specs.Owners.{owner_brought}
use Rattle.axis_core.specs.declared.reason.Reason as axis_reasons
use Rattle.buffer_modes.specs.Owners.{owner_count}
use Rattle.plc_types.specs.declared.kind.BlockKind.{BlockKind}
use Rattle.plc_types.specs.declared.kind.BlockKind.TheVariants as kind
use Rattle.command_pool.specs.declared.wanted.Wanted.{Wanted}
use Rattle.fb_outputs.specs.InstanceState.{InstanceState}
use Rattle.group_core.specs.Owners as group
use Rattle.group_core.specs.declared.reason.Reason as group_reasons
use Rattle.motion_history.specs.Setup.{Setup}
use Rattle.motion_kernel.specs.Machine.{Machine, instance_at, no_instance}
use Rattle.motion_kernel.specs.owners.Commands.{CommandsAreShown, commands_at}
use Rattle.motion_kernel.specs.owners.Objects.{Object, has_commands_on, is_same, a_group, an_axis}
use Rattle.buffer_modes.proofs.Owners.{nobody}
use Rattle.motion_kernel.proofs.owners.Counts.{other_owner}
use Rattle.motion_kernel.proofs.owners.commands.Events.{ShownOf, beside_none, none_beside, same_object}

-- a command that is asked of an axis
pub other_brings : (j k : ℕ) (o : Option axis_reasons.Reason) (w : Wanted) → nat_eq k j ≡ false →
    w.owner ≡ Some k → owner_count j (owner_brought o w) ≡ 0
other_brings j k None w d e = other_brings_by w.kind
  where
    none : owner_count j w.owner ≡ 0
    none = ap (owner_count j) e ∙ other_owner j k d

    other_brings_by : (x : BlockKind) → owner_count j (axis.owner_brought_by x w) ≡ 0
    other_brings_by kind.GearOut = nobody j
    other_brings_by kind.CamOut = nobody j
    other_brings_by _ = none
other_brings j k (Some r) w d e = nobody j

pub set_at : (is : List InstanceState) (k : ℕ) (i : InstanceState) → k < length is → instance_at
    (slice_set is k i) k ≡ i
set_at is k i l = get_or-set_same is k i no_instance l

-- instances change no command
pub same_commands : (m : Machine) (is : List InstanceState) (k : ℕ) (o : Object) → commands_at
    (record m { instances = is }) k o ≡ commands_at m k o
same_commands m is k (an_axis n) = refl
same_commands m is k (a_group j) = refl

-- all instances, by their own and the others
pub all_shown : (s : Setup) (k : ℕ) (m : Machine) → ShownOf s k m →
    ((j : ℕ) → nat_eq k j ≡ false → ShownOf s j m) → CommandsAreShown s m
all_shown s k m own others j = elim (cases_Bool (nat_eq k j)) [
  | inl e ↦ subst (λ x. ShownOf s x m) (eqb-true k j e) own
  | inr d ↦ others j d
]

pub other_brings_group : (j k : ℕ) (o : Option group_reasons.Reason) (w : Wanted) →
    nat_eq k j ≡ false → w.owner ≡ Some k → owner_count j (group.brought o w) ≡ 0
other_brings_group j k None w d e = other_brings_by w.kind
  where
    none : owner_count j w.owner ≡ 0
    none = ap (owner_count j) e ∙ other_owner j k d

    no_owner : owner_count j None ≡ 0
    no_owner = nobody j

    other_brings_by : (x : BlockKind) → owner_count j (group.brought_by x w) ≡ 0
    other_brings_by kind.GroupReset = none
    other_brings_by kind.GroupStop = none
    other_brings_by kind.GroupHalt = none
    other_brings_by kind.MoveLinearAbsolute = none
    other_brings_by _ = no_owner
other_brings_group j k (Some r) w d e = nobody j

-- an instance that shows as many as it has at its block's object, and has none at another
pub own_at : (s : Setup) (k : ℕ) (o : Object) (has : Object → ℕ) (there : Object → Type 0) (shown n : ℕ) →
    has_commands_on (slice_get s.blocks k) o ≡ true → has o ≡ n → shown ≡ n →
    ((p : Object) → there p → is_same o p ≡ false → has p ≡ 0) → (p : Object) → there p →
    has p ≡ (if has_commands_on (slice_get s.blocks k) p then shown else 0)
own_at s k o has there shown n on here shows beside p l = elim (cases_Bool (is_same o p)) [
  | inl e ↦ subst (λ q. has q ≡ (if has_commands_on (slice_get s.blocks k) q then shown else 0)) (same_object o p e)
      (here ∙ sym shows ∙ sym (ap (λ b. if b then shown else 0) on))
  | inr d ↦ none_beside (has_commands_on (slice_get s.blocks k) p) shown (has p) (beside_none (slice_get s.blocks k) o p on d) (beside p l d)
]
