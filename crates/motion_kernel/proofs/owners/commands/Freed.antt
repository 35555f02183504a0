-- Commands are where they are shown after a Power, and where an owner is taken away.
-- for: owners_have_blocks
use Rattle.std.specs.Prelude.{◌≡◌, refl, ℕ, zero, suc, ◌+◌, ◌<◌, false, nat_eq, List, [], ◌∷◌, length, map, slice_set}
use Rattle.std.proofs.Common.{arith, ap, sym, ◌∙◌}
use Rattle.std.proofs.lemmas.Bool.{eqb-false}
use Rattle.std.proofs.lemmas.List.{get_or-map, get_or-set_other, length-map}
use Rattle.axis_core.specs.Calls.{axis_without_owner}
use Rattle.axis_core.specs.Owners.{core_without_owner}
use Rattle.command_pool.specs.Waiting.{detached, queue_of}
use Rattle.command_pool.specs.declared.wanted.Wanted.{Wanted}
use Rattle.fb_outputs.specs.InstanceState.{InstanceState}
use Rattle.group_core.specs.Calls.{disowned, group_without}
use Rattle.motion_history.specs.Setup.{Setup}
use Rattle.motion_kernel.specs.calls.Calls.{with_instance, without_owner}
use Rattle.motion_kernel.specs.Machine.{Machine, PlacedGroup, axis_core_at, group_core_at, list_of, no_axis, no_group, no_instance}
use Rattle.motion_kernel.specs.kept.Machine.{IsSized}
use Rattle.motion_kernel.specs.owners.Commands.{commands_at, commands_shown}
use Rattle.motion_kernel.specs.owners.Objects.{IsThere, Object, a_group, an_axis}
use Rattle.motion_kernel.proofs.owners.commands.Events.{ShownOf, instances_shown}

-- an owner that is taken away
pub list_without : (k : ℕ) (queues : List (List Wanted)) (list : ℕ) → queue_of
    (map (map (detached k)) queues) list ≡ map (detached k) (queue_of queues list)
list_without k [] list = refl
list_without k (q ∷ qs) zero = refl
list_without k (q ∷ qs) (suc list) = list_without k qs list

pub axis_disowned : (k n : ℕ) (m : Machine) → n < length m.axes → axis_core_at (without_owner k m) n
    ≡ core_without_owner k (axis_core_at m n)
unfolding without_owner
axis_disowned k n m l =
    let a = get_or-map (axis_without_owner k) m.axes n no_axis no_axis l in
    let w = list_without k m.queues n in
    λ i. record { axis = a i; waiting = w i; notes = [] }

pub group_disowned : (k j : ℕ) (m : Machine) → j < length m.groups → group_core_at
    (without_owner k m) j ≡ disowned k (group_core_at m j)
unfolding without_owner
group_disowned k j m l =
    let g = get_or-map
    (λ (g : PlacedGroup). record g {
      group =
          group_without k g.group;
    }) m.groups j no_group no_group l in
    let list : length (map (axis_without_owner k) m.axes) + j ≡ list_of m j = ap (λ n. n + j)
    (length-map m.axes (axis_without_owner k)) in
    let w = ap (queue_of (map (map (detached k)) m.queues)) list ∙ list_without k m.queues
    (list_of m j) in
    λ i. record { group = (g i).group; path = (g i).path; waiting = w i; notes = [] }

pub as_many_without : (k : ℕ) (m : Machine) (o : Object) → IsThere (without_owner k m) o →
    IsThere m o
unfolding without_owner
as_many_without k m (an_axis n) l = let size = length-map m.axes
    (axis_without_owner k) in omega arith
as_many_without k m (a_group j) l =
    let size = length-map m.groups
    (λ (g : PlacedGroup). record g { group = group_without k g.group }) in omega arith

-- the machine in which a call asks: its instance has no command, those of others are where they
-- show
pub record IsAsking (s : Setup) (k : ℕ) (m : Machine) : Type 0 where
  pub sized : IsSized s m
  pub own : (o : Object) → IsThere m o → commands_at m k o ≡ 0
  pub others : (j : ℕ) → nat_eq k j ≡ false → ShownOf s j m

pub beside_own : (s : Setup) (j k : ℕ) (m : Machine) (i : InstanceState) → nat_eq k j ≡ false →
    ShownOf s j m → ShownOf s j (with_instance m k i)
beside_own s j k m i d shown =
    instances_shown s j m (slice_set m.instances k i)
    (ap (λ (x : InstanceState). commands_shown x.progress)
    (get_or-set_other m.instances k j i no_instance (λ e. eqb-false k j d (sym e)))) shown

pub instances_without : (k : ℕ) (m : Machine) → (without_owner k m).instances ≡ m.instances
unfolding without_owner
instances_without k m = refl
