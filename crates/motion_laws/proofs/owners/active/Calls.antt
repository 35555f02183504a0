-- Active commands are where they are shown after a call.
-- for: machines_can_stand, replies_show_commands, commands_are_where_their_instances_show and others
use Rattle.std.specs.Prelude.{◌≡◌, refl, ℕ, zero, suc, true, false, Some, List, [], ◌∷◌, slice_get, slice_set}
use Rattle.std.proofs.Common.{ap, ◌∙◌, inl, inr}
use Rattle.std.proofs.lemmas.Bool.{cases_Bool}
use Rattle.fb_outputs.specs.InstanceState.{InstanceState}
use Rattle.fb_outputs.specs.Steps as instance
use Rattle.fb_outputs.specs.Steps.{edge_of, is_power, progress_after, shown_progress, without_shown}
use Rattle.plc_types.specs.declared.inputs.Inputs.{Inputs}
use Rattle.fb_outputs.specs.declared.instance.Edge.{Edge}
use Rattle.fb_outputs.specs.declared.instance.Edge.TheVariants as edge
use Rattle.fb_outputs.specs.declared.instance.Progress.{Progress}
use Rattle.fb_outputs.specs.declared.instance.Progress.TheVariants.{Idle, Waiting, Active, Ended}
use Rattle.motion_history.specs.Setup.{Setup}
use Rattle.motion_history.specs.declared.config.BlockDef.{BlockDef}
use Rattle.motion_kernel.specs.calls.Calls.{with_execute, with_instance}
use Rattle.motion_kernel.specs.Machine.{Machine, instance_at}
use Rattle.motion_kernel.specs.owners.Commands.{ActiveAreShown, active_shown}
use Rattle.motion_kernel.specs.owners.Objects.{has_commands_on}
use Rattle.motion_kernel.proofs.owners.commands.Events.{none_beside, not_shown}
use Rattle.motion_laws.proofs.owners.commands.Calls.{power_has_none}
use Rattle.motion_laws.proofs.owners.active.Events.{active_same, all_active, active_by, instances_active, beside_active}
use Rattle.motion_kernel.proofs.walk.Events.{there_same}

-- an instance that changes so that it shows the same
pub one_active : (is : List InstanceState) (j k : ℕ) (v : InstanceState) → active_shown v.progress
    ≡ active_by is j → active_by (slice_set is j v) k ≡ active_by is k
one_active [] j k v e = refl
one_active (i ∷ is) zero zero v e = e
one_active (i ∷ is) zero (suc k) v e = refl
one_active (i ∷ is) (suc j) zero v e = refl
one_active (i ∷ is) (suc j) (suc k) v e = one_active is j k v e

pub instance_active : (s : Setup) (m : Machine) (j : ℕ) (v : InstanceState) → active_shown v.progress
    ≡ active_by m.instances j → ActiveAreShown s m → ActiveAreShown s (with_instance m j v)
instance_active s m j v e h k = instances_active s k m (slice_set m.instances j v)
    (one_active m.instances j k v e) (h k)

still_active : (p : Progress) → active_shown (without_shown p) ≡ active_shown p
still_active Idle = refl
still_active Waiting = refl
still_active Active = refl
still_active (Ended f false) = refl
still_active (Ended f true) = refl

pub reply_active : (p : Progress) → active_shown (shown_progress p) ≡ active_shown p
reply_active Idle = refl
reply_active Waiting = refl
reply_active Active = refl
reply_active (Ended f shown) = refl

power_execute_active : (s : Setup) (k : ℕ) (b : BlockDef) (m : Machine) (v : InstanceState) →
    slice_get s.blocks k ≡ Some b → is_power b.kind ≡ true →
    ActiveAreShown s m → ActiveAreShown s (with_instance m k v)
power_execute_active s k b m v at power h =
    all_active s k (with_instance m k v)
    (λ o l.
    let there = there_same m (slice_set m.instances k v) o l in
    let off : has_commands_on (slice_get s.blocks k) o ≡ false = ap (λ x. has_commands_on x o) at
    ∙ power_has_none b o power in
    none_beside (has_commands_on (slice_get s.blocks k) o) _ _ off
    (active_same m (slice_set m.instances k v) k o ∙ not_shown
    (has_commands_on (slice_get s.blocks k) o) _ _ off (h k o there)))
    (λ j d. beside_active s j k m v d (h j))

-- a call that asks no command takes Execute
edge_active : (s : Setup) (e : Edge) (k : ℕ) (i : Inputs) (m : Machine) → edge_of (instance_at m.instances k).execute i.execute ≡ e →
    (e ≡ edge.Rising → ⊥) → ActiveAreShown s m → ActiveAreShown s (with_execute k i m)
edge_active s edge.Rising k i m is quiet h = absurd (quiet refl)
edge_active s edge.High k i m is quiet h =
    instance_active s m k _ (ap (λ x. active_shown (progress_after x (instance_at m.instances k).progress)) is) h
edge_active s edge.Falling k i m is quiet h =
    instance_active s m k _ (ap (λ x. active_shown (progress_after x (instance_at m.instances k).progress)) is ∙ still_active _) h
edge_active s edge.Low k i m is quiet h =
    instance_active s m k _ (ap (λ x. active_shown (progress_after x (instance_at m.instances k).progress)) is ∙ still_active _) h

pub executed_active : (s : Setup) (k : ℕ) (b : BlockDef) (i : Inputs) (m : Machine) → slice_get s.blocks k ≡ Some b →
    (is_power b.kind ≡ false → edge_of (instance_at m.instances k).execute i.execute ≡ edge.Rising → ⊥) →
    ActiveAreShown s m → ActiveAreShown s (with_execute k i m)
executed_active s k b i m at quiet h = elim (cases_Bool (is_power b.kind)) [
  | inl power ↦ power_execute_active s k b m (instance.called (instance_at m.instances k) i.execute) at power h
  | inr other ↦ edge_active s (edge_of (instance_at m.instances k).execute i.execute) k i m refl (quiet other) h
]
