-- Commands are where they are shown after a call.
-- for: machines_can_stand, replies_show_commands, commands_are_where_their_instances_show and others
use Rattle.std.specs.Prelude.{◌≡◌, refl, ℕ, zero, suc, true, false, not, ◌&&◌, Some, List, [], ◌∷◌, slice_get, slice_set}
use Rattle.std.proofs.Common.{ap, ◌∙◌, inl, inr}
use Rattle.std.proofs.lemmas.Bool.{cases_Bool}
use Rattle.fb_outputs.specs.InstanceState.{InstanceState}
use Rattle.fb_outputs.specs.Steps as instance
use Rattle.fb_outputs.specs.Steps.{edge_of, is_power, progress_after, shown_progress, without_shown}
use Rattle.plc_types.specs.declared.inputs.Inputs.{Inputs}
use Rattle.fb_outputs.specs.declared.instance.Edge.{Edge}
use Rattle.fb_outputs.specs.declared.instance.Edge.TheVariants as edge
use Rattle.fb_outputs.specs.declared.instance.Progress.{Progress}
use Rattle.fb_outputs.specs.declared.instance.Progress.TheVariants.{Idle, Waiting, Active, Ended}
use Rattle.motion_history.specs.Setup.{Setup}
use Rattle.motion_history.specs.declared.config.BlockDef.{BlockDef}
use Rattle.motion_kernel.specs.calls.Calls.{with_execute, with_instance}
use Rattle.motion_kernel.specs.Machine.{Machine, instance_at}
use Rattle.motion_kernel.specs.owners.Commands.{CommandsAreShown, commands_shown}
use Rattle.motion_kernel.specs.owners.Objects.{Object, has_commands_on, is_same, object_of}
use Rattle.motion_kernel.proofs.owners.Counts.{shown_by}
use Rattle.motion_kernel.proofs.owners.commands.Asked.{same_commands, all_shown}
use Rattle.motion_kernel.proofs.owners.commands.Events.{not_shown, none_beside, instances_shown}
use Rattle.motion_kernel.proofs.owners.commands.Freed.{beside_own}
use Rattle.motion_kernel.proofs.walk.Events.{there_same}

-- an instance that changes so that it shows as many commands
pub one_shown : (is : List InstanceState) (j k : ℕ) (v : InstanceState) → commands_shown v.progress
    ≡ shown_by is j → shown_by (slice_set is j v) k ≡ shown_by is k
one_shown [] j k v e = refl
one_shown (i ∷ is) zero zero v e = e
one_shown (i ∷ is) zero (suc k) v e = refl
one_shown (i ∷ is) (suc j) zero v e = refl
one_shown (i ∷ is) (suc j) (suc k) v e = one_shown is j k v e

pub instance_shown : (s : Setup) (m : Machine) (j : ℕ) (v : InstanceState) →
    commands_shown v.progress ≡ shown_by m.instances j → CommandsAreShown s m → CommandsAreShown s
    (with_instance m j v)
instance_shown s m j v e h k = instances_shown s k m (slice_set m.instances j v)
    (one_shown m.instances j k v e) (h k)

pub still_shown : (p : Progress) → commands_shown (without_shown p) ≡ commands_shown p
still_shown Idle = refl
still_shown Waiting = refl
still_shown Active = refl
still_shown (Ended f false) = refl
still_shown (Ended f true) = refl

pub reply_shown : (p : Progress) → commands_shown (shown_progress p) ≡ commands_shown p
reply_shown Idle = refl
reply_shown Waiting = refl
reply_shown Active = refl
reply_shown (Ended f shown) = refl

-- a Power has no command
pub power_has_none : (b : BlockDef) (o : Object) → is_power b.kind ≡ true → has_commands_on
    (Some b) o ≡ false
power_has_none b o e = ap (λ x. not x && is_same (object_of b) o) e

pub power_shown : (s : Setup) (k : ℕ) (b : BlockDef) (m : Machine) (v : InstanceState) → slice_get s.blocks k ≡ Some b →
    is_power b.kind ≡ true → CommandsAreShown s m → CommandsAreShown s (with_instance m k v)
power_shown s k b m v at power h =
    all_shown s k (with_instance m k v)
    (λ o l.
    let there = there_same m (slice_set m.instances k v) o l in
    let off : has_commands_on (slice_get s.blocks k) o ≡ false = ap (λ x. has_commands_on x o) at
    ∙ power_has_none b o power in
    none_beside (has_commands_on (slice_get s.blocks k) o) _ _ off
    (same_commands m (slice_set m.instances k v) k o ∙ not_shown
    (has_commands_on (slice_get s.blocks k) o) _ _ off (h k o there)))
    (λ j d. beside_own s j k m v d (h j))

-- a call that asks no command takes Execute
edge_shown : (s : Setup) (e : Edge) (k : ℕ) (i : Inputs) (m : Machine) → edge_of (instance_at m.instances k).execute i.execute ≡ e →
    (e ≡ edge.Rising → ⊥) → CommandsAreShown s m → CommandsAreShown s (with_execute k i m)
edge_shown s edge.Rising k i m is quiet h = absurd (quiet refl)
edge_shown s edge.High k i m is quiet h =
    instance_shown s m k _ (ap (λ x. commands_shown (progress_after x (instance_at m.instances k).progress)) is) h
edge_shown s edge.Falling k i m is quiet h =
    instance_shown s m k _ (ap (λ x. commands_shown (progress_after x (instance_at m.instances k).progress)) is ∙ still_shown _) h
edge_shown s edge.Low k i m is quiet h =
    instance_shown s m k _ (ap (λ x. commands_shown (progress_after x (instance_at m.instances k).progress)) is ∙ still_shown _) h

pub executed_shown : (s : Setup) (k : ℕ) (b : BlockDef) (i : Inputs) (m : Machine) → slice_get s.blocks k ≡ Some b →
    (is_power b.kind ≡ false → edge_of (instance_at m.instances k).execute i.execute ≡ edge.Rising → ⊥) →
    CommandsAreShown s m → CommandsAreShown s (with_execute k i m)
executed_shown s k b i m at quiet h = elim (cases_Bool (is_power b.kind)) [
  | inl power ↦ power_shown s k b m (instance.called (instance_at m.instances k) i.execute) at power h
  | inr other ↦ edge_shown s (edge_of (instance_at m.instances k).execute i.execute) k i m refl (quiet other) h
]
