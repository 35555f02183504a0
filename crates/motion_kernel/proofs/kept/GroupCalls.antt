-- A machine stays kept by a command that is asked of a group.
-- for: machines_stay_kept, call, cycle and others
use Rattle.std.specs.Prelude.{◌≡◌, ◌⊎◌, refl, ℕ, ◌<◌, ℤ, Bool, true, false, Result, Ok, Err, length}
use Rattle.std.proofs.Common.{sym, subst, inl, inr}
use Rattle.command_pool.specs.declared.ending.Refusal.{Refusal}
use Rattle.plc_types.specs.declared.kind.BlockKind.{BlockKind}
use Rattle.plc_types.specs.declared.kind.BlockKind.TheVariants as kind
use Rattle.command_pool.specs.declared.wanted.Wanted.{Wanted}
use Rattle.plc_types.specs.declared.inputs.Inputs.{Inputs}
use Rattle.group_core.specs.GroupKept as group
use Rattle.motion_history.specs.Setup.{Setup}
use Rattle.motion_kernel.specs.calls.Asking.{wanted_of}
use Rattle.motion_kernel.specs.calls.Calls.{after_group_command, members_led, with_group_core}
use Rattle.motion_kernel.specs.Machine.{Machine, group_at}
use Rattle.motion_kernel.specs.kept.Machine.{IsMachineKept}
use Rattle.motion_kernel.proofs.kept.Events.{instance_kept}
use Rattle.motion_kernel.proofs.kept.AxesEnter.{begun_kept}
use Rattle.motion_kernel.proofs.kept.AxesLeave.{left_kept}
use Rattle.motion_kernel.proofs.kept.AxesUnled.{stays_kept}
use Rattle.motion_kernel.proofs.kept.GroupCommands.{CommandLaws, commanded_at, answer_at}

-- where a refused command, or one that waits or is done, leads no axes
refused_led : (s : Setup) (j : ℕ) (k : BlockKind) (r : Refusal) (m : Machine) → members_led s j k (Err r) m ≡ m
refused_led s j kind.GroupDisable r m = refl
refused_led s j _ r m = refl

waiting_led : (s : Setup) (j : ℕ) (k : BlockKind) (m : Machine) → (k ≡ kind.GroupDisable → ⊥) → members_led s j k (Ok false) m ≡ m
waiting_led s j kind.GroupDisable m h = absurd (h refl)
waiting_led s j _ m h = refl

disable_or : (k : BlockKind) → (k ≡ kind.GroupDisable) ⊎ (k ≡ kind.GroupDisable → ⊥)
disable_or kind.GroupDisable = inl refl
disable_or _ = inr (λ e. cc)

-- the machine is kept once the axes are led
led_kept_by : CommandLaws → (s : Setup) (m : Machine) (j : ℕ) (w : Wanted) (jerk : ℤ) (answer : Result Bool Refusal) → IsMachineKept s m → j < length m.groups →
    group.IsMade (group_at m j).group.axes w → answer_at s m j w jerk ≡ answer →
    IsMachineKept s (members_led s j w.kind answer (with_group_core m j (commanded_at s m j w jerk)))
led_kept_by laws s m j w jerk (Err r) h l made e =
    let after = with_group_core m j (commanded_at s m j w jerk) in
    subst (IsMachineKept s) (sym (refused_led s j w.kind r after))
    (stays_kept laws s m j w jerk h l made (λ x. cc) (λ k x. cc))
led_kept_by laws s m j w jerk (Ok true) h l made e = begun_kept laws s m j w jerk h l made e
led_kept_by laws s m j w jerk (Ok false) h l made e =
    let d = commanded_at s m j w jerk in
    let after = with_group_core m j d in
    elim (disable_or w.kind) [
      | inl disable ↦ subst (λ k. IsMachineKept s (members_led s j k (Ok false) after)) (sym disable) (left_kept laws s m j w jerk h l made disable e)
      | inr other ↦ subst (IsMachineKept s) (sym (waiting_led s j w.kind after other))
          (stays_kept laws s m j w jerk h l made (λ x. cc) (λ k x. other k))
    ]

-- a machine is kept after a command is asked of a group
pub group_command_kept : CommandLaws → (s : Setup) (k j : ℕ) (kind : BlockKind) (i : Inputs) (m : Machine) → IsMachineKept s m → j < length m.groups →
    group.IsMade (group_at m j).group.axes (wanted_of k kind i) → IsMachineKept s (after_group_command s k j kind i m)
unfolding after_group_command
group_command_kept laws s k j kind i m h l made =
    let w = wanted_of k kind i in
    let answer = answer_at s m j w i.jerk in
    let after = members_led s j kind answer (with_group_core m j (commanded_at s m j w i.jerk)) in
    instance_kept s after k _ (led_kept_by laws s m j w i.jerk answer h l made refl)
