-- A machine stays kept by a GroupDisable, by which a group's axes leave its path.
-- for: machines_stay_kept, call, cycle and others
use Rattle.std.specs.Prelude.{◌≡◌, refl, ℕ, ◌<◌, ℤ, true, false, not, Option, Some, None, is_some, Ok, length}
use Rattle.std.proofs.Common.{sym, subst, ◌∙◌, inl, inr}
use Rattle.std.proofs.lemmas.Bool.{and_parts, cases_Bool}
use Rattle.axis_core.specs.Cores as cores
use Rattle.axis_state.specs.States.{is_synchronized}
use Rattle.axis_core.specs.blocks.Path.{axis_on_path, is_on_path}
use Rattle.axis_core.specs.declared.axis.Axis.{Axis}
use Rattle.plc_types.specs.declared.kind.BlockKind.TheVariants as kind
use Rattle.command_pool.specs.declared.wanted.Wanted.{Wanted}
use Rattle.group_core.specs.Cores as group_cores
use Rattle.group_core.specs.GroupKept as group
use Rattle.group_core.specs.GroupKept.{is_within}
use Rattle.motion_history.specs.Setup.{Setup}
use Rattle.motion_kernel.specs.calls.Calls.{axes_led, axis_led, with_group_core}
use Rattle.motion_kernel.specs.looks.GroupLooks.{group_look}
use Rattle.motion_kernel.specs.Machine.{Machine, axis_at, axis_core_at, group_at, group_core_at}
use Rattle.motion_kernel.specs.kept.Machine.{IsMachineKept}
use Rattle.motion_kernel.specs.members.Members.{member_at, members_at}
use Rattle.motion_kernel.proofs.kept.AxisCalls.{member_off}
use Rattle.motion_kernel.proofs.kept.LedAxes.{IsMoved, axes_after, axes_led_are, is_off, leads_off, leaves_off, led_member, led_size, moved_kept, moved_with, not_led}
use Rattle.motion_kernel.proofs.kept.Ready.{IsMemberKept, may_look, member_kept}
use Rattle.motion_kernel.proofs.kept.AxesEnter.{limits_on}
use Rattle.motion_kernel.proofs.kept.GroupCommands.{is_disabled, CommandLaws, commanded_at, answer_at, after_command, command_group_kept}

-- the axes of a group that is disabled rest, where they are on its path
pub disabled_rests : CommandLaws → (s : Setup) (m : Machine) (j : ℕ) (w : Wanted) (jerk : ℤ) → IsMachineKept s m → j < length m.groups →
    group.IsMade (group_at m j).group.axes w → w.kind ≡ kind.GroupDisable → answer_at s m j w jerk ≡ Ok false →
    (place : ℕ) → place < length (members_at s j) → is_on_path (axis_at m (member_at (members_at s j) place)) ≡ true →
    (axis_at m (member_at (members_at s j) place)).previous ≡ (axis_at m (member_at (members_at s j) place)).setpoint
disabled_rests laws s m j w jerk h l made disable answer place b e =
    let n = member_at (members_at s j) place in
    let look = group_look s m j 0 in
    let c = group_core_at m j in
    let a = member_kept s m j place h l b in
    let may = may_look s m j 0 h l in
    let on = a.placed.on e in
    let off = is_disabled w jerk look c disable answer in
    laws.members.leaves look place w jerk c on.path (axis_at m n).previous (axis_at m n).setpoint may.look made may.kept on.on on.stands off.1

-- an axis on a path has no command
not_some : (o : Option Wanted) → not (is_some o) ≡ true → o ≡ None
not_some None e = refl
not_some (Some w) e = absurd (cc)

path_idle : (a : Axis) → is_on_path a ≡ true → a.active ≡ None
path_idle a e = not_some a.active (and_parts (is_synchronized a.state) (not (is_some a.active)) e).1

left_member : CommandLaws → (s : Setup) (m : Machine) (j place n : ℕ) (d : group_cores.Core) → IsMachineKept s m → j < length m.groups →
    place < length (members_at s j) → member_at (members_at s j) place ≡ n → is_within d.group.state ≡ false →
    (is_on_path (axis_at m n) ≡ true → (axis_at m n).previous ≡ (axis_at m n).setpoint) →
    IsMoved s m (after_command d) place n (axis_led false (axis_at m n))
left_member laws s m j place n d h l b is out rest =
    let a : IsMemberKept s m j place n = subst (IsMemberKept s m j place) is (member_kept s m j place h l b) in
    let c = axis_core_at m n in
    elim (cases_Bool (is_on_path (axis_at m n))) [
      | inl on ↦
          let leads = leads_off (axis_at m n) on in
          let left : cores.Core = record c { axis = axis_on_path false c.axis } in
          rw leads (record {
            kept = laws.axes.path false c a.kept (path_idle (axis_at m n) on) (inr (rest on));
            limits = limits_on false (axis_at m n) ∙ a.limits;
            member = member_off (after_command d) place left (is_off (axis_at m n)) out;
          })
      | inr off ↦
          let leads = leaves_off (axis_at m n) off in
          rw leads (record { kept = a.kept; limits = a.limits; member = member_off (after_command d) place c off out })
    ]

pub left_kept : CommandLaws → (s : Setup) (m : Machine) (j : ℕ) (w : Wanted) (jerk : ℤ) → IsMachineKept s m → j < length m.groups →
    group.IsMade (group_at m j).group.axes w → w.kind ≡ kind.GroupDisable → answer_at s m j w jerk ≡ Ok false →
    IsMachineKept s (axes_led false (members_at s j) (with_group_core m j (commanded_at s m j w jerk)))
left_kept laws s m j w jerk h l made disable answer =
    let look = group_look s m j 0 in
    let c = group_core_at m j in
    let d = commanded_at s m j w jerk in
    let ms = members_at s j in
    let out = (is_disabled w jerk look c disable answer).0 in
    let after : IsMachineKept s (moved_with m j d (axes_after false ms m.axes)) =
    moved_kept s m j d (axes_after false ms m.axes) h l (command_group_kept laws s m j w jerk h l made) (laws.counts.command w jerk look c)
    (led_size false ms m.axes) (λ n b x. not_led false ms m.axes n x)
    (λ place b n is.
    let there : n < length m.axes = subst (λ k. k < length m.axes) is (member_kept s m j place h l b).there in
    let rest = subst (λ k. is_on_path (axis_at m k) ≡ true → (axis_at m k).previous ≡ (axis_at m k).setpoint) is
    (disabled_rests laws s m j w jerk h l made disable answer place b) in
    subst (IsMoved s m (after_command d) place n) (sym (led_member false ms m.axes place n there b is))
    (left_member laws s m j place n d h l b is out rest)) in
    subst (IsMachineKept s) (sym (axes_led_are false ms (with_group_core m j d))) after
