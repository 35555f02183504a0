-- A machine stays kept by a command of a group that leads its axes nowhere.
-- for: machines_stay_kept, call, cycle and others
use Rattle.std.specs.Prelude.{◌≡◌, refl, ℕ, ◌<◌, ℤ, true, false, Option, Some, None, is_some, Ok, length, map, if◌then◌else◌}
use Rattle.std.proofs.Common.{ap, sym, ◌∙◌, inl, inr}
use Rattle.std.proofs.lemmas.Bool.{cases_Bool}
use Rattle.axis_core.specs.AxisKept as axis
use Rattle.axis_core.specs.Cores as cores
use Rattle.plc_types.specs.declared.axis_state.AxisState.TheVariants.{Standstill, SynchronizedMotion}
use Rattle.plc_types.specs.declared.kind.BlockKind.TheVariants as kind
use Rattle.command_pool.specs.declared.wanted.Wanted.{Wanted}
use Rattle.group_core.specs.Calls.{answer_of, commanded}
use Rattle.group_core.specs.Cores as group_cores
use Rattle.group_core.specs.GroupKept as group
use Rattle.group_core.specs.GroupKept.{is_within}
use Rattle.group_core.specs.Tracks.{OnPath}
use Rattle.group_core.specs.declared.look.GroupLook.{GroupLook}
use Rattle.motion_history.specs.Setup.{Setup}
use Rattle.motion_kernel.specs.calls.Calls.{with_group_core}
use Rattle.motion_kernel.specs.looks.GroupLooks.{group_look}
use Rattle.motion_kernel.specs.Machine.{Machine, PlacedGroup, axis_core_at, group_at, group_core_at}
use Rattle.motion_kernel.specs.kept.Machine.{IsLed, IsMachineKept, IsMember, limits_of}
use Rattle.motion_kernel.specs.members.Members.{member_at, members_at}
use Rattle.motion_kernel.proofs.kept.Events.{group_event_kept}
use Rattle.motion_kernel.proofs.kept.Ready.{few_members, member_kept}
use Rattle.motion_kernel.proofs.kept.GroupCommands.{is_enabled, enabled_off, CommandLaws, commanded_at, answer_at, after_command, command_group_kept}
use Rattle.motion_kernel.proofs.kept.Standstill.{stands_still, none_moved}

-- the path stays where no command is active at once and no GroupDisable is done
path_stays : CommandLaws → (w : Wanted) (jerk : ℤ) (look : GroupLook) (c : group_cores.Core) (p q : Option OnPath) →
    (answer_of w jerk look c ≡ Ok true → ⊥) → (w.kind ≡ kind.GroupDisable → answer_of w jerk look c ≡ Ok false → ⊥) →
    c.path ≡ p → (commanded w jerk look c).path ≡ q → (commanded w jerk look c).path ≡ c.path
path_stays laws w jerk look c None None not_begun not_left e f = f ∙ sym e
path_stays laws w jerk look c None (Some q) not_begun not_left e f = elim (laws.paths.only_begins w jerk look c q f) [
  | inl g ↦ absurd (cc)
  | inr b ↦ absurd (not_begun b)
]
path_stays laws w jerk look c (Some p) None not_begun not_left e f =
    let left = laws.paths.only_leaves w jerk look c p e f in absurd (not_left left.0 left.1)
path_stays laws w jerk look c (Some p) (Some q) not_begun not_left e f = elim (laws.paths.only_begins w jerk look c q f) [
  | inl g ↦ f ∙ sym g
  | inr b ↦ absurd (not_begun b)
]

-- an axis of the group after a command that leads it nowhere
led_stays : (g : PlacedGroup) (d : group_cores.Core) (c : cores.Core) → d.path ≡ g.path → IsLed g c → IsLed (after_command d) c
led_stays g d c same h = record {
  idle = h.idle;
  alone = h.alone;
  state = h.state ∙ ap (λ (p : Option OnPath). if is_some p then SynchronizedMotion else Standstill) (sym same);
}

pub led_standing : (d : group_cores.Core) (c : cores.Core) → axis.IsCoreKept c → c.axis.state ≡ Standstill → d.path ≡ None → IsLed (after_command d) c
led_standing d c kept e off =
    let still = stands_still c kept e in
    record { idle = still.idle; alone = still.alone; state = e ∙ ap (λ (p : Option OnPath). if is_some p then SynchronizedMotion else Standstill) (sym off) }

member_stays : CommandLaws → (s : Setup) (m : Machine) (j place : ℕ) (w : Wanted) (jerk : ℤ) → IsMachineKept s m → j < length m.groups →
    group.IsMade (group_at m j).group.axes w → (commanded_at s m j w jerk).path ≡ (group_at m j).path → place < length (members_at s j) →
    IsMember (after_command (commanded_at s m j w jerk)) place (axis_core_at m (member_at (members_at s j) place))
member_stays laws s m j place w jerk h l made same b =
    let n = member_at (members_at s j) place in
    let look = group_look s m j 0 in
    let c = group_core_at m j in
    let d = commanded_at s m j w jerk in
    let a = member_kept s m j place h l b in
    record {
      on = λ e. let o = a.placed.on e in record { path = o.path; on = same ∙ o.on; stands = o.stands };
      led = λ e. elim (cases_Bool (is_within c.group.state)) [
        | inl within ↦ led_stays (group_at m j) d (axis_core_at m n) same (a.placed.led within)
        | inr out ↦ elim (laws.alive.only_enable w jerk look c e) [
          | inl within ↦ absurd (cc)
          | inr enable ↦ elim (laws.alive.command w jerk look c e) [
            | inl within ↦ absurd (cc)
            | inr none ↦
                let kept = command_group_kept laws s m j w jerk h l made in
                let off = enabled_off c d (map (limits_of s) (members_at s j)) (is_enabled w jerk look c enable) kept out e in
                led_standing d (axis_core_at m n) a.kept (none_moved s m j 0 place (few_members s m j h l) b none) off
          ]
        ]
      ];
    }

-- a command that leads no axes
pub stays_kept : CommandLaws → (s : Setup) (m : Machine) (j : ℕ) (w : Wanted) (jerk : ℤ) → IsMachineKept s m → j < length m.groups →
    group.IsMade (group_at m j).group.axes w → (answer_at s m j w jerk ≡ Ok true → ⊥) → (w.kind ≡ kind.GroupDisable → answer_at s m j w jerk ≡ Ok false → ⊥) →
    IsMachineKept s (with_group_core m j (commanded_at s m j w jerk))
stays_kept laws s m j w jerk h l made not_begun not_left =
    let look = group_look s m j 0 in
    let c = group_core_at m j in
    let d = commanded_at s m j w jerk in
    let same = path_stays laws w jerk look c c.path d.path not_begun not_left refl refl in
    group_event_kept s m j d h l (command_group_kept laws s m j w jerk h l made) (laws.counts.command w jerk look c)
    (λ place b. member_stays laws s m j place w jerk h l made same b)
