-- Errors are reported as they are shown in a call.
-- for: errors_have_causes, errors_are_told_as_shown
use Rattle.std.specs.Prelude.{◌≡◌, ◌⊎◌, refl, ℕ, ◌<◌, true, Some, List, [], length, slice_get}
use Rattle.std.proofs.Common.{arith, ap, sym, subst, ◌∙◌, inl, inr}
use Rattle.axis_core.specs.Calls.{axis_without_owner}
use Rattle.axis_core.specs.declared.axis.Axis.{Axis}
use Rattle.buffer_modes.specs.Queue.{end_notes}
use Rattle.command_changes.specs.Failing.{failing}
use Rattle.command_changes.specs.Group.{power_off_changes}
use Rattle.command_core.specs.Changes.{Change, all_changed}
use Rattle.command_core.specs.CommandState.{CommandState, queue_of}
use Rattle.command_pool.specs.Waiting as waiting
use Rattle.command_pool.specs.declared.ending.Finish.TheVariants as finish
use Rattle.command_pool.specs.declared.wanted.Wanted.{Wanted}
use Rattle.plc_types.specs.declared.inputs.Inputs.{Inputs}
use Rattle.plc_types.specs.declared.outputs.Outputs.{Outputs}
use Rattle.group_core.specs.Calls.{commanded, group_without, powered_off}
use Rattle.group_core.specs.Cores.{Core, failed}
use Rattle.group_core.specs.States as groups_in
use Rattle.group_core.specs.States.{may_fail}
use Rattle.group_core.specs.declared.group.Group.{Group}
use Rattle.motion_history.specs.Calls.{IsCall}
use Rattle.motion_history.specs.Entries.{call}
use Rattle.motion_history.specs.Setup.{Setup}
use Rattle.motion_kernel.specs.Machine.{Machine, axis_at, axis_core_at, group_at, group_core_at}
use Rattle.motion_kernel.specs.calls.Calls.{after_call}
use Rattle.motion_kernel.specs.kept.Machine.{AreWhole, IsMachineKept}
use Rattle.motion_laws.specs.calls.Axis as on_axis
use Rattle.motion_laws.specs.calls.Group.{by_call}
use Rattle.motion_kernel.specs.calls.Requests.{machine_asked, request_of}
use Rattle.motion_laws.specs.entries.Numbers.{TellsErrors}
use Rattle.motion_kernel.specs.owners.Objects.{a_group, an_axis}
use Rattle.motion_laws.specs.results.Effects.{changes_by_request, effect_by_request, group_changes}
use Rattle.motion_kernel.specs.owners.Blocks.{command_state_at}
use Rattle.motion_laws.specs.results.Outcomes.{end_of_command}
use Rattle.motion_laws.proofs.entries.numbers.Groups.{KeepsError, command_keeps, off_same}
use Rattle.motion_laws.proofs.entries.numbers.Notes.{AllTell, Nothing, Shows, all_told, more, told_in, untold}
use Rattle.motion_laws.proofs.entries.numbers.Quiet.{TellNone, axis_none, group_command, group_request, none_told}
use Rattle.motion_kernel.proofs.owners.Blocks.{untold as nothing_told}
use Rattle.motion_laws.proofs.walk.AxisCalls as axes
use Rattle.motion_laws.proofs.walk.Stays.{Stance, command_stands, detached_stands, path_stands, power_stands}
use Rattle.motion_kernel.proofs.walk.ByTest.{both}
use Rattle.motion_laws.proofs.walk.GroupCalls as groups
use Rattle.motion_kernel.proofs.walk.Keeps.{WalkLaws}

-- a call leaves the error of an axis
abbrev error_of : Stance → ℕ
error_of s = s.error

axis_said : (a : Axis) (ws : List Wanted) →
    axes.IsByFate axes.AnyAsked a ws (λ f x us. x.error ≡ a.error)
axis_said a ws = record {
  rests = refl;
  led = λ owner on. axes.path_led (λ (y : Axis). y.error ≡ a.error)
      (λ by y e. ap error_of (path_stands by y) ∙ e) on (axis_without_owner owner a)
      (ap error_of (detached_stands owner a));
  detach = λ owner. ap error_of (detached_stands owner a);
  power = λ enable c e us.
      ap error_of (power_stands enable c) ∙ ap (λ (x : Axis). x.error) e;
  command = λ owner q c e us well.
      ap error_of (command_stands q c) ∙ ap (λ (x : Axis). x.error) e
      ∙ ap error_of (detached_stands owner a);
}

pub axis_error : (s : Setup) (m : Machine) (k : ℕ) (i : Inputs) (n : ℕ) → IsMachineKept s m →
    n < length m.axes → (axis_at (after_call s m k i) n).error ≡ (axis_at m n).error
axis_error s m k i n h l =
    let sizes = h.sized in
    let a = sizes.axes in
    let q = sizes.queues in
    axes.by_call (λ f x us. x.error ≡ (axis_at m n).error) s m k i n
    (axis_said (axis_at m n) (waiting.queue_of m.queues n))
    (record { axis = omega arith; list = omega arith }) (λ b at other off same. tt)

-- and gives none of its commands an error
pub axis_quiet : (s : Setup) (m : Machine) (k : ℕ) (i : Inputs) (reply : Outputs) (n j error : ℕ) →
    end_of_command s m (call k i reply) j (an_axis n) ≡ Some (finish.Error error) → ⊥
axis_quiet s m k i reply n j error e =
    let r = request_of (slice_get s.blocks k) k i m in
    let x = machine_asked r k i m in
    told_in Nothing j error _ (none_told Nothing (changes_by_request s r k i x (an_axis n))
    (command_state_at x (an_axis n)) (axis_none (on_axis.by_request s r k i x n) (axis_core_at x n))
    (untold Nothing (command_state_at x (an_axis n)).notes (nothing_told x (an_axis n)))) e

pub axis_called : (s : Setup) (m : Machine) (k : ℕ) (i : Inputs) (reply : Outputs) (n : ℕ) →
    IsMachineKept s m → n < length m.axes → TellsErrors s m (call k i reply) (an_axis n)
axis_called s m k i reply n h l = record {
  shown = λ j error e. absurd (axis_quiet s m k i reply n j error e);
  whose = λ j error e. absurd (axis_quiet s m k i reply n j error e);
  stays = λ before now. axis_error s m k i n h l;
  comes = tt;
}

-- in a call a group fails by 102 alone, and its error stays in GroupErrorStop
record Says (c : Core) (xs : List Change) (x : Core) : Type 0 where
  keeps : groups_in.is_error_stop c.group.state ≡ true → KeepsError c.group x.group
  fails : TellNone xs ⊎ (x.group.error ≡ 102)

pub group_detached : (owner : ℕ) (g : Group) → (group_without owner g).error ≡ g.error
unfolding group_without
group_detached owner g = refl

off_fails : (c : Core) →
    TellNone (power_off_changes c) ⊎ ((powered_off c).group.error ≡ 102)
unfolding power_off_changes powered_off failed
off_fails c =
    both (λ (xs : List Change) (x : Core). TellNone xs ⊎ (x.group.error ≡ 102))
    (may_fail c.group.state) (failing 102) [] (failed 102 c) c (λ e. inr refl) (λ e. inl tt)

pub from_error : (g x y : Group) → x.error ≡ g.error → KeepsError x y → KeepsError g y
from_error g x y e h = elim h [ inl same ↦ inl (same ∙ e) | inr out ↦ inr out ]

group_said : (c : Core) → groups.IsSaid group_changes c (Says c)
group_said c = record {
  rests = record { keeps = λ h. inl refl; fails = inl tt };
  untold = λ xs x said. record { keeps = said.keeps; fails = said.fails };
  detach = λ owner.
      record { keeps = λ h. inl (group_detached owner c.group); fails = inl tt };
  power_off = record {
    keeps = λ h. inl (ap (λ (x : Core). x.group.error) (off_same c h));
    fails = off_fails c;
  };
  command = λ owner w jerk members x e looks made kept. record {
    keeps = λ h. from_error c.group x.group (commanded w jerk members x).group
        (ap (λ (y : Core). y.group.error) e ∙ group_detached owner c.group)
        (command_keeps w jerk members x);
    fails = inl (group_command w jerk members x);
  };
}

says : WalkLaws → (s : Setup) (m : Machine) (k : ℕ) (i : Inputs) (j : ℕ) → AreWhole s →
    IsCall s k i → IsMachineKept s m → j < length m.groups →
    Says (group_core_at m j) (by_call group_changes s (slice_get s.blocks k) k i m j)
    (group_core_at (after_call s m k i) j)
says laws s m k i j whole made h l =
    let sizes = h.sized in
    let g = sizes.groups in
    let q = sizes.queues in
    groups.said_by_call group_changes (Says (group_core_at m j)) s m k i j
    (group_said (group_core_at m j)) (record { group = omega arith; list = omega arith })
    (λ b at. laws.may_call s k b i m whole at made h) h

-- so it has the error that it gives
failing_told : (n : ℕ) (c : CommandState) → c.notes ≡ [] →
    AllTell (Shows c n) (all_changed (failing n) c).notes
failing_told n c e =
    more (Shows c n) c.notes (end_notes (finish.Error n) (queue_of c))
    (untold (Shows c n) c.notes e)
    (all_told (Shows c n) n (queue_of c) (λ k h. (inl h, refl)))

group_told : WalkLaws → (s : Setup) (m : Machine) (k : ℕ) (i : Inputs) (reply : Outputs)
    (j owner error : ℕ) → AreWhole s → IsCall s k i → IsMachineKept s m → j < length m.groups →
    end_of_command s m (call k i reply) owner (a_group j) ≡ Some (finish.Error error) →
    Shows (command_state_at m (a_group j)) (group_at (after_call s m k i) j).group.error owner error
group_told laws s m k i reply j owner error whole made h l e =
    let r = request_of (slice_get s.blocks k) k i m in
    let x = effect_by_request s r k i m (a_group j) in
    let said = says laws s m k i j whole made h l in
    elim (group_request s r k i m j) [
      | inl none ↦ absurd (told_in Nothing owner error _
          (none_told Nothing x.changes x.commands none
          (untold Nothing x.commands.notes
          (nothing_told (machine_asked r k i m) (a_group j)))) e)
      | inr fails ↦
          let c = command_state_at m (a_group j) in
          let told : AllTell (Shows c 102) (all_changed x.changes x.commands).notes =
          subst (λ xs. AllTell (Shows c 102) (all_changed xs x.commands).notes) (sym fails.changes)
          (subst (λ d. AllTell (Shows c 102) (all_changed (failing 102) d).notes)
          (sym fails.commands) (failing_told 102 c refl)) in
          let shows = told_in (Shows c 102) owner error _ told e in
          elim said.fails [
            | inl none ↦ absurd (subst TellNone fails.changes none)
            | inr is ↦ (shows.0, is ∙ shows.1)
          ]
    ]

pub group_called : WalkLaws → (s : Setup) (m : Machine) (k : ℕ) (i : Inputs) (reply : Outputs)
    (j : ℕ) → AreWhole s → IsCall s k i → IsMachineKept s m → j < length m.groups →
    TellsErrors s m (call k i reply) (a_group j)
group_called laws s m k i reply j whole made h l =
    let said = says laws s m k i j whole made h l in
    record {
      shown = λ owner error e.
          inl (group_told laws s m k i reply j owner error whole made h l e).1;
      whose = λ owner error e. (group_told laws s m k i reply j owner error whole made h l e).0;
      stays = λ before now. elim (said.keeps before) [
        | inl same ↦ same
        | inr out ↦ absurd (cc)
      ];
      comes = λ one before now. absurd (omega arith);
    }
