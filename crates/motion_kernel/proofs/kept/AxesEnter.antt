-- A machine stays kept by a command of a group that leads its axes on its path.
-- for: machines_stay_kept, call, cycle and others
use Rattle.std.specs.Prelude.{◌≡◌, refl, ℕ, ◌<◌, ℤ, Bool, true, false, Option, Some, None, is_some, Ok, length, if◌then◌else◌}
use Rattle.std.specs.Ordering.{int_eq}
use Rattle.std.proofs.Common.{arith, ap, sym, subst, ◌∙◌, inl, inr}
use Rattle.std.proofs.lemmas.Bool.{not-false}
use Rattle.std.proofs.lemmas.Bool.Decides.{Decides-int_eq}
use Rattle.axis_core.specs.AxisKept as axis
use Rattle.axis_core.specs.Cores as cores
use Rattle.axis_core.specs.blocks.Path.{axis_on_path, is_on_path, state_on_path}
use Rattle.axis_core.specs.declared.axis.Axis.{Axis}
use Rattle.plc_types.specs.declared.axis_state.AxisState.{AxisState}
use Rattle.plc_types.specs.declared.axis_state.AxisState.TheVariants.{Standstill, SynchronizedMotion}
use Rattle.command_pool.specs.declared.wanted.Wanted.{Wanted}
use Rattle.group_core.specs.Calls.{answer_of}
use Rattle.group_core.specs.Cores as group_cores
use Rattle.group_core.specs.GroupKept as group
use Rattle.group_core.specs.GroupKept.{is_within}
use Rattle.group_core.specs.Members.{StandsOn}
use Rattle.group_core.specs.Tracks.{OnPath, is_moving, place_on}
use Rattle.group_core.specs.declared.look.GroupLook.{GroupLook}
use Rattle.motion_history.specs.Setup.{Setup}
use Rattle.motion_kernel.specs.calls.Calls.{axes_led, axis_led, with_group_core}
use Rattle.motion_kernel.specs.looks.GroupLooks.{group_look}
use Rattle.motion_kernel.specs.Machine.{Machine, PlacedGroup, axis_at, axis_core_at, group_at, group_core_at}
use Rattle.motion_kernel.specs.kept.Machine.{IsLed, IsMachineKept, IsMember}
use Rattle.motion_kernel.specs.members.Members.{member_at, members_at}
use Rattle.motion_kernel.proofs.kept.LedAxes.{IsMoved, axes_after, axes_led_are, leads_on, led_member, led_size, moved_kept, moved_with, not_led}
use Rattle.motion_kernel.proofs.looks.Shown.{group_shown}
use Rattle.motion_kernel.proofs.kept.Ready.{IsMemberKept, few_members, may_look, member_kept}
use Rattle.motion_kernel.proofs.kept.GroupCommands.{begins_within, enable_waits, CommandLaws, commanded_at, answer_at, after_command, command_group_kept}
use Rattle.motion_kernel.proofs.kept.Standstill.{stands_still}

-- a path that does not move: both its places are one
rests : (p : OnPath) → is_moving (Some p) ≡ false → p.motion.place ≡ p.motion.previous
rests p e = (Decides-int_eq p.motion.place p.motion.previous).0 (not-false (int_eq p.motion.place p.motion.previous) e)

-- an axis that its group leads is on the path where there is one
pub led_on_path : (g : PlacedGroup) (p : OnPath) (c : cores.Core) → g.path ≡ Some p → IsLed g c → is_on_path c.axis ≡ true
led_on_path g p c e h =
    let state : c.axis.state ≡ SynchronizedMotion = h.state ∙ ap (λ (o : Option OnPath). if is_some o then SynchronizedMotion else Standstill) e in
    let idle = h.idle in
    rw (state, idle) refl

led_stands : (g : PlacedGroup) (c : cores.Core) → axis.IsCoreKept c → g.path ≡ None → IsLed g c → c.axis.previous ≡ c.axis.setpoint
led_stands g c kept e h =
    let state : c.axis.state ≡ Standstill = h.state ∙ ap (λ (o : Option OnPath). if is_some o then SynchronizedMotion else Standstill) e in
    (stands_still c kept state).stands

-- an axis whose group's path doesn't move rests
at_rest : (g : PlacedGroup) (place : ℕ) (c : cores.Core) (o : Option OnPath) → axis.IsCoreKept c → IsMember g place c → IsLed g c → g.path ≡ o →
    is_moving o ≡ false → c.axis.previous ≡ c.axis.setpoint
at_rest g place c None kept h led e m = led_stands g c kept e led
at_rest g place c (Some p) kept h led e m =
    let on = h.on (led_on_path g p c e led) in
    let is : Some p ≡ Some on.path = sym e ∙ on.on in
    let path : p ≡ on.path = cc in
    let s = on.stands in
    let rest = ap (λ (x : OnPath). x.motion.place) (sym path) ∙ rests p m ∙ ap (λ (x : OnPath). x.motion.previous) path in
    s.before_is ∙ ap (λ z. place_on on.path.way place z) (sym rest) ∙ sym s.now_is

-- an axis goes on the path of its group
on_state : (on : Bool) (s : AxisState) → s ≡ (if on then SynchronizedMotion else Standstill) → state_on_path true s ≡ SynchronizedMotion
on_state true s e = ap (state_on_path true) e
on_state false s e = ap (state_on_path true) e

goes_on : (on : Bool) (a : Axis) → a.state ≡ (if on then SynchronizedMotion else Standstill) → (axis_on_path true a).state ≡ SynchronizedMotion
unfolding axis_on_path
goes_on on a e = on_state on a.state e

member_led_on : (g after : PlacedGroup) (place : ℕ) (q : OnPath) (c : cores.Core) → after.path ≡ Some q → IsLed g c →
    StandsOn q place c.axis.previous c.axis.setpoint → IsMember after place (record c { axis = axis_on_path true c.axis })
unfolding axis_on_path
member_led_on g after place q c e h stands = record {
  on = λ x. record { path = q; on = e; stands = record { before_is = stands.before_is; now_is = stands.now_is } };
  led = λ x. record {
    idle = h.idle;
    alone = h.alone;
    state = goes_on (is_some g.path) c.axis h.state ∙ ap (λ (o : Option OnPath). if is_some o then SynchronizedMotion else Standstill) (sym e);
  };
}

pub limits_on : (on : Bool) (a : Axis) → (axis_on_path on a).limits ≡ a.limits
unfolding axis_on_path
limits_on on a = refl

-- where the axes stand on the path that begins or goes on
stands_on : CommandLaws → (s : Setup) (m : Machine) (j place : ℕ) (w : Wanted) (jerk : ℤ) (q : OnPath) → IsMachineKept s m → j < length m.groups →
    group.IsMade (group_at m j).group.axes w → place < length (members_at s j) → (commanded_at s m j w jerk).path ≡ Some q →
    IsLed (group_at m j) (axis_core_at m (member_at (members_at s j) place)) →
    StandsOn q place (axis_at m (member_at (members_at s j) place)).previous (axis_at m (member_at (members_at s j) place)).setpoint
stands_on laws s m j place w jerk q h l made b e led =
    let n = member_at (members_at s j) place in
    let look = group_look s m j 0 in
    let c = group_core_at m j in
    let g = group_at m j in
    let a = member_kept s m j place h l b in
    let may = may_look s m j 0 h l in
    let count = (h.groups j l).count in
    elim (laws.members.begins look place w jerk c may.look made may.kept (omega arith) q e) [
      | inl same ↦
          let on = a.placed.on (led_on_path g q (axis_core_at m n) same led) in
          let is : Some on.path ≡ Some q = sym on.on ∙ same in
          let path : on.path ≡ q = cc in
          subst (λ (p : OnPath). StandsOn p place (axis_at m n).previous (axis_at m n).setpoint) path on.stands
      | inr new ↦
          let shown = (group_shown s m j 0 (few_members s m j h l)).setpoints place b in
          let rest = at_rest g place (axis_core_at m n) g.path a.kept a.placed led refl new.0 in
          record { before_is = rest ∙ sym shown ∙ new.1.before_is; now_is = sym shown ∙ new.1.now_is }
    ]

-- only a group whose axes stand within their limits begins a path
begun_where : CommandLaws → (w : Wanted) (jerk : ℤ) (look : GroupLook) (c : group_cores.Core) → answer_of w jerk look c ≡ Ok true → is_within c.group.state ≡ true
begun_where laws w jerk look c answer = elim (laws.alive.only_enable w jerk look c (begins_within w jerk look c answer)) [
  | inl within ↦ within
  | inr enable ↦ absurd (enable_waits w jerk look c enable answer)
]

begun_member : CommandLaws → (s : Setup) (m : Machine) (j place n : ℕ) (w : Wanted) (jerk : ℤ) (q : OnPath) → IsMachineKept s m → j < length m.groups →
    group.IsMade (group_at m j).group.axes w → place < length (members_at s j) → member_at (members_at s j) place ≡ n →
    answer_at s m j w jerk ≡ Ok true → (commanded_at s m j w jerk).path ≡ Some q →
    IsMoved s m (after_command (commanded_at s m j w jerk)) place n (axis_led true (axis_at m n))
begun_member laws s m j place n w jerk q h l made b is answer e =
    let look = group_look s m j 0 in
    let c = group_core_at m j in
    let d = commanded_at s m j w jerk in
    let a : IsMemberKept s m j place n = subst (IsMemberKept s m j place) is (member_kept s m j place h l b) in
    let within : is_within c.group.state ≡ true = begun_where laws w jerk look c answer in
    let led = a.placed.led within in
    let free : is_some (axis_at m n).active ≡ false = ap is_some led.idle in
    let leads = leads_on (axis_at m n) free in
    let stands = subst (λ k. IsLed (group_at m j) (axis_core_at m k) → StandsOn q place (axis_at m k).previous (axis_at m k).setpoint) is
    (stands_on laws s m j place w jerk q h l made b e) led in
    rw leads (record {
      kept = laws.axes.path true (axis_core_at m n) a.kept led.idle (inl refl);
      limits = limits_on true (axis_at m n) ∙ a.limits;
      member = member_led_on (group_at m j) (after_command d) place q (axis_core_at m n) e led stands;
    })

some_path : (o : Option OnPath) → is_some o ≡ true → (q : OnPath) × (o ≡ Some q)
some_path None e = absurd (cc)
some_path (Some q) e = (q, refl)

-- a command that is active at once leads the axes on the path
pub begun_kept : CommandLaws → (s : Setup) (m : Machine) (j : ℕ) (w : Wanted) (jerk : ℤ) → IsMachineKept s m → j < length m.groups →
    group.IsMade (group_at m j).group.axes w → answer_at s m j w jerk ≡ Ok true →
    IsMachineKept s (axes_led true (members_at s j) (with_group_core m j (commanded_at s m j w jerk)))
begun_kept laws s m j w jerk h l made answer =
    let look = group_look s m j 0 in
    let c = group_core_at m j in
    let d = commanded_at s m j w jerk in
    let ms = members_at s j in
    let path = some_path d.path (laws.paths.begins w jerk look c answer) in
    let after : IsMachineKept s (moved_with m j d (axes_after true ms m.axes)) =
    moved_kept s m j d (axes_after true ms m.axes) h l (command_group_kept laws s m j w jerk h l made) (laws.counts.command w jerk look c)
    (led_size true ms m.axes) (λ n b out. not_led true ms m.axes n out)
    (λ place b n is.
    let there : n < length m.axes = subst (λ k. k < length m.axes) is (member_kept s m j place h l b).there in
    subst (IsMoved s m (after_command d) place n) (sym (led_member true ms m.axes place n there b is))
    (begun_member laws s m j place n w jerk path.0 h l made b is answer path.1)) in
    subst (IsMachineKept s) (sym (axes_led_are true ms (with_group_core m j d))) after
