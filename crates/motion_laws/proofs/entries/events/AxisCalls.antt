-- Each axis changes its state by its events in a call.
-- for: machines_can_stand, states_change_by_their_events, rows_show_the_machine and others
use Rattle.std.specs.Prelude.{◌≡◌, refl, ℕ, ◌<◌, Bool, true, false, if◌then◌else◌, is_some, ℤ, Some, List, length, slice_get}
use Rattle.std.proofs.Common.{arith, ap, sym, subst, ◌∙◌}
use Rattle.std.proofs.lemmas.Bool.{eqb-true}
use Rattle.axis_core.specs.AxisKept as axis
use Rattle.axis_core.specs.Calls.{axis_without_owner, core_after_command, core_after_power}
use Rattle.axis_core.specs.Cores as cores
use Rattle.axis_core.specs.Demands as demands
use Rattle.axis_core.specs.Refusals.{Asked}
use Rattle.axis_core.specs.blocks.Path.{axis_on_path, is_on_path}
use Rattle.axis_core.specs.declared.axis.Axis.{Axis}
use Rattle.command_pool.specs.Waiting.{queue_of}
use Rattle.command_pool.specs.declared.wanted.Wanted.{Wanted}
use Rattle.fb_outputs.specs.Steps.{is_power}
use Rattle.plc_types.specs.declared.inputs.Inputs.{Inputs}
use Rattle.motion_history.specs.Calls.{IsCall}
use Rattle.motion_history.specs.Setup.{Setup}
use Rattle.motion_history.specs.declared.config.BlockDef.{BlockDef}
use Rattle.motion_kernel.specs.Machine.{Machine, axis_at}
use Rattle.motion_kernel.specs.calls.Asking.{wanted_of}
use Rattle.motion_kernel.specs.calls.Calls.{after_call, axis_led, is_held_by_group, with_execute, without_owner}
use Rattle.motion_kernel.specs.kept.Machine.{AreWhole, IsMachineKept}
use Rattle.motion_kernel.specs.members.Members.{membership_of}
use Rattle.motion_kernel.proofs.kept.Detached.{disowned_kept}
use Rattle.motion_kernel.proofs.kept.Events.{instance_kept}
use Rattle.motion_laws.specs.calls.Axis.{by_call}
use Rattle.motion_laws.specs.entries.AxisEvents.{call_events, led_events}
use Rattle.motion_laws.proofs.entries.events.Laws.{EventLaws}
use Rattle.motion_kernel.proofs.walk.ByTest.{both}
use Rattle.motion_laws.proofs.walk.AxisCalls.{AsksWell, IsSaid, said_by_call}
use Rattle.state_events.specs.Axis.{Lead, command_events, power_events}
use Rattle.state_events.specs.Laws.{AreAxisEvents}

-- a command is asked of an axis that is kept, and made as it should
record IsWell (q : Asked) (c : cores.Core) : Type 0 where
  number : ℕ
  wanted : Wanted
  jerk : ℤ
  held : Bool
  tables : ℕ
  is : q ≡ demands.asked_in c number wanted jerk held tables
  kept : axis.IsCoreKept c
  made : demands.IsMade wanted

module _ (laws : AreAxisEvents) where
  led_goes : (on : Bool) (a : Axis) → Lead a.state (led_events on a) (axis_led on a).state
  led_goes true a = both (λ es (x : Axis). Lead a.state es x.state) (is_some a.active) _ _ a (axis_on_path true a)
      (λ e. refl) (λ e. laws.path true a)
  led_goes false a = both (λ es (x : Axis). Lead a.state es x.state) (is_on_path a) _ _ (axis_on_path false a) a
      (λ e. laws.path false a) (λ e. refl)

  -- every event of the axis is reported
  events_said : (a : Axis) (ws : List Wanted) → IsSaid call_events IsWell a ws (λ es x us. Lead a.state es x.state)
  events_said a ws = record {
    rests = refl;
    led = λ owner on. subst (λ t. Lead t (led_events on (axis_without_owner owner a)) (axis_led on (axis_without_owner owner a)).state)
        (laws.detach owner a) (led_goes on (axis_without_owner owner a));
    detach = λ owner. laws.detach owner a;
    power = λ enable c e us.
        let same : c.axis.state ≡ a.state = ap (λ (x : Axis). x.state) e in
        subst (λ t. Lead t (power_events enable c.axis.state) (core_after_power enable c).axis.state) same (laws.power enable c);
    command = λ owner q c e us well.
        let same : c.axis.state ≡ a.state = ap (λ (x : Axis). x.state) e ∙ laws.detach owner a in
        subst (λ t. Lead t (command_events q c) (core_after_command q c).axis.state) same
        (subst (λ r. Lead c.axis.state (command_events r c) (core_after_command r c).axis.state) (sym well.is)
        (laws.command c well.number well.wanted well.jerk well.held well.tables well.kept well.made));
  }

-- what a rising edge asks of an axis is made as it should
asks_well : EventLaws → (s : Setup) (k : ℕ) (b : BlockDef) (i : Inputs) (m : Machine) (n : ℕ) → IsMachineKept s m →
    AreWhole s → IsCall s k i → slice_get s.blocks k ≡ Some b → is_power b.kind ≡ false → AsksWell IsWell s k b i (with_execute k i m) n
asks_well laws s k b i m n h whole made at other off same =
    let x = with_execute k i m in
    let may = laws.may_call s k b i m whole at made h in
    let all = disowned_kept laws.kept_axes laws.definitions laws.kept_groups laws.counts s k x (instance_kept s m k _ h) in
    let sizes = all.sized in
    let size = sizes.axes in
    let there : b.object < length s.axes = subst (λ y. b.object < (if y then length s.groups else length s.axes)) off may.object in
    let is : b.object ≡ n = eqb-true b.object n same in
    record {
      number = n;
      wanted = wanted_of k b.kind i;
      jerk = i.jerk;
      held = is_held_by_group (membership_of s n) (without_owner k x);
      tables = length s.tables;
      is = refl;
      kept = (all.axes n (omega arith)).core;
      made = ((may.rise other).axis off).made;
    }

-- what a call makes of the state of an axis
pub axis_goes : EventLaws → (s : Setup) (m : Machine) (k : ℕ) (i : Inputs) (n : ℕ) → IsMachineKept s m → AreWhole s → IsCall s k i →
    n < length s.axes → Lead (axis_at m n).state (by_call call_events s (slice_get s.blocks k) k i m n) (axis_at (after_call s m k i) n).state
axis_goes laws s m k i n h whole made l =
    let sizes = h.sized in
    let a = sizes.axes in
    let q = sizes.queues in
    said_by_call call_events (λ es x us. Lead (axis_at m n).state es x.state) IsWell s m k i n
    (events_said laws.axes (axis_at m n) (queue_of m.queues n)) (record { axis = omega arith; list = omega arith })
    (λ b at other. asks_well laws s k b i m n h whole made at other)
