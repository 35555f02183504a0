-- What an axis and what waits for it keep in every call and every cycle.
-- for: machines_can_stand
use Rattle.std.specs.Prelude.{◌≡◌, refl, ℕ, zero, suc, ◌<◌, Bool, false, Some, None, List, [], ◌∷◌, length, map, slice_get}
use Rattle.std.proofs.Common.{arith, ap, sym, subst, ◌∙◌}
use Rattle.axis_core.specs.AxisKept.{IsAxisKept, IsCoreKept}
use Rattle.axis_core.specs.Calls.{axis_without_owner, core_after_command, core_after_power}
use Rattle.axis_core.specs.Cores.{Core}
use Rattle.axis_core.specs.Cycles.{axis_at_opening, core_after_cycle}
use Rattle.axis_core.specs.Led.{HasCommand, StaysLed}
use Rattle.axis_core.specs.Refusals.{Asked}
use Rattle.axis_core.specs.blocks.Path.{axis_on_path}
use Rattle.axis_core.specs.declared.axis.Axis.{Axis}
use Rattle.axis_core.specs.declared.look.AxisLook.{AxisLook}
use Rattle.plc_types.specs.declared.axis.AxisDef.{AxisDef}
use Rattle.plc_types.specs.declared.drive.DriveIn.{DriveIn}
use Rattle.command_pool.specs.Waiting.{detached, queue_of}
use Rattle.command_pool.specs.declared.wanted.Wanted.{Wanted}
use Rattle.fb_outputs.specs.Steps.{is_power}
use Rattle.plc_types.specs.declared.inputs.Inputs.{Inputs}
use Rattle.motion_history.specs.Calls.{IsCall}
use Rattle.motion_history.specs.declared.config.BlockDef.{BlockDef}
use Rattle.motion_history.specs.Setup.{Setup}
use Rattle.motion_kernel.proofs.cycles.OneAxis.{goes_through}
use Rattle.motion_kernel.proofs.kept.Machine.{MachinesStayKept}
use Rattle.motion_kernel.specs.Machine.{Machine, axis_among, axis_at, axis_core_at}
use Rattle.motion_kernel.proofs.walk.Keeps.{WalkLaws}
use Rattle.motion_kernel.specs.calls.Calls.{after_call, with_execute}
use Rattle.motion_kernel.specs.cycles.Cycles.{after_cycle, look_of_axis}
use Rattle.motion_kernel.specs.kept.Machine.{AreWhole, IsMachineKept}
use Rattle.motion_laws.proofs.standing.Orders.{AsksWell, command_orders, cycle_orders, detached_orders, follow_asked, led_orders, master_asked, no_orders, power_orders}
use Rattle.motion_laws.proofs.standing.Steered.{cycle_steered, opened_steered, put}
use Rattle.motion_laws.proofs.walk.Stays.{command_stands, detached_stands, path_stands, power_stands}
use Rattle.motion_laws.proofs.walk.AxisCalls as axes
use Rattle.motion_laws.specs.Orders.{AreOrders}
use Rattle.motion_laws.specs.Standing.{AxisStands, IsSteered}

-- axis_core's moving_axes_have_commands
pub record AxisLaws : Type 0 where
  pub opened : (d : AxisDef) → HasCommand (axis_at_opening d)
  pub command : (q : Asked) (c : Core) → StaysLed c.axis (core_after_command q c).axis
  pub power : (enable : Bool) (c : Core) → StaysLed c.axis (core_after_power enable c).axis
  pub detach : (owner : ℕ) (a : Axis) → StaysLed a (axis_without_owner owner a)
  pub path : (on : Bool) (a : Axis) → HasCommand a → HasCommand (axis_on_path on a)
  pub cycle : (look : AxisLook) (c : Core) → IsCoreKept c →
      StaysLed c.axis (core_after_cycle look c).axis

-- what a call keeps
said : AxisLaws → (s : Setup) (n : ℕ) (a : Axis) (ws : List Wanted) → AxisStands s n a ws →
    axes.IsByFate (AsksWell s n) a ws (λ f x us. AxisStands s n x us)
said laws s n a ws h = record {
  rests = h;
  led = λ owner on. record {
    command = axes.path_led (λ (y : Axis). HasCommand y) laws.path on (axis_without_owner owner a)
        ((laws.detach owner a).command h.command);
    orders = axes.path_led (λ (y : Axis). AreOrders s n y (map (detached owner) ws))
        (λ b y o. led_orders s n b y (map (detached owner) ws) o) on (axis_without_owner owner a)
        (detached_orders s n owner a ws h.orders);
    steered = axes.path_led (λ (y : Axis). IsSteered y)
        (λ b y o. put y (axis_on_path b y) (path_stands b y) o) on (axis_without_owner owner a)
        (put a (axis_without_owner owner a) (detached_stands owner a) h.steered);
  };
  detach = λ owner. record {
    command = (laws.detach owner a).command h.command;
    orders = detached_orders s n owner a ws h.orders;
    steered = put a (axis_without_owner owner a) (detached_stands owner a) h.steered;
  };
  power = λ enable c e us. record {
    command = (laws.power enable c).command
        (subst (λ (y : Axis). HasCommand y) (sym e) h.command);
    orders = power_orders s n enable c (given c a ws e us h.orders);
    steered = put c.axis (core_after_power enable c).axis (power_stands enable c)
        (subst (λ (y : Axis). IsSteered y) (sym e) h.steered);
  };
  command = λ owner q c e us well. record {
    command = (laws.command q c).command
        (subst (λ (y : Axis). HasCommand y) (sym e) ((laws.detach owner a).command h.command));
    orders = command_orders s n q c well
        (given c (axis_without_owner owner a) (map (detached owner) ws) e us
        (detached_orders s n owner a ws h.orders));
    steered = put c.axis (core_after_command q c).axis (command_stands q c)
        (subst (λ (y : Axis). IsSteered y) (sym e)
        (put a (axis_without_owner owner a) (detached_stands owner a) h.steered));
  };
}
  where
    given : (c : Core) (b : Axis) (us : List Wanted) → c.axis ≡ b → c.waiting ≡ us →
        AreOrders s n b us → AreOrders s n c.axis c.waiting
    given c b us e w o =
        subst (λ v. AreOrders s n c.axis v) (sym w) (subst (λ y. AreOrders s n y us) (sym e) o)

-- a block is of one kind
one_kind : (s : Setup) (k j : ℕ) (b d : BlockDef) → slice_get s.blocks k ≡ Some b →
    slice_get s.blocks j ≡ Some d → Some k ≡ Some j → b.kind ≡ d.kind
one_kind s k j b d at at_j owned =
    let same : k ≡ j = cc in
    let is : Some b ≡ Some d = sym at ∙ ap (slice_get s.blocks) same ∙ at_j in
    let block : b ≡ d = cc in
    ap (λ (x : BlockDef). x.kind) block

-- a call asks well
asks_well : WalkLaws → (s : Setup) (k : ℕ) (b : BlockDef) (i : Inputs) (m : Machine) (n : ℕ) →
    AreWhole s → IsCall s k i → IsMachineKept s m → slice_get s.blocks k ≡ Some b →
    is_power b.kind ≡ false → axes.AsksWell (AsksWell s n) s k b i (with_execute k i m) n
asks_well walk s k b i m n whole made kept at other off same =
    let may = walk.may_call s k b i m whole at made kept in
    record {
      number = refl;
      tables = refl;
      made = ((may.rise other).axis off).made;
      follow = follow_asked b.kind i;
      there = master_asked (length s.axes) b.kind i made.master;
      own = λ j d owned at_j. one_kind s k j b d at at_j owned;
    }

pub call_stands : AxisLaws → WalkLaws → (s : Setup) (m : Machine) (k : ℕ) (i : Inputs) (n : ℕ) →
    AreWhole s → IsCall s k i → IsMachineKept s m → n < length m.axes →
    AxisStands s n (axis_at m n) (queue_of m.queues n) →
    AxisStands s n (axis_at (after_call s m k i) n) (queue_of (after_call s m k i).queues n)
call_stands laws walk s m k i n whole made kept l h =
    let sizes = kept.sized in
    let axes_are = sizes.axes in
    let lists_are = sizes.queues in
    axes.by_call (λ f x us. AxisStands s n x us) s m k i n
    (said laws s n (axis_at m n) (queue_of m.queues n) h)
    (record { axis = l; list = omega arith })
    (λ b at other. asks_well walk s k b i m n whole made kept at other)

-- what a cycle keeps
pub cycle_stands : AxisLaws → MachinesStayKept → (s : Setup) (m : Machine) (ins : List DriveIn)
    (n : ℕ) → IsMachineKept s m → IsMachineKept s (after_cycle s m ins) → n < length m.axes →
    n < length (after_cycle s m ins).axes →
    AxisStands s n (axis_at m n) (queue_of m.queues n) →
    AxisStands s n (axis_at (after_cycle s m ins) n) (queue_of (after_cycle s m ins).queues n)
cycle_stands laws machines s m ins n kept after l there h =
    let goes = goes_through s m ins n kept (machines.may_go_on s m ins kept) l in
    let look = look_of_axis s m ins n in
    record {
      command = subst (λ (y : Axis). HasCommand y) (sym goes.after)
          ((laws.cycle look (axis_core_at m n) goes.kept).command h.command);
      orders = subst (λ us. AreOrders s n (axis_at (after_cycle s m ins) n) us) (sym goes.waiting)
          (subst (λ y. AreOrders s n y (core_after_cycle look (axis_core_at m n)).waiting)
          (sym goes.after) (cycle_orders s n look (axis_core_at m n) h.orders));
      steered =
          let before = kept.axes n l in
          let now = after.axes n there in
          subst (λ (y : Axis). IsSteered y) (sym goes.after)
          (cycle_steered look (axis_core_at m n) before.core.axis
          (subst (λ (y : Axis). IsAxisKept y) goes.after now.core.axis)
          (ap (λ (y : Axis). y.limits) (sym goes.after) ∙ now.limits ∙ sym before.limits));
    }

-- at opening
rests : (d : AxisDef) → (axis_at_opening d).active ≡ None
unfolding axis_at_opening
rests d = refl

free : (d : AxisDef) → (axis_at_opening d).hold ≡ None
unfolding axis_at_opening
free d = refl

pub opened_stands : AxisLaws → (s : Setup) (number : ℕ) (ds : List AxisDef) (n : ℕ) →
    n < length ds → (ws : List Wanted) → ws ≡ [] →
    IsAxisKept (axis_among (map axis_at_opening ds) n) →
    AxisStands s number (axis_among (map axis_at_opening ds) n) ws
opened_stands laws s number [] n l ws e kept = absurd (omega arith)
opened_stands laws s number (d ∷ ds) zero l ws e kept = record {
  command = laws.opened d;
  orders = no_orders s number (axis_at_opening d) ws (rests d) (free d) e;
  steered = opened_steered d kept;
}
opened_stands laws s number (d ∷ ds) (suc n) l ws e kept =
    opened_stands laws s number ds n (omega arith) ws e kept
