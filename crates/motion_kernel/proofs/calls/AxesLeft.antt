-- What a call leaves of each axis.
-- for: rows_are_counted
use Rattle.std.specs.Prelude.{refl, ℕ, zero, suc, Bool, true, false, is_some, Option, Some, None, Result, List, [], ◌∷◌, map, slice_get, slice_set}
use Rattle.std.proofs.Common.{◌∙◌}
use Rattle.axis_core.specs.Along.{KeepsDefinition}
use Rattle.axis_core.specs.Calls.{axis_without_owner, core_after_command, core_after_power}
use Rattle.axis_core.specs.Cores as cores
use Rattle.axis_core.specs.Refusals.{Asked}
use Rattle.axis_core.specs.blocks.Path.{axis_on_path, is_on_path}
use Rattle.axis_core.specs.declared.axis.Axis.{Axis}
use Rattle.plc_types.specs.Kinds.{acts_on_group}
use Rattle.command_pool.specs.declared.ending.Refusal.{Refusal}
use Rattle.plc_types.specs.declared.kind.BlockKind.{BlockKind}
use Rattle.fb_outputs.specs.Steps.{edge_of, is_power}
use Rattle.plc_types.specs.declared.inputs.Inputs.{Inputs}
use Rattle.fb_outputs.specs.declared.instance.Edge.{Edge}
use Rattle.fb_outputs.specs.declared.instance.Edge.TheVariants as edge
use Rattle.motion_history.specs.Setup.{Setup}
use Rattle.motion_history.specs.declared.config.BlockDef.{BlockDef}
use Rattle.motion_kernel.specs.calls.Calls.{after_asking, after_axis_command, after_call, after_edge, after_group_command, after_power, after_rising, asked_of_axis, axes_led, axis_led, called, called_where, enters_path, group_without_power, leaves_path, members_led, with_axis_core, with_execute, without_owner}
use Rattle.motion_kernel.specs.Machine.{Machine, axis_among, axis_at, axis_core_at, instance_at}
use Rattle.motion_kernel.specs.members.Members.{members_at, membership_of}
use Rattle.motion_kernel.specs.declared.memberships.Membership.{Membership}
use Rattle.motion_kernel.proofs.kept.Laws.{AxesKeepDefinitions}
use Rattle.motion_kernel.proofs.Sizes.{by_if}

-- what a call of an axis leaves: so it is with an axis that is left alone, and with one call after
-- another
pub record CallsLeave (R : Axis → Axis → Type 0) : Type 0 where
  pub alone : (a : Axis) → R a a
  pub both : (a b c : Axis) → R a b → R b c → R a c
  pub command : (q : Asked) (c : cores.Core) → R c.axis (core_after_command q c).axis
  pub power : (enable : Bool) (c : cores.Core) → R c.axis (core_after_power enable c).axis
  pub detach : (owner : ℕ) (a : Axis) → R a (axis_without_owner owner a)
  pub path : (on : Bool) (a : Axis) → R a (axis_on_path on a)

-- and each axis its definition
pub calls_leave_definitions : AxesKeepDefinitions → CallsLeave KeepsDefinition
calls_leave_definitions laws = record {
  alone = λ a. record { limits = refl; inc = refl };
  both = λ a b c h k. record { limits = k.limits ∙ h.limits; inc = k.inc ∙ h.inc };
  command = laws.command;
  power = laws.power;
  detach = laws.detach;
  path = laws.path;
}

-- each axis is left so
abbrev pub AllLeft : (R : Axis → Axis → Type 0) → Machine → Machine → Type 0
AllLeft R m after = (n : ℕ) → R (axis_at m n) (axis_at after n)

all_alone : (R : Axis → Axis → Type 0) → CallsLeave R → (m : Machine) → AllLeft R m m
all_alone R laws m n = laws.alone (axis_at m n)

all_both : (R : Axis → Axis → Type 0) → CallsLeave R → (a b c : Machine) → AllLeft R a b → AllLeft R b c → AllLeft R a c
all_both R laws a b c h k n = laws.both (axis_at a n) (axis_at b n) (axis_at c n) (h n) (k n)

-- where one axis is written that is left so, all are
one_left : (R : Axis → Axis → Type 0) → CallsLeave R → (axes : List Axis) (i n : ℕ) (a : Axis) → R (axis_among axes i) a → R (axis_among axes n) (axis_among (slice_set axes i a) n)
one_left R laws [] i n a h = laws.alone _
one_left R laws (x ∷ xs) zero zero a h = h
one_left R laws (x ∷ xs) zero (suc n) a h = laws.alone _
one_left R laws (x ∷ xs) (suc i) zero a h = laws.alone _
one_left R laws (x ∷ xs) (suc i) (suc n) a h = one_left R laws xs i n a h

axis_event_left : (R : Axis → Axis → Type 0) → CallsLeave R → (m : Machine) (n : ℕ) (c : cores.Core) → R (axis_at m n) c.axis → AllLeft R m (with_axis_core m n c)
axis_event_left R laws m n c h k = one_left R laws m.axes n k c.axis h

-- an owner that is taken away
disowned_left : (R : Axis → Axis → Type 0) → CallsLeave R → (k : ℕ) (axes : List Axis) (n : ℕ) → R (axis_among axes n) (axis_among (map (axis_without_owner k) axes) n)
disowned_left R laws k [] n = laws.alone _
disowned_left R laws k (a ∷ more) zero = laws.detach k a
disowned_left R laws k (a ∷ more) (suc n) = disowned_left R laws k more n

without_left : (R : Axis → Axis → Type 0) → CallsLeave R → (k : ℕ) (m : Machine) → AllLeft R m (without_owner k m)
unfolding without_owner
without_left R laws k m n = disowned_left R laws k m.axes n

-- an axis that goes on a path, or leaves it
led_left : (R : Axis → Axis → Type 0) → CallsLeave R → (on : Bool) (a : Axis) → R a (axis_led on a)
led_left R laws true a = by_if (R a) (is_some a.active) a (axis_on_path true a) (laws.alone a) (laws.path true a)
led_left R laws false a = by_if (R a) (is_on_path a) (axis_on_path false a) a (laws.path false a) (laws.alone a)

axes_led_left : (R : Axis → Axis → Type 0) → CallsLeave R → (on : Bool) (ns : List ℕ) (m : Machine) → AllLeft R m (axes_led on ns m)
axes_led_left R laws on [] m = all_alone R laws m
axes_led_left R laws on (n ∷ ns) m =
    let one : Machine = record m { axes = slice_set m.axes n (axis_led on (axis_at m n)) } in
    all_both R laws m one (axes_led on ns one) (λ k. one_left R laws m.axes n k (axis_led on (axis_at m n)) (led_left R laws on (axis_at m n)))
    (axes_led_left R laws on ns one)

members_led_left : (R : Axis → Axis → Type 0) → CallsLeave R → (s : Setup) (j : ℕ) (kind : BlockKind) (answer : Result Bool Refusal) (m : Machine) →
    AllLeft R m (members_led s j kind answer m)
members_led_left R laws s j kind answer m =
    by_if (AllLeft R m) (enters_path answer) _ _ (axes_led_left R laws true (members_at s j) m)
    (by_if (AllLeft R m) (leaves_path kind answer) _ _ (axes_led_left R laws false (members_at s j) m) (all_alone R laws m))

-- a Power
group_off_left : (R : Axis → Axis → Type 0) → CallsLeave R → (o : Option Membership) (m : Machine) → AllLeft R m (group_without_power o m)
group_off_left R laws None m n = laws.alone (axis_at m n)
group_off_left R laws (Some at) m n = laws.alone (axis_at m n)

power_left : (R : Axis → Axis → Type 0) → CallsLeave R → (s : Setup) (n : ℕ) (enable : Bool) (m : Machine) → AllLeft R m (after_power s n enable m)
unfolding after_power
power_left R laws s n enable m =
    let c = core_after_power enable (axis_core_at m n) in
    let powered = with_axis_core m n c in
    let one = axis_event_left R laws m n c (laws.power enable (axis_core_at m n)) in
    by_if (AllLeft R m) enable powered (group_without_power (membership_of s n) powered) one
    (all_both R laws m powered (group_without_power (membership_of s n) powered) one (group_off_left R laws (membership_of s n) powered))

-- a command
axis_command_left : (R : Axis → Axis → Type 0) → CallsLeave R → (s : Setup) (k n : ℕ) (kind : BlockKind) (i : Inputs) (m : Machine) → AllLeft R m (after_axis_command s k n kind i m)
unfolding after_axis_command
axis_command_left R laws s k n kind i m =
    let q = asked_of_axis s k n kind i m in
    axis_event_left R laws m n (core_after_command q (axis_core_at m n)) (laws.command q (axis_core_at m n))

group_command_left : (R : Axis → Axis → Type 0) → CallsLeave R → (s : Setup) (k j : ℕ) (kind : BlockKind) (i : Inputs) (m : Machine) → AllLeft R m (after_group_command s k j kind i m)
unfolding after_group_command
group_command_left R laws s k j kind i m n = members_led_left R laws s j kind _ _ n

rising_left : (R : Axis → Axis → Type 0) → CallsLeave R → (s : Setup) (k : ℕ) (b : BlockDef) (i : Inputs) (m : Machine) → AllLeft R m (after_rising s k b i m)
rising_left R laws s k b i m =
    let free = without_owner k m in
    all_both R laws m free (after_rising s k b i m) (without_left R laws k m)
    (by_if (AllLeft R free) (acts_on_group b.kind) (after_group_command s k b.object b.kind i free) (after_axis_command s k b.object b.kind i free)
    (group_command_left R laws s k b.object b.kind i free) (axis_command_left R laws s k b.object b.kind i free))

edge_left : (R : Axis → Axis → Type 0) → CallsLeave R → (s : Setup) (e : Edge) (k : ℕ) (b : BlockDef) (i : Inputs) (m : Machine) → AllLeft R m (after_edge s e k b i m)
edge_left R laws s edge.Rising k b i m = rising_left R laws s k b i m
edge_left R laws s edge.High k b i m = all_alone R laws m
edge_left R laws s edge.Falling k b i m = all_alone R laws m
edge_left R laws s edge.Low k b i m = all_alone R laws m

asking_left : (R : Axis → Axis → Type 0) → CallsLeave R → (s : Setup) (kind : BlockKind) (e : Edge) (k : ℕ) (b : BlockDef) (i : Inputs) (m : Machine) → AllLeft R m (after_asking s kind e k b i m)
asking_left R laws s kind e k b i m =
    by_if (AllLeft R m) (is_power kind) (after_power s b.object i.execute m) (after_edge s e k b i m)
    (power_left R laws s b.object i.execute m) (edge_left R laws s e k b i m)

called_left : (R : Axis → Axis → Type 0) → CallsLeave R → (s : Setup) (o : Option BlockDef) (k : ℕ) (i : Inputs) (m : Machine) → AllLeft R m (called_where s o k i m)
called_left R laws s None k i m = all_alone R laws m
called_left R laws s (Some b) k i m =
    asking_left R laws s b.kind (edge_of (instance_at m.instances k).execute i.execute) k b i (with_execute k i m)

-- what a call leaves
pub call_left : (R : Axis → Axis → Type 0) → CallsLeave R → (s : Setup) (m : Machine) (k : ℕ) (i : Inputs) → AllLeft R m (after_call s m k i)
unfolding called
call_left R laws s m k i = called_left R laws s (slice_get s.blocks k) k i m
