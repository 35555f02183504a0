-- The groups and the axes of a cycle, one after another.
-- for: cycle
use Rattle.std.specs.Prelude.{◌≡◌, refl, ℕ, suc, ◌+◌, [], List, length, map, slice_get, ℤ}
use Rattle.std.proofs.Common.{arith, ap, ◌∙◌}
use Rattle.axis_core.specs.declared.axis.Axis.{Axis}
use Rattle.plc_types.specs.declared.axis.AxisRow.{AxisRow}
use Rattle.group_core.specs.declared.look.GroupStep.{GroupStep}
use Rattle.plc_types.specs.declared.group.GroupRow.{GroupRow}
use Rattle.fb_outputs.specs.InstanceState.{InstanceState}
use Rattle.plc_types.specs.declared.drive.DriveIn.{DriveIn}
use Rattle.motion_history.specs.Setup.{Setup}
use Rattle.motion_history.specs.declared.config.BlockDef.{BlockDef}
use Rattle.motion_kernel.specs.looks.AxisLooks.{Surroundings, pair_of}
use Rattle.motion_kernel.specs.cycles.AxisCycles.{axes_cycled, axis_cycled}
use Rattle.motion_kernel.specs.cycles.Showing.{axes_shown, axis_shown, group_shown, groups_shown, instance_found, instances_found}
use Rattle.motion_kernel.specs.cycles.Cycles.{cycled, stepped_in}
use Rattle.motion_kernel.specs.cycles.GroupResets.{group_reset, groups_reset}
use Rattle.motion_kernel.specs.cycles.GroupSteps.{group_stepped, groups_stepped}
use Rattle.motion_kernel.specs.Machine.{Machine, PlacedGroup, axis_among, group_among}

-- none has taken its step at first
pub stepped_none : (s : Setup) (ins : List DriveIn) (m : Machine) → groups_stepped s 0 ins m ≡ record { machine = m; steps = [] }
unfolding groups_stepped
stepped_none s ins m = refl

stepped_next : (n : ℕ) (s : Setup) (ins : List DriveIn) (m : Machine) →
    groups_stepped s (suc n) ins m ≡ group_stepped s ins n (groups_stepped s n ins m)
unfolding groups_stepped
stepped_next n s ins m = refl

-- one group more takes its step
pub stepped_more : (n : ℕ) (s : Setup) (ins : List DriveIn) (m : Machine) →
    groups_stepped s (n + 1) ins m ≡ group_stepped s ins n (groups_stepped s n ins m)
stepped_more n s ins m =
    let same : n + 1 ≡ suc n = omega arith in
    ap (λ k. groups_stepped s k ins m) same ∙ stepped_next n s ins m

pub cycled_none : (s : Setup) (around : Surroundings) (m : Machine) → axes_cycled s 0 around m ≡ record { machine = m; rows = [] }
unfolding axes_cycled
cycled_none s around m = refl

cycled_next : (n : ℕ) (s : Setup) (around : Surroundings) (m : Machine) →
    axes_cycled s (suc n) around m ≡ axis_cycled s around n (axes_cycled s n around m)
unfolding axes_cycled
cycled_next n s around m = refl

-- one axis more goes through the cycle
pub cycled_more : (n : ℕ) (s : Setup) (around : Surroundings) (m : Machine) →
    axes_cycled s (n + 1) around m ≡ axis_cycled s around n (axes_cycled s n around m)
cycled_more n s around m =
    let same : n + 1 ≡ suc n = omega arith in
    ap (λ k. axes_cycled s k around m) same ∙ cycled_next n s around m

pub reset_none : (s : Setup) (m : Machine) → groups_reset s 0 m ≡ record { machine = m; rows = [] }
unfolding groups_reset
reset_none s m = refl

reset_next : (n : ℕ) (s : Setup) (m : Machine) → groups_reset s (suc n) m ≡ group_reset s n (groups_reset s n m)
unfolding groups_reset
reset_next n s m = refl

-- one group more has its GroupReset done, where it may be
pub reset_more : (n : ℕ) (s : Setup) (m : Machine) → groups_reset s (n + 1) m ≡ group_reset s n (groups_reset s n m)
reset_more n s m =
    let same : n + 1 ≡ suc n = omega arith in
    ap (λ k. groups_reset s k m) same ∙ reset_next n s m

-- no axis's owner is notified at first
pub shown_none : (axes : List Axis) (is : List InstanceState) → axes_shown 0 axes is ≡ is
unfolding axes_shown
shown_none axes is = refl

shown_next : (n : ℕ) (axes : List Axis) (is : List InstanceState) → axes_shown (suc n) axes is ≡ axis_shown (axis_among axes n) (axes_shown n axes is)
unfolding axes_shown
shown_next n axes is = refl

-- one axis's more
pub shown_more : (n : ℕ) (axes : List Axis) (is : List InstanceState) → axes_shown (n + 1) axes is ≡ axis_shown (axis_among axes n) (axes_shown n axes is)
shown_more n axes is =
    let same : n + 1 ≡ suc n = omega arith in
    ap (λ k. axes_shown k axes is) same ∙ shown_next n axes is

pub led_none : (groups : List PlacedGroup) (is : List InstanceState) → groups_shown 0 groups is ≡ is
unfolding groups_shown
led_none groups is = refl

led_next : (n : ℕ) (groups : List PlacedGroup) (is : List InstanceState) → groups_shown (suc n) groups is ≡ group_shown (group_among groups n) (groups_shown n groups is)
unfolding groups_shown
led_next n groups is = refl

-- one group's more
pub led_more : (n : ℕ) (groups : List PlacedGroup) (is : List InstanceState) → groups_shown (n + 1) groups is ≡ group_shown (group_among groups n) (groups_shown n groups is)
led_more n groups is =
    let same : n + 1 ≡ suc n = omega arith in
    ap (λ k. groups_shown k groups is) same ∙ led_next n groups is

-- no instance is given what it found at first
pub found_none : (blocks : List BlockDef) (axes : List Axis) (groups : List PlacedGroup) (is : List InstanceState) → instances_found 0 blocks axes groups is ≡ is
unfolding instances_found
found_none blocks axes groups is = refl

found_next : (n : ℕ) (blocks : List BlockDef) (axes : List Axis) (groups : List PlacedGroup) (is : List InstanceState) →
    instances_found (suc n) blocks axes groups is ≡ instance_found (slice_get blocks n) axes groups n (instances_found n blocks axes groups is)
unfolding instances_found
found_next n blocks axes groups is = refl

-- one instance more is
pub found_more : (n : ℕ) (blocks : List BlockDef) (axes : List Axis) (groups : List PlacedGroup) (is : List InstanceState) →
    instances_found (n + 1) blocks axes groups is ≡ instance_found (slice_get blocks n) axes groups n (instances_found n blocks axes groups is)
found_more n blocks axes groups is =
    let same : n + 1 ≡ suc n = omega arith in
    ap (λ k. instances_found k blocks axes groups is) same ∙ found_next n blocks axes groups is

-- a cycle by its three parts
pub cycled_is : (s : Setup) (m : Machine) (ins : List DriveIn) (stepped moved after : Machine) (steps : List GroupStep) (pairs : List (ℤ × ℤ))
    (rows : List AxisRow) (grows : List GroupRow) →
    stepped ≡ (stepped_in s ins m).machine → steps ≡ (stepped_in s ins m).steps → pairs ≡ map pair_of m.axes →
    moved ≡ (axes_cycled s (length stepped.axes) (record { answers = ins; pairs = pairs; steps = steps }) stepped).machine →
    rows ≡ (axes_cycled s (length stepped.axes) (record { answers = ins; pairs = pairs; steps = steps }) stepped).rows →
    after ≡ (groups_reset s (length moved.groups) moved).machine → grows ≡ (groups_reset s (length moved.groups) moved).rows →
    record { machine = after; axes = rows; groups = grows } ≡ cycled s m ins
unfolding cycled
cycled_is s m ins stepped moved after steps pairs rows grows a b p d e f g = rw (f, g, d, e, a, b, p) refl
