-- What every event keeps, every cycle keeps.
-- for: owners_have_blocks
use Rattle.std.specs.Prelude.{ℕ, zero, suc, ◌≤◌, List, length}
use Rattle.std.proofs.Common.{arith}
use Rattle.axis_core.specs.Cycles.{core_after_cycle}
use Rattle.plc_types.specs.declared.drive.DriveIn.{DriveIn}
use Rattle.command_changes.specs.Axis as axis
use Rattle.command_changes.specs.Group as group
use Rattle.group_core.specs.Cycles as group_cycles
use Rattle.motion_history.specs.Setup.{Setup}
use Rattle.motion_kernel.specs.Machine.{Machine, axis_core_at, group_core_at}
use Rattle.motion_kernel.specs.cycles.AxisCycles.{axes_cycled}
use Rattle.motion_kernel.specs.cycles.Cycles.{after_cycle, around_in, cycled, stepped_in}
use Rattle.motion_kernel.specs.cycles.GroupResets.{groups_reset}
use Rattle.motion_kernel.specs.cycles.GroupSteps.{groups_stepped, look_in_cycle}
use Rattle.motion_kernel.specs.kept.Machine.{IsMachineKept, IsSized}
use Rattle.motion_kernel.specs.looks.AxisLooks.{Surroundings, axis_look}
use Rattle.motion_kernel.specs.looks.GroupLooks.{group_look}
use Rattle.motion_kernel.proofs.Sizes.{sized_axis, sized_group}
use Rattle.motion_kernel.specs.owners.Objects.{a_group, an_axis}
use Rattle.motion_kernel.proofs.walk.Events.{axis_event, group_event}
use Rattle.motion_kernel.proofs.walk.Keeps.{Keeps, WalkLaws}

-- what is kept, and the sizes
pub record Good (s : Setup) (Q : Machine → Type 0) (m : Machine) : Type 0 where
  pub sized : IsSized s m
  pub keeps : Q m

module _ (laws : WalkLaws) (s : Setup) (May : ℕ → Type 0) (P Q : Machine → Type 0) (keeps : Keeps s May P Q) where
  pub by_steps : (n : ℕ) (ins : List DriveIn) (m : Machine) → n ≤ length s.groups → Good s Q m → Good s Q (groups_stepped s n ins m).machine
  unfolding groups_stepped
  by_steps zero ins m l g = g
  by_steps (suc n) ins m l g =
      let so_far = by_steps n ins m (omega arith) g in
      let x = (groups_stepped s n ins m).machine in
      let c = group_core_at x n in
      let look = look_in_cycle s ins n x in
      let d = group_cycles.cycled look c in
      let z = so_far.sized in
      let size = z.groups in
      record {
        sized = sized_group s x n d so_far.sized;
        keeps = keeps.cycled x _ (a_group n) (group.cycle_changes look c)
            (group_event s n x d (group.cycle_changes look c) so_far.sized (omega arith) (laws.group.cycle look c)) (laws.group.cycle_brings look c) so_far.keeps;
      }

  pub by_axes : (n : ℕ) (around : Surroundings) (m : Machine) → n ≤ length s.axes → Good s Q m → Good s Q (axes_cycled s n around m).machine
  unfolding axes_cycled
  by_axes zero around m l g = g
  by_axes (suc n) around m l g =
      let so_far = by_axes n around m (omega arith) g in
      let x = (axes_cycled s n around m).machine in
      let c = axis_core_at x n in
      let look = axis_look s around x n in
      let d = core_after_cycle look c in
      let z = so_far.sized in
      let size = z.axes in
      record {
        sized = sized_axis s x n d so_far.sized;
        keeps = keeps.cycled x _ (an_axis n) (axis.cycle_changes look c)
            (axis_event s n x d (axis.cycle_changes look c) so_far.sized (omega arith) (laws.axis.cycle look c)) (laws.axis.cycle_brings look c) so_far.keeps;
      }

  pub by_resets : (n : ℕ) (m : Machine) → n ≤ length s.groups → Good s Q m → Good s Q (groups_reset s n m).machine
  unfolding groups_reset
  by_resets zero m l g = g
  by_resets (suc n) m l g =
      let so_far = by_resets n m (omega arith) g in
      let x = (groups_reset s n m).machine in
      let c = group_core_at x n in
      let look = group_look s x n 0 in
      let d = group_cycles.reset_cycled look c in
      let z = so_far.sized in
      let size = z.groups in
      record {
        sized = sized_group s x n d so_far.sized;
        keeps = keeps.cycled x _ (a_group n) (group.reset_changes c)
            (group_event s n x d (group.reset_changes c) so_far.sized (omega arith) (laws.group.reset look c)) (laws.group.reset_brings c) so_far.keeps;
      }

  by_cycled : (m : Machine) (ins : List DriveIn) → Good s Q m → Good s Q (cycled s m ins).machine
  unfolding cycled
  by_cycled m ins g =
      let stepped = (stepped_in s ins m).machine in
      let moved = (axes_cycled s (length stepped.axes) (around_in s ins m) stepped).machine in
      let z = g.sized in
      let a = z.groups in
      let one = by_steps (length m.groups) ins m (omega arith) g in
      let y = one.sized in
      let b = y.axes in
      let two = by_axes (length stepped.axes) (around_in s ins m) stepped (omega arith) one in
      let x = two.sized in
      let c = x.groups in
      by_resets (length moved.groups) moved (omega arith) two

  pub by_cycle : (m : Machine) (ins : List DriveIn) → IsMachineKept s m → P m → P (after_cycle s m ins)
  by_cycle m ins kept h =
      let after = by_cycled m ins (record { sized = kept.sized; keeps = keeps.begins m kept.sized h }) in
      keeps.found (cycled s m ins).machine after.sized after.keeps
