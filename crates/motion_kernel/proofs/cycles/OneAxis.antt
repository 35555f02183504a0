-- How an axis of a kept machine goes through a cycle.
-- for: rows_are_counted
use Rattle.std.specs.Prelude.{◌≡◌, refl, ℕ, zero, suc, ◌<◌, ◌≤◌, List, [], length, slice_index_or}
use Rattle.std.proofs.Common.{arith, ap, sym, subst, ◌∙◌, inl, inr}
use Rattle.std.proofs.lemmas.Bool.{cases_eq}
use Rattle.std.proofs.lemmas.List.{length-set}
use Rattle.axis_core.specs.AxisKept as axis
use Rattle.axis_core.specs.Cores as cores
use Rattle.axis_core.specs.Cycles.{core_after_cycle, row_shown}
use Rattle.axis_core.specs.declared.look.AxisLook.{AxisLook}
use Rattle.plc_types.specs.declared.drive.DriveIn.{DriveIn}
use Rattle.command_pool.specs.Waiting.{queue_of}
use Rattle.motion_history.specs.Columns.{no_row}
use Rattle.motion_history.specs.Setup.{Setup}
use Rattle.motion_kernel.specs.cycles.Cycles.{look_of_axis, after_cycle, around_in, cycled, stepped_in}
use Rattle.motion_kernel.specs.looks.AxisLooks.{Surroundings, axis_look}
use Rattle.motion_kernel.specs.cycles.AxisCycles.{axes_cycled, core_in_cycle, row_in_cycle}
use Rattle.motion_kernel.specs.cycles.GroupResets.{core_after_reset, groups_reset}
use Rattle.motion_kernel.specs.cycles.Showing.{with_found}
use Rattle.motion_kernel.specs.Machine.{Machine, axis_among, axis_at, axis_core_at}
use Rattle.motion_kernel.specs.kept.Machine.{IsMachineKept}
use Rattle.motion_kernel.specs.kept.Ready.{MayGoOn}
use Rattle.motion_kernel.proofs.cycles.Rows.{axes_count, rows_count, steps_axes}
use Rattle.motion_kernel.proofs.kept.Events.{axis_beside_axis, axis_beside_group, axis_written}
use Rattle.motion_kernel.proofs.Lists.{index_before, index_last}
use Rattle.motion_kernel.proofs.kept.GroupSteps.{have_stepped}

-- the machine before the cycle of an axis: those before it went through theirs
abbrev before_axis : Setup → Surroundings → Machine → ℕ → Machine
before_axis s around m n = (axes_cycled s n around m).machine

-- an axis is as it was until its own cycle
pub not_yet : (s : Setup) (n : ℕ) (around : Surroundings) (m : Machine) (k : ℕ) → n ≤ k → axis_core_at (axes_cycled s n around m).machine k ≡ axis_core_at m k
unfolding axes_cycled
not_yet s zero around m k l = refl
not_yet s (suc n) around m k l =
    let so_far = (axes_cycled s n around m).machine in
    axis_beside_axis so_far n k (core_in_cycle s around n so_far) (λ e. omega arith) ∙ not_yet s n around m k (omega arith)

-- as many lists as before
queues_count : (s : Setup) (n : ℕ) (around : Surroundings) (m : Machine) → length (axes_cycled s n around m).machine.queues ≡ length m.queues
unfolding axes_cycled
queues_count s zero around m = refl
queues_count s (suc n) around m = length-set (axes_cycled s n around m).machine.queues n _ ∙ queues_count s n around m

-- and stays as its own cycle leaves it
cycled_once : (s : Setup) (n : ℕ) (around : Surroundings) (m : Machine) (k : ℕ) → n ≤ length m.axes → length m.axes ≤ length m.queues → k < n →
    axis_core_at (axes_cycled s n around m).machine k ≡ record (core_in_cycle s around k (before_axis s around m k)) { notes = [] }
unfolding axes_cycled
cycled_once s zero around m k l q b = absurd (omega arith)
cycled_once s (suc n) around m k l q b =
    let so_far = (axes_cycled s n around m).machine in
    let c = core_in_cycle s around n so_far in
    let count = axes_count s n around m in
    let lists = queues_count s n around m in
    elim (cases_eq k n) [
      | inl e ↦ rw e (axis_written so_far n c (omega arith) (omega arith))
      | inr d ↦ axis_beside_axis so_far n k c d ∙ cycled_once s n around m k (omega arith) q (omega arith)
    ]

-- its row is the one of its own cycle
row_once : (s : Setup) (n : ℕ) (around : Surroundings) (m : Machine) (k : ℕ) → k < n →
    slice_index_or (axes_cycled s n around m).rows k no_row ≡ row_in_cycle s around k (before_axis s around m k)
unfolding axes_cycled
row_once s zero around m k b = absurd (omega arith)
row_once s (suc n) around m k b =
    let so_far = axes_cycled s n around m in
    let row = row_in_cycle s around n so_far.machine in
    let count = rows_count s n around m in
    elim (cases_eq k n) [
      | inl e ↦ rw e (index_last so_far.rows row n no_row (sym count))
      | inr d ↦ index_before so_far.rows row k no_row (omega arith) ∙ row_once s n around m k (omega arith)
    ]

-- pending Resets and what the instances are given leave the axes, and what waits for them
pub resets_axes : (s : Setup) (n : ℕ) (m : Machine) → (groups_reset s n m).machine.axes ≡ m.axes
unfolding groups_reset
resets_axes s zero m = refl
resets_axes s (suc n) m = resets_axes s n m

resets_core : (s : Setup) (n : ℕ) (m : Machine) (k : ℕ) → k < length m.axes → axis_core_at (groups_reset s n m).machine k ≡ axis_core_at m k
unfolding groups_reset
resets_core s zero m k l = refl
resets_core s (suc n) m k l =
    let so_far = (groups_reset s n m).machine in
    let size : length so_far.axes ≡ length m.axes = ap length (resets_axes s n m) in
    axis_beside_group so_far n k (core_after_reset s n so_far) (omega arith) ∙ resets_core s n m k l

found_core : (s : Setup) (m : Machine) (k : ℕ) → axis_core_at (with_found s m) k ≡ axis_core_at m k
unfolding with_found
found_core s m k = refl

-- the machine whose axes went through the cycle
abbrev moved_in : Setup → Machine → List DriveIn → Machine
moved_in s m ins = (axes_cycled s (length (stepped_in s ins m).machine.axes) (around_in s ins m) (stepped_in s ins m).machine).machine

core_moved : (s : Setup) (m : Machine) (ins : List DriveIn) (k : ℕ) → k < length (moved_in s m ins).axes →
    axis_core_at (after_cycle s m ins) k ≡ axis_core_at (moved_in s m ins) k
unfolding cycled
core_moved s m ins k l = found_core s (cycled s m ins).machine k ∙ resets_core s (length (moved_in s m ins).groups) (moved_in s m ins) k l

rows_moved : (s : Setup) (m : Machine) (ins : List DriveIn) →
    (cycled s m ins).axes ≡ (axes_cycled s (length (stepped_in s ins m).machine.axes) (around_in s ins m) (stepped_in s ins m).machine).rows
unfolding cycled
rows_moved s m ins = refl

-- how an axis of a kept machine goes through a cycle, by what it looks at
pub record GoesThrough (s : Setup) (m : Machine) (ins : List DriveIn) (n : ℕ) (look : AxisLook) : Type 0 where
  pub kept : axis.IsCoreKept (axis_core_at m n)
  pub fits : axis.IsLook (axis_at m n) look
  pub row : slice_index_or (cycled s m ins).axes n no_row ≡ row_shown look.input (core_after_cycle look (axis_core_at m n)).axis
  pub after : axis_at (after_cycle s m ins) n ≡ (core_after_cycle look (axis_core_at m n)).axis
  pub waiting : queue_of (after_cycle s m ins).queues n ≡ (core_after_cycle look (axis_core_at m n)).waiting

-- each axis does
pub goes_through : (s : Setup) (m : Machine) (ins : List DriveIn) (n : ℕ) → IsMachineKept s m →
    MayGoOn s (around_in s ins m) (stepped_in s ins m).machine → n < length m.axes → GoesThrough s m ins n (look_of_axis s m ins n)
goes_through s m ins n h may l =
    let stepped = (stepped_in s ins m).machine in
    let around = around_in s ins m in
    let size : length stepped.axes ≡ length m.axes = ap length (steps_axes s (length m.groups) ins m) in
    let b : n < length stepped.axes = omega arith in
    let before = before_axis s around stepped n in
    let look = axis_look s around before n in
    let steps = have_stepped s m ins (length m.groups) h (omega arith) in
    let axes = steps.axes in
    let queue = steps.queues n l in
    let here : axis_core_at stepped n ≡ axis_core_at m n = λ i. record { axis = axis_among (axes i) n; waiting = queue i; notes = [] } in
    let same : axis_core_at before n ≡ axis_core_at m n = not_yet s n around stepped n (omega arith) ∙ here in
    let was : axis_at before n ≡ axis_at m n = ap (λ (c : cores.Core). c.axis) same in
    let sizes = h.sized in
    let lists = sizes.queues in
    let axes_of = sizes.axes in
    let as_large = (steps.size).queues in
    let all = axes_count s (length stepped.axes) around stepped in
    let now : axis_core_at (after_cycle s m ins) n ≡ record (core_after_cycle look (axis_core_at m n)) { notes = [] } =
    core_moved s m ins n (omega arith) ∙ cycled_once s (length stepped.axes) around stepped n (omega arith) (omega arith) b
    ∙ ap (λ c. record (core_after_cycle look c) { notes = [] }) same in
    record {
      kept = (h.axes n l).core;
      fits = subst (λ a. axis.IsLook a look) was (may n b).look;
      row = ap (λ rs. slice_index_or rs n no_row) (rows_moved s m ins) ∙ row_once s (length stepped.axes) around stepped n b
          ∙ ap (λ c. row_shown look.input (core_after_cycle look c).axis) same;
      after = ap (λ (c : cores.Core). c.axis) now;
      waiting = ap (λ (c : cores.Core). c.waiting) now;
    }
