-- The rows of a cycle: one for each axis and each group, which show the answers of the drives.
-- for: rows_are_counted, cycle
use Rattle.std.specs.Prelude.{◌≡◌, refl, ℕ, zero, suc, ◌+◌, ◌≤◌, List, [], ◌∷◌, ◌++◌, length, take}
use Rattle.std.proofs.Common.{arith, ap, sym, ◌∙◌}
use Rattle.std.proofs.lemmas.List.{length-set, length_push, map-append, take_more, take_all}
use Rattle.axis_core.specs.Cycles.{row_shown}
use Rattle.axis_core.specs.declared.axis.Axis.{Axis}
use Rattle.plc_types.specs.declared.axis.AxisRow.{AxisRow}
use Rattle.plc_types.specs.declared.drive.DriveIn.{DriveIn}
use Rattle.motion_history.specs.Setup.{Setup}
use Rattle.motion_kernel.specs.looks.AxisLooks.{Surroundings, axis_look}
use Rattle.motion_kernel.specs.looks.DriveAnswers.{answer_at, no_answer}
use Rattle.motion_kernel.specs.cycles.Cycles.{around_in, cycled, stepped_in}
use Rattle.motion_kernel.specs.cycles.AxisCycles.{axes_cycled, core_in_cycle}
use Rattle.motion_kernel.specs.cycles.GroupResets.{groups_reset}
use Rattle.motion_kernel.specs.cycles.GroupSteps.{groups_stepped}
use Rattle.motion_kernel.specs.Histories.{inputs_of}
use Rattle.motion_kernel.specs.Machine.{Machine}

-- the groups' steps leave the axes, and as many groups
pub steps_axes : (s : Setup) (n : ℕ) (ins : List DriveIn) (m : Machine) → (groups_stepped s n ins m).machine.axes ≡ m.axes
unfolding groups_stepped
steps_axes s zero ins m = refl
steps_axes s (suc n) ins m = steps_axes s n ins m

pub steps_groups : (s : Setup) (n : ℕ) (ins : List DriveIn) (m : Machine) → length (groups_stepped s n ins m).machine.groups ≡ length m.groups
unfolding groups_stepped
steps_groups s zero ins m = refl
steps_groups s (suc n) ins m = length-set (groups_stepped s n ins m).machine.groups n _ ∙ steps_groups s n ins m

-- the axes' cycles leave the groups, and as many axes
pub axes_groups : (s : Setup) (n : ℕ) (around : Surroundings) (m : Machine) → (axes_cycled s n around m).machine.groups ≡ m.groups
unfolding axes_cycled
axes_groups s zero around m = refl
axes_groups s (suc n) around m = axes_groups s n around m

pub axes_count : (s : Setup) (n : ℕ) (around : Surroundings) (m : Machine) → length (axes_cycled s n around m).machine.axes ≡ length m.axes
unfolding axes_cycled
axes_count s zero around m = refl
axes_count s (suc n) around m = length-set (axes_cycled s n around m).machine.axes n _ ∙ axes_count s n around m

-- one row an axis, and one a group
one_more : {X : Type 0} (xs : List X) (x : X) (n : ℕ) → length xs ≡ n → length (xs ++ x ∷ []) ≡ suc n
one_more xs x n e = let more = length_push xs x in omega (arith, more)

pub rows_count : (s : Setup) (n : ℕ) (around : Surroundings) (m : Machine) → length (axes_cycled s n around m).rows ≡ n
unfolding axes_cycled
rows_count s zero around m = refl
rows_count s (suc n) around m = one_more (axes_cycled s n around m).rows _ n (rows_count s n around m)

pub grows_count : (s : Setup) (n : ℕ) (m : Machine) → length (groups_reset s n m).rows ≡ n
unfolding groups_reset
grows_count s zero m = refl
grows_count s (suc n) m = one_more (groups_reset s n m).rows _ n (grows_count s n m)

-- a cycle has one row for each axis
pub row_count : (s : Setup) (m : Machine) (ins : List DriveIn) → length (cycled s m ins).axes ≡ length m.axes
unfolding cycled
row_count s m ins =
    rows_count s (length (stepped_in s ins m).machine.axes) (around_in s ins m) (stepped_in s ins m).machine
    ∙ ap length (steps_axes s (length m.groups) ins m)

-- and one for each group
pub grow_count : (s : Setup) (m : Machine) (ins : List DriveIn) → length (cycled s m ins).groups ≡ length m.groups
unfolding cycled
grow_count s m ins =
    let stepped = (stepped_in s ins m).machine in
    let moved = (axes_cycled s (length stepped.axes) (around_in s ins m) stepped).machine in
    grows_count s (length moved.groups) moved
    ∙ ap length (axes_groups s (length stepped.axes) (around_in s ins m) stepped)
    ∙ steps_groups s (length m.groups) ins m

-- a row shows the answer of its axis's drive
pub look_input : (s : Setup) (around : Surroundings) (m : Machine) (n : ℕ) → (axis_look s around m n).input ≡ answer_at around.answers n
unfolding axis_look
look_input s around m n = refl

input_shown : (d : DriveIn) (a : Axis) → (row_shown d a).input ≡ d
unfolding row_shown
input_shown d a = refl

rows_inputs : (s : Setup) (n : ℕ) (around : Surroundings) (m : Machine) → n ≤ length around.answers →
    inputs_of (axes_cycled s n around m).rows ≡ take n around.answers
unfolding axes_cycled
rows_inputs s zero around m l = refl
rows_inputs s (suc n) around m l =
    let so_far = axes_cycled s n around m in
    let look = axis_look s around so_far.machine n in
    let row = row_shown look.input (core_in_cycle s around n so_far.machine).axis in
    let is : row.input ≡ answer_at around.answers n = input_shown look.input _ ∙ look_input s around so_far.machine n in
    let next : n + 1 ≡ suc n = omega arith in
    map-append (λ (r : AxisRow). r.input) so_far.rows (row ∷ [])
    ∙ (λ i. rows_inputs s n around m (omega arith) i ++ is i ∷ [])
    ∙ sym (take_more around.answers n no_answer (omega arith))
    ∙ ap (λ k. take k around.answers) next

-- where each axis has an answer, the rows show these
pub row_inputs : (s : Setup) (m : Machine) (ins : List DriveIn) → length ins ≡ length m.axes → inputs_of (cycled s m ins).axes ≡ ins
unfolding cycled
row_inputs s m ins e =
    let stepped = (stepped_in s ins m).machine in
    let count : length stepped.axes ≡ length ins = ap length (steps_axes s (length m.groups) ins m) ∙ sym e in
    rows_inputs s (length stepped.axes) (around_in s ins m) stepped (omega arith)
    ∙ ap (λ k. take k ins) count ∙ take_all (length ins) ins (omega arith)
