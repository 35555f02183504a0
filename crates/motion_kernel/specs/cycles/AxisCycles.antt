-- What the axes make of the machine in a cycle (PLCopen Motion Control Part 1).
use Rattle.std.specs.Prelude.{ℕ, zero, suc, List, [], ◌∷◌, ◌++◌}
use Rattle.axis_core.specs.Cores as axis_cores
use Rattle.axis_core.specs.Cycles as axis
use Rattle.plc_types.specs.declared.axis.AxisRow.{AxisRow}
use Rattle.motion_history.specs.Setup.{Setup}
use Rattle.motion_kernel.specs.calls.Calls.{with_axis_core}
use Rattle.motion_kernel.specs.Machine.{Machine, axis_core_at}
use Rattle.motion_kernel.specs.looks.AxisLooks.{Surroundings, axis_look}

-- an axis after the cycle
abbrev pub core_in_cycle : Setup → Surroundings → ℕ → Machine → axis_cores.Core
core_in_cycle s around n m = axis.core_after_cycle (axis_look s around m n) (axis_core_at m n)

-- the machine after an axis went through the cycle, and the row of that axis
abbrev pub after_axis_cycle : Setup → Surroundings → ℕ → Machine → Machine
after_axis_cycle s around n m = with_axis_core m n (core_in_cycle s around n m)

abbrev pub row_in_cycle : Setup → Surroundings → ℕ → Machine → AxisRow
row_in_cycle s around n m =
    axis.row_shown (axis_look s around m n).input (core_in_cycle s around n m).axis

-- the machine after some axes went through the cycle, and their rows
pub record AxesCycled : Type 0 where
  pub machine : Machine
  pub rows : List AxisRow

-- one axis more goes through the cycle
abbrev pub axis_cycled : Setup → Surroundings → ℕ → AxesCycled → AxesCycled
axis_cycled s around n a = record {
  machine = after_axis_cycle s around n a.machine;
  rows = a.rows ++ row_in_cycle s around n a.machine ∷ [];
}

-- the first n axes go through the cycle
unfoldable pub axes_cycled : Setup → ℕ → Surroundings → Machine → AxesCycled
axes_cycled s zero around m = record { machine = m; rows = [] }
axes_cycled s (suc n) around m = axis_cycled s around n (axes_cycled s n around m)
