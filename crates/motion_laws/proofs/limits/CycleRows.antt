-- The row of an axis in a cycle keeps the axis's limits, and leads on to the axis after it.
-- for: rows_keep_limits, spells_begin_at_drives, targets_follow_setpoints
use Rattle.std.specs.Prelude.{ℕ, ◌<◌, List, length, slice_index_or}
use Rattle.std.proofs.Common.{sym, subst}
use Rattle.axis_core.specs.AxisKept as axis
use Rattle.axis_core.specs.Cores as cores
use Rattle.axis_core.specs.Cycles.{core_after_cycle, row_shown}
use Rattle.axis_core.specs.Rows.{KeepsSpell}
use Rattle.axis_core.specs.declared.axis.Axis.{Axis}
use Rattle.axis_core.specs.declared.look.AxisLook.{AxisLook}
use Rattle.plc_types.specs.declared.axis.AxisRow.{AxisRow}
use Rattle.plc_types.specs.declared.drive.DriveIn.{DriveIn}
use Rattle.motion_history.specs.Columns.{no_row}
use Rattle.motion_history.specs.Setup.{Setup}
use Rattle.motion_kernel.specs.cycles.Cycles.{look_of_axis, after_cycle, around_in, cycled, stepped_in}
use Rattle.motion_kernel.specs.Machine.{Machine, axis_at, axis_core_at}
use Rattle.motion_kernel.specs.kept.Machine.{IsMachineKept}
use Rattle.motion_kernel.specs.kept.Ready.{MayGoOn}
use Rattle.motion_kernel.proofs.cycles.OneAxis.{goes_through}

-- axis_core's axes_stay_kept, of a cycle's row
abbrev pub RowsKeepSpells : Type 0
RowsKeepSpells = (look : AxisLook) (c : cores.Core) → axis.IsCoreKept c → axis.IsLook c.axis look →
    KeepsSpell c.axis (row_shown look.input (core_after_cycle look c).axis) (core_after_cycle look c).axis

-- the row of an axis of a kept machine in a cycle
pub cycle_keeps : RowsKeepSpells → (s : Setup) (m : Machine) (ins : List DriveIn) (n : ℕ) → IsMachineKept s m →
    MayGoOn s (around_in s ins m) (stepped_in s ins m).machine → n < length m.axes →
    KeepsSpell (axis_at m n) (slice_index_or (cycled s m ins).axes n no_row) (axis_at (after_cycle s m ins) n)
cycle_keeps law s m ins n h may l =
    let look = look_of_axis s m ins n in
    let through = goes_through s m ins n h may l in
    let P : AxisRow → Type 0 = λ r. KeepsSpell (axis_at m n) r (axis_at (after_cycle s m ins) n) in
    let Q : Axis → Type 0 = λ a. KeepsSpell (axis_at m n) (row_shown look.input (core_after_cycle look (axis_core_at m n)).axis) a in
    subst P (sym through.row) (subst Q (sym through.after) (law look (axis_core_at m n) through.kept through.fits))
