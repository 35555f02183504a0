use Rattle.std.proofs.Common.{ℕ, ◌<◌, slice_index_or}
use Rattle.plc_types.specs.Counts.{IsCount}
use Rattle.drive_sim.specs.Sim.{DriveSim}
use Rattle.machine_drives.proofs.drives.positions_have_32_bits.Given as goal

abbrev pub invariant-loop-drive : goal.invariant-loop-drive
invariant-loop-drive l = record {
  positions : (k : ℕ) (d : DriveSim) → k < l.drive-index →
      IsCount (slice_index_or l.drives k d).actual;
}
