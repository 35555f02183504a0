use Rattle.std.proofs.Common.{ℕ, ◌<◌, slice_index_or}
use Rattle.plc_types.specs.Counts.{IsCount}
use Rattle.plc_types.specs.declared.drive.DriveIn.{DriveIn}
use Rattle.motion_kernel.proofs.drive_answers.counts_have_32_bits.Given as goal

abbrev pub invariant-loop-input : goal.invariant-loop-input
invariant-loop-input l = record {
  counts : (k : ℕ) (d : DriveIn) → k < l.input-index → IsCount (slice_index_or l.ins k d).actual;
}
