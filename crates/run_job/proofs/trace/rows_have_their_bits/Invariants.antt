use Rattle.std.proofs.Common.{ℕ, ◌<◌, slice_index_or}
use Rattle.trace_text.specs.RowRanges.{IsDriveEnd}
use Rattle.trace_text.specs.declared.drive_end.DriveEndRow.{DriveEndRow}
use Rattle.run_job.proofs.trace.rows_have_their_bits.Given as goal

abbrev pub invariant-loop-row : goal.invariant-loop-row
invariant-loop-row l = record {
  bits : (k : ℕ) (d : DriveEndRow) → k < l.row-index → IsDriveEnd (slice_index_or l.rows k d);
}
