-- The drives so far took a setpoint in each cycle.
use Rattle.std.proofs.Common.{◌≡◌, ℕ, ◌<◌, Some}
use Rattle.std.specs.Prelude.{slice_get}
use Rattle.trace_text.specs.declared.drive_end.DriveEndRow.{DriveEndRow}
use Rattle.trace_check.specs.Replays.{with_taken}
use Rattle.trace_check.proofs.drives.check_drives.Given as goal

abbrev pub invariant-loop-i : goal.invariant-loop-i
invariant-loop-i l = record {
  same : (j : ℕ) (d : DriveEndRow) → j < l.i → slice_get l.trace.drives j ≡ Some d → with_taken l.cycles d ≡ d;
  drives : l.drives ≡ l.trace.drives;
}
