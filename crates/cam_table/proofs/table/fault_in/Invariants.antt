-- The rows so far are good.
use Rattle.std.proofs.Common.{ℕ, ◌≤◌, ◌<◌, ◌+◌}
use Rattle.cam_table.specs.CamTable.{IsGoodRow}
use Rattle.cam_table.proofs.table.fault_in.Given as goal

abbrev pub invariant-loop-at : goal.invariant-loop-at
invariant-loop-at l = (row : ℕ) → 1 ≤ row → row < l.at + 1 → IsGoodRow l.points row
