-- The tables so far are copied, and there is room for the others.
use Rattle.std.proofs.Common.{◌≡◌, ◌≤◌, length, take}
use Rattle.std.specs.Prelude.{vec_capacity}
use Rattle.motion_history.proofs.tables.copied_tables.Given as goal

abbrev pub invariant-loop-table : goal.invariant-loop-table
invariant-loop-table l = record {
  copies : l.copies.items ≡ take l.table-index l.tables;
  room : length l.tables ≤ vec_capacity l.copies;
}
