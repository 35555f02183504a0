-- The records so far are linked in the array's order.
use Rattle.std.proofs.Common.{◌≡◌, ◌≤◌, vec_len, vec_capacity}
use Rattle.command_pool.specs.Layout.{links_of, rising}
use Rattle.command_pool.proofs.linking.free_records.Given as goal

abbrev pub invariant-loop-place : goal.invariant-loop-place
invariant-loop-place l = record {
  links : links_of l.records.items ≡ rising 1 l.place;
  len : vec_len l.records ≡ l.place;
  room : l.room ≤ vec_capacity l.records;
}
