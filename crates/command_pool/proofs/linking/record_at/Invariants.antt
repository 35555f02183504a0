-- What is left of the list's places holds the one that is looked for.
use Rattle.std.proofs.Common.{◌≡◌, ℕ, ◌-◌, ◌<◌, ◌≤◌, vec_len}
use Rattle.std.specs.Prelude.{slice_get}
use Rattle.command_pool.specs.Layout.{chain, links_of, places, times}
use Rattle.command_pool.proofs.linking.record_at.Given as goal

abbrev pub invariant-loop-passed : goal.invariant-loop-passed
invariant-loop-passed l = record {
  within : (k : ℕ) → 0 < times k (places (links_of l.fn.records.items) l.at (l.fn.queue.count - l._passed)) → k < vec_len l.fn.records;
  same : slice_get (places (links_of l.fn.records.items) l.at (l.fn.queue.count - l._passed)) (l.fn.place - l._passed)
      ≡ slice_get (chain (links_of l.fn.records.items) l.fn.queue) l.fn.place;
  before : l._passed ≤ l.fn.place;
}
