-- What is left of the list's places is still to be passed.
use Rattle.std.proofs.Common.{◌≡◌, ℕ, ◌-◌, ◌<◌, vec_len}
use Rattle.command_pool.specs.Layout.{chain, commands_of, detached_in, links_of, places, times}
use Rattle.command_pool.proofs.linking.detach_in.Given as goal

abbrev pub invariant-loop-passed : goal.invariant-loop-passed
invariant-loop-passed l = record {
  links : links_of l.records.items ≡ links_of l.fn.records.items;
  len : vec_len l.records ≡ vec_len l.fn.records;
  within : (k : ℕ) → 0 < times k (places (links_of l.fn.records.items) l.place (l._passed-end - l._passed)) → k < vec_len l.fn.records;
  commands : detached_in l.owner (places (links_of l.fn.records.items) l.place (l._passed-end - l._passed)) (commands_of l.records.items)
      ≡ detached_in l.owner (chain (links_of l.fn.records.items) l.fn.queue) (commands_of l.fn.records.items);
}
