-- What holds of a pool: each record stands in exactly one of the free list and the lists, and the
-- links give them.
use Rattle.std.specs.Prelude.{◌≡◌, ℕ, ◌+◌, ◌*◌, ◌≤◌, List, length, nat_lt, if◌then◌else◌}
use Rattle.command_pool.specs.declared.pool.CommandPool.TheInside.{Inside}
use Rattle.command_pool.specs.declared.linking.Queue.{Queue}
use Rattle.command_pool.specs.declared.wanted.Wanted.{Wanted}
use Rattle.command_pool.specs.Layout.{links_of, commands_of, places, chain, chains, times, times_in_all, count_in_all, end_of, queue_at, lists_of}

-- the lists of a pool. This project's profile
abbrev pub lists_in : Inside → List (List Wanted)
lists_in p = lists_of (links_of p.records.items) (commands_of p.records.items) p.queues.items

-- each record stands in exactly one of the free list and the lists, eight for each list; a list has
-- at most eight and knows its last. This project's profile
pub record IsLinked (links : List ℕ) (queues : List Queue) (free count : ℕ) : Type 0 where
  pub few_lists : length queues ≤ 255
  pub eight_each : length links ≡ 8 * length queues
  pub once : (place : ℕ) → times place (places links free count) + times_in_all place (chains links queues)
      ≡ (if nat_lt place (length links) then 1 else 0)
  pub whole : count + count_in_all (chains links queues) ≡ length links
  pub at_most_eight : (list : ℕ) → (queue_at queues list).count ≤ 8
  pub last : (list : ℕ) → end_of (chain links (queue_at queues list)) (queue_at queues list).last ≡ (queue_at queues list).last

-- what holds of a pool. This project's profile
abbrev pub IsKept : Inside → Type 0
IsKept p = IsLinked (links_of p.records.items) p.queues.items p.free_first p.free_count
