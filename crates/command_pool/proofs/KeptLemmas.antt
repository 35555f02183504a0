-- What a pool's lists say of its records.
-- for: add, detach, first and others
use Rattle.std.proofs.Common.{◌≡◌, sym, ap, subst, ◌∙◌, ℕ, suc, ◌-◌, ◌<◌, ◌≤◌, Some, List, [], length, get_or, vec_len, arith}
use Rattle.std.specs.Prelude.{slice_get}
use Rattle.std.proofs.lemmas.List.{get_or_default}
use Rattle.command_pool.specs.declared.pool.CommandPool.TheInside.{Inside}
use Rattle.command_pool.specs.declared.linking.Queue.{Queue}
use Rattle.command_pool.specs.declared.wanted.Wanted.{Wanted}
use Rattle.command_pool.specs.Waiting.{queue_of, last_of}
use Rattle.command_pool.specs.Layout.{chains, links_of, commands_of, command_at, queue_at, times_in_all, empty}
use Rattle.command_pool.specs.Kept.{lists_in, IsKept, IsLinked}
use Rattle.command_pool.proofs.Records.{length-links_of}
use Rattle.command_pool.proofs.Pools.{has_free, first_free, last_listed, first_listed}
use Rattle.command_pool.proofs.Times.{once}
use Rattle.command_pool.proofs.Lists.{length-lists_of, length-queue_of, queue_of-none, queue_of-rest, last_of-lists_of}

-- a list's places that were read by its number
pub queue_read : (p : Inside) (list : ℕ) (q : Queue) → list < vec_len p.queues → q ≡ get_or p.queues.items list q → q ≡ queue_at p.queues.items list
unfolding queue_at
queue_read p list q lt e = e ∙ get_or_default p.queues.items list q empty (omega (arith, p.queues.ok.0))

-- a list's number is below the number of queues
pub has_list : (p : Inside) (lists : List (List Wanted)) (list : ℕ) → lists_in p ≡ lists → list < length lists → list < vec_len p.queues
has_list p lists list e lt =
    let l = length-lists_of (links_of p.records.items) (commands_of p.records.items) p.queues.items in
    let s = ap length e in
    omega (arith, p.queues.ok.0)

pub has_list_item : (p : Inside) (lists : List (List Wanted)) (list : ℕ) → lists_in p ≡ lists → list < length lists → list < length p.queues.items
has_list_item p lists list e lt = let h = has_list p lists list e lt in omega (arith, p.queues.ok.0)

-- this many commands wait
pub count_is : (p : Inside) (lists : List (List Wanted)) (list : ℕ) → lists_in p ≡ lists →
    length (queue_of lists list) ≡ (queue_at p.queues.items list).count
count_is p lists list e =
    let s = ap (λ (ls : List (List Wanted)). length (queue_of ls list)) e in
    sym s ∙ length-queue_of (links_of p.records.items) (commands_of p.records.items) p.queues.items list

-- where a list has room, a record is free
pub record HasFree (p : Inside) : Type 0 where
  pub some : 1 ≤ p.free_count
  pub below : p.free_first < vec_len p.records
  pub linked : IsLinked (links_of p.records.items) p.queues.items p.free_first (suc (p.free_count - 1))

pub room_is_free : (p : Inside) (lists : List (List Wanted)) (list : ℕ) → IsKept p → lists_in p ≡ lists → list < length lists →
    length (queue_of lists list) < 8 → HasFree p
room_is_free p lists list kept e there room =
    let n = count_is p lists list e in
    let some = has_free (links_of p.records.items) p.queues.items p.free_first p.free_count list kept (has_list_item p lists list e there) (omega arith) in
    let s : p.free_count ≡ suc (p.free_count - 1) = omega arith in
    let linked = subst (λ (k : ℕ). IsLinked (links_of p.records.items) p.queues.items p.free_first k) s kept in
    let l = length-links_of p.records.items in
    let f = first_free (links_of p.records.items) p.queues.items p.free_first (p.free_count - 1) linked in
    record { some = some; below = omega (arith, p.records.ok.0, f.below); linked = linked }

-- a list's first and last record are records
pub last_below : (p : Inside) (list : ℕ) (q : Queue) → IsKept p → q ≡ queue_at p.queues.items list → 0 < q.count → q.last < vec_len p.records
last_below p list q kept e some =
    let s : 0 < (queue_at p.queues.items list).count = rw (← e) some in
    let h = last_listed (links_of p.records.items) p.queues.items p.free_first p.free_count list kept s in
    let l = length-links_of p.records.items in
    let b : (queue_at p.queues.items list).last < vec_len p.records = omega (arith, p.records.ok.0, h.below) in
    rw e b

pub first_below : (p : Inside) (list : ℕ) (q : Queue) → IsKept p → q ≡ queue_at p.queues.items list → 0 < q.count → q.first < vec_len p.records
first_below p list q kept e some =
    let s : 0 < (queue_at p.queues.items list).count = rw (← e) some in
    let h = first_listed (links_of p.records.items) p.queues.items p.free_first p.free_count list kept s in
    let l = length-links_of p.records.items in
    let b : (queue_at p.queues.items list).first < vec_len p.records = omega (arith, p.records.ok.0, h.below) in
    rw e b

-- a list with no record has no command
pub no_commands : (p : Inside) (lists : List (List Wanted)) (list : ℕ) (q : Queue) → lists_in p ≡ lists →
    q ≡ queue_at p.queues.items list → q.count ≡ 0 → queue_of lists list ≡ []
no_commands p lists list q e qe none =
    let z : (queue_at p.queues.items list).count ≡ 0 = ap (λ (r : Queue). r.count) (sym qe) ∙ none in
    ap (λ (ls : List (List Wanted)). queue_of ls list) (sym e) ∙
    queue_of-none (links_of p.records.items) (commands_of p.records.items) p.queues.items list z

-- the first record has the first command
pub first_command : (p : Inside) (lists : List (List Wanted)) (list : ℕ) (q : Queue) → lists_in p ≡ lists →
    q ≡ queue_at p.queues.items list → 0 < q.count →
    slice_get (queue_of lists list) 0 ≡ Some (command_at (commands_of p.records.items) q.first)
first_command p lists list q e qe some =
    let s : 0 < (queue_at p.queues.items list).count = rw (← qe) some in
    ap (λ (ls : List (List Wanted)). slice_get (queue_of ls list) 0) (sym e) ∙
    (ap (λ ws. slice_get ws 0) (queue_of-rest (links_of p.records.items) (commands_of p.records.items) p.queues.items list s) ∙
    ap (λ (r : Queue). Some (command_at (commands_of p.records.items) r.first)) (sym qe))

-- the last record has the last command
pub last_command : (p : Inside) (lists : List (List Wanted)) (list : ℕ) (q : Queue) → IsKept p → lists_in p ≡ lists →
    q ≡ queue_at p.queues.items list → 0 < q.count →
    last_of (queue_of lists list) ≡ Some (command_at (commands_of p.records.items) q.last)
last_command p lists list q kept e qe some =
    let s : 0 < (queue_at p.queues.items list).count = rw (← qe) some in
    ap (λ (ls : List (List Wanted)). last_of (queue_of ls list)) (sym e) ∙
    (last_of-lists_of (links_of p.records.items) (commands_of p.records.items) p.queues.items p.free_first p.free_count list kept s ∙
    ap (λ (r : Queue). Some (command_at (commands_of p.records.items) r.last)) (sym qe))

-- a list that has a command, and its places that were read by its number
pub record HasFirst (p : Inside) (list : ℕ) (q : Queue) : Type 0 where
  pub read : q ≡ queue_at p.queues.items list
  pub some : 0 < q.count
  pub below : q.first < vec_len p.records

pub has_first : (p : Inside) (lists : List (List Wanted)) (list : ℕ) (q : Queue) → IsKept p → lists_in p ≡ lists → list < length lists →
    0 < length (queue_of lists list) → q ≡ get_or p.queues.items list q → HasFirst p list q
has_first p lists list q kept e there some read =
    let r = queue_read p list q (has_list p lists list e there) read in
    let n = count_is p lists list e in
    let s : 0 < q.count = rw r (omega arith) in
    record { read = r; some = s; below = first_below p list q kept r s }

-- a place that stands in a list is a record's
pub listed_below : (p : Inside) (k : ℕ) → IsKept p → 0 < times_in_all k (chains (links_of p.records.items) p.queues.items) → k < vec_len p.records
listed_below p k kept some =
    let l = length-links_of p.records.items in
    let h = once k (length (links_of p.records.items)) _ (kept.once k) (omega arith) in
    omega (arith, p.records.ok.0, h.below)
