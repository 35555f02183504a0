-- A record that goes from the start of a list back to the free list.
-- for: add, copy_from, detach and others
use Rattle.std.proofs.Common.{◌≡◌, refl, sym, ap, ◌∙◌, ℕ, suc, ◌+◌, ◌-◌, ◌<◌, ◌≤◌, List, [], ◌∷◌, length, get_or, set, arith, inl, inr}
use Rattle.std.proofs.lemmas.Bool.{cases_eq}
use Rattle.std.proofs.lemmas.List.{get_or-set_same, get_or-set_other, length-set}
use Rattle.command_pool.specs.declared.linking.Queue.{Queue}
use Rattle.command_pool.specs.Layout.{places, chain, chains, times, times_in_all, count_in_all, end_of, queue_at, shorter}
use Rattle.command_pool.specs.Kept.{IsLinked}
use Rattle.command_pool.proofs.Times.{counted, times-append, end_of-rest, times_in_all-set, count_in_all-set}
use Rattle.command_pool.proofs.Chains.{places-set, chain-set, get_or-chains, length-chains, chains-set}
use Rattle.command_pool.proofs.Pools.{queue_at-same, queue_at-other, first_listed}

-- the first record of a list, and the others
chain-first : (links : List ℕ) (first last n m : ℕ) → n ≡ suc m →
    let q : Queue = record { first = first; last = last; count = n } in
    chain links q ≡ first ∷ chain links (shorter links q)
unfolding chain places shorter
chain-first links first last n m e =
    let s : n - 1 ≡ m = omega arith in
    rw (s, e) refl

pub chain-rest : (links : List ℕ) (q : Queue) → 0 < q.count → chain links q ≡ q.first ∷ chain links (shorter links q)
chain-rest links q some = chain-first links q.first q.last q.count (q.count - 1) (omega arith)

shorter-count : (links : List ℕ) (q : Queue) → (shorter links q).count ≡ q.count - 1
unfolding shorter
shorter-count links q = refl

shorter-last : (links : List ℕ) (q : Queue) → (shorter links q).last ≡ q.last
unfolding shorter
shorter-last links q = refl

-- the pool without the first record of a list
module _ (links : List ℕ) (queues : List Queue) (free count list : ℕ) (h : IsLinked links queues free count) (there : list < length queues) (some : 0 < (queue_at queues list).count) where
  abbrev before : Queue
  before = queue_at queues list

  abbrev after : Queue
  after = shorter links before

  -- the first record stands in none of the others
  apart : times before.first (chain links after) ≡ 0
  apart =
      let l = first_listed links queues free count list h some in
      let s : times before.first (before.first ∷ chain links after) ≡ 1 = rw (← chain-rest links before some) l.once_here in
      let c = (counted before.first before.first (chain links after)).same refl in
      omega arith

  chain_after : chain (set links before.first free) after ≡ chain links after
  chain_after = chain-set links before.first free after apart

  pub chains-popped : chains (set links before.first free) (set queues list after) ≡ set (chains links queues) list (chain links after)
  chains-popped =
      let l = first_listed links queues free count list h some in
      chains-set links before.first free queues list after l.alone ∙ ap (set (chains links queues) list) chain_after

  -- the free list begins with it
  free_after : places (set links before.first free) before.first (suc count) ≡ before.first ∷ places links free count
  unfolding places
  free_after =
      let l = first_listed links queues free count list h some in
      let s : get_or (set links before.first free) before.first 0 ≡ free = get_or-set_same links before.first free 0 l.below in
      rw s (ap (λ (ps : List ℕ). before.first ∷ ps) (places-set links before.first free free count l.not_free))

  in_lists : list < length (chains links queues)
  in_lists = rw (length-chains links queues) there

  once_after : (k : ℕ) → times k (before.first ∷ places links free count) + times_in_all k (set (chains links queues) list (chain links after))
      ≡ times k (places links free count) + times_in_all k (chains links queues)
  once_after k =
      let s = times_in_all-set k (chains links queues) list (chain links after) in_lists in
      let g : times k (get_or (chains links queues) list []) ≡ times k (before.first ∷ chain links after) =
      ap (times k) (get_or-chains links queues list ∙ chain-rest links before some) in
      let a = times-append k (before.first ∷ []) (chain links after) in
      let b = times-append k (before.first ∷ []) (places links free count) in
      omega arith

  count_after : suc count + count_in_all (set (chains links queues) list (chain links after)) ≡ count + count_in_all (chains links queues)
  count_after =
      let s = count_in_all-set (chains links queues) list (chain links after) in_lists in
      let g : length (get_or (chains links queues) list []) ≡ suc (length (chain links after)) =
      ap length (get_or-chains links queues list ∙ chain-rest links before some) in
      omega arith

  few_after : (j : ℕ) → (queue_at (set queues list after) j).count ≤ 8
  few_after j =
      let f = h.at_most_eight list in
      elim (cases_eq j list) [
        | inl e ↦ rw (e, queue_at-same queues list after there, shorter-count links before) (omega arith)
        | inr ne ↦ rw (queue_at-other queues list j after ne) (h.at_most_eight j)
      ]

  chain_at : (j : ℕ) → chain (set links before.first free) (queue_at (set queues list after) j)
      ≡ get_or (set (chains links queues) list (chain links after)) j []
  chain_at j =
      sym (get_or-chains (set links before.first free) (set queues list after) j) ∙
      ap (λ (cs : List (List ℕ)). get_or cs j []) chains-popped

  last_before : end_of (chain links after) before.last ≡ before.last
  last_before = end_of-rest before.first (chain links after) before.last (rw (← chain-rest links before some) (h.last list))

  last_after : (j : ℕ) → end_of (chain (set links before.first free) (queue_at (set queues list after) j))
      (queue_at (set queues list after) j).last ≡ (queue_at (set queues list after) j).last
  unfolding shorter
  last_after j =
      rw (chain_at j)
      (elim (cases_eq j list) [
        | inl e ↦
            rw (
              e,
              get_or-set_same (chains links queues) list (chain links after) [] in_lists,
              queue_at-same queues list after there,
              shorter-last links before,
            ) last_before
        | inr ne ↦
            rw (
              get_or-set_other (chains links queues) list j (chain links after) [] ne,
              queue_at-other queues list j after ne,
              get_or-chains links queues j,
            ) (h.last j)
      ])

  pub IsLinked-popped : IsLinked (set links before.first free) (set queues list after) before.first (suc count)
  IsLinked-popped = record {
    few_lists = rw (length-set queues list after) h.few_lists;
    eight_each = rw (length-set links before.first free, length-set queues list after) h.eight_each;
    once = λ k. rw (free_after, chains-popped, length-set links before.first free) (once_after k ∙ h.once k);
    whole = rw (chains-popped, length-set links before.first free) (count_after ∙ h.whole);
    at_most_eight = few_after;
    last = last_after;
  }
