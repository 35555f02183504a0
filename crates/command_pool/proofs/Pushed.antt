-- A record that goes from the free list to the end of a list.
-- for: add, copy_from, detach and others
use Rattle.std.proofs.Common.{◌≡◌, refl, sym, ap, ◌∙◌, ℕ, suc, ◌+◌, ◌<◌, ◌≤◌, List, [], ◌∷◌, ◌++◌, length, get_or, set, arith, inl, inr}
use Rattle.std.proofs.lemmas.Bool.{cases_eq, cases_lt, ne_eqb}
use Rattle.std.proofs.lemmas.List.{get_or-set_same, get_or-set_other, length-set, length-append}
use Rattle.command_pool.specs.declared.linking.Queue.{Queue}
use Rattle.command_pool.specs.Layout.{places, chain, chains, times, times_in_all, count_in_all, end_of, queue_at, longer, links_with}
use Rattle.command_pool.specs.Kept.{IsLinked}
use Rattle.command_pool.proofs.Times.{counted, times-append, end_of-push, times_in_all-set, count_in_all-set}
use Rattle.command_pool.proofs.Chains.{places-set, chain-longer_of, get_or-chains, length-chains, chains-set, chains-put}
use Rattle.command_pool.proofs.Pools.{length-links_with, longer-count, longer-last, queue_at-same, queue_at-other, last_listed}

-- where a list has no record, it has this one alone, and no record is linked anew
record PutsFirst (links : List ℕ) (q : Queue) (p : ℕ) : Type 0 where
  pub links_same : links_with links q p ≡ links
  pub places_one : chain links (longer q p) ≡ chain links q ++ p ∷ []

puts_first : (links : List ℕ) (q : Queue) (p : ℕ) → q.count ≡ 0 → PutsFirst links q p
unfolding links_with longer chain places
puts_first links q p none = record {
  links_same = rw none refl;
  places_one = rw none refl;
}

-- where it has one, the last one is linked to this one
record PutsBehind (links : List ℕ) (q : Queue) (p : ℕ) : Type 0 where
  pub links_same : links_with links q p ≡ set links q.last p
  pub places_more : chain (set links q.last p) (longer q p) ≡ chain links q ++ p ∷ []

puts_behind : (links : List ℕ) (q : Queue) (p : ℕ) → 0 < q.count → end_of (chain links q) q.last ≡ q.last →
    times q.last (chain links q) ≤ 1 → q.last < length links → PutsBehind links q p
unfolding links_with
puts_behind links q p some e one lt =
    let ne : q.count ≡ 0 → ⊥ = λ z. omega arith in
    let s : links_with links q p ≡ set links q.last p = rw (ne_eqb q.count 0 ne) refl in
    let c : chain (links_with links q p) (longer q p) ≡ chain links q ++ p ∷ [] =
    chain-longer_of links q p e one (λ _. lt) in
    record { links_same = s; places_more = rw s at c }

-- the lists with the record at the end of one
pub chains-pushed : (links : List ℕ) (queues : List Queue) (free count list p : ℕ) → IsLinked links queues free count →
    chains (links_with links (queue_at queues list) p) (set queues list (longer (queue_at queues list) p))
    ≡ set (chains links queues) list (chain links (queue_at queues list) ++ p ∷ [])
chains-pushed links queues free count list p h =
    let q = queue_at queues list in
    elim (cases_lt 0 q.count) [
      | inl some ↦
          let l = last_listed links queues free count list h some in
          let b = puts_behind links q p some (h.last list) (omega (arith, l.once_here)) l.below in
          let s = chains-set links q.last p queues list (longer q p) l.alone in
          rw (b.links_same, s, b.places_more) refl
      | inr none ↦
          let f = puts_first links q p (omega arith) in
          rw (f.links_same, chains-put links queues list (longer q p), f.places_one) refl
    ]

-- the other places stay where the last record of a list is linked anew
places-pushed : (links : List ℕ) (queues : List Queue) (free count list p place n : ℕ) → IsLinked links queues free count →
    (0 < (queue_at queues list).count → times (queue_at queues list).last (places links place n) ≡ 0) →
    places (links_with links (queue_at queues list) p) place n ≡ places links place n
unfolding links_with
places-pushed links queues free count list p place n h apart =
    let q = queue_at queues list in
    elim (cases_lt 0 q.count) [
      | inl some ↦
          let ne : q.count ≡ 0 → ⊥ = λ z. omega arith in
          rw (ne_eqb q.count 0 ne) (places-set links q.last p place n (apart some))
      | inr none ↦
          let z : q.count ≡ 0 = omega arith in
          rw z refl
    ]

-- the first free record
rest_of_free : (links : List ℕ) (free count : ℕ) → places links free (suc count) ≡ free ∷ places links (get_or links free 0) count
unfolding places
rest_of_free links free count = refl

-- the pool with the first free record at the end of a list
module _ (links : List ℕ) (queues : List Queue) (free count list : ℕ) (h : IsLinked links queues free (suc count)) (there : list < length queues) (room : (queue_at queues list).count < 8) where
  abbrev before : Queue
  before = queue_at queues list

  free_after : places (links_with links before free) (get_or links free 0) count ≡ places links (get_or links free 0) count
  free_after =
      places-pushed links queues free (suc count) list free (get_or links free 0) count h
      (λ some.
      let l = last_listed links queues free (suc count) list h some in
      let c = counted before.last free (places links (get_or links free 0) count) in
      let z : times before.last (free ∷ places links (get_or links free 0) count) ≡ 0 = rw (← rest_of_free links free count) l.not_free in
      omega (arith, c.least))

  in_lists : list < length (chains links queues)
  in_lists = rw (length-chains links queues) there

  once_after : (k : ℕ) → times k (places links (get_or links free 0) count) + times_in_all k (set (chains links queues) list (chain links before ++ free ∷ []))
      ≡ times k (places links free (suc count)) + times_in_all k (chains links queues)
  once_after k =
      let tail = places links (get_or links free 0) count in
      let s = times_in_all-set k (chains links queues) list (chain links before ++ free ∷ []) in_lists in
      let g : times k (get_or (chains links queues) list []) ≡ times k (chain links before) = ap (times k) (get_or-chains links queues list) in
      let a = times-append k (chain links before) (free ∷ []) in
      let b = times-append k (free ∷ []) tail in
      let r : times k (places links free (suc count)) ≡ times k (free ∷ tail) = ap (times k) (rest_of_free links free count) in
      omega arith

  count_after : count + count_in_all (set (chains links queues) list (chain links before ++ free ∷ [])) ≡ suc count + count_in_all (chains links queues)
  count_after =
      let s = count_in_all-set (chains links queues) list (chain links before ++ free ∷ []) in_lists in
      let g : length (get_or (chains links queues) list []) ≡ length (chain links before) = ap length (get_or-chains links queues list) in
      let a = length-append (chain links before) (free ∷ []) in
      omega arith

  few_after : (j : ℕ) → (queue_at (set queues list (longer before free)) j).count ≤ 8
  few_after j =
      elim (cases_eq j list) [
        | inl e ↦ rw (e, queue_at-same queues list (longer before free) there, longer-count before free) (omega arith)
        | inr ne ↦ rw (queue_at-other queues list j (longer before free) ne) (h.at_most_eight j)
      ]

  chain_after : (j : ℕ) → chain (links_with links before free) (queue_at (set queues list (longer before free)) j)
      ≡ get_or (set (chains links queues) list (chain links before ++ free ∷ [])) j []
  chain_after j =
      sym (get_or-chains (links_with links before free) (set queues list (longer before free)) j) ∙
      ap (λ (cs : List (List ℕ)). get_or cs j []) (chains-pushed links queues free (suc count) list free h)

  last_after : (j : ℕ) → end_of (chain (links_with links before free) (queue_at (set queues list (longer before free)) j))
      (queue_at (set queues list (longer before free)) j).last ≡ (queue_at (set queues list (longer before free)) j).last
  last_after j =
      rw (chain_after j)
      (elim (cases_eq j list) [
        | inl e ↦
            rw (
              e,
              get_or-set_same (chains links queues) list (chain links before ++ free ∷ []) [] in_lists,
              queue_at-same queues list (longer before free) there,
              longer-last before free,
            ) (end_of-push (chain links before) free free)
        | inr ne ↦
            rw (
              get_or-set_other (chains links queues) list j (chain links before ++ free ∷ []) [] ne,
              queue_at-other queues list j (longer before free) ne,
              get_or-chains links queues j,
            ) (h.last j)
      ])

  pub IsLinked-pushed : IsLinked (links_with links before free) (set queues list (longer before free)) (get_or links free 0) count
  IsLinked-pushed = record {
    few_lists = rw (length-set queues list (longer before free)) h.few_lists;
    eight_each = rw (length-links_with links before free, length-set queues list (longer before free)) h.eight_each;
    once = λ k. rw (free_after, chains-pushed links queues free (suc count) list free h, length-links_with links before free) (once_after k ∙ h.once k);
    whole = rw (chains-pushed links queues free (suc count) list free h, length-links_with links before free) (count_after ∙ h.whole);
    at_most_eight = few_after;
    last = last_after;
  }
