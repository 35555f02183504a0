-- What a pool keeps when a record goes from the free list to a list, and back.
-- for: add, copy_from, detach and others
use Rattle.std.proofs.Common.{◌≡◌, refl, ap, ◌∙◌, ℕ, zero, suc, ◌+◌, ◌<◌, ◌≤◌, List, [], ◌∷◌, length, get_or, set, arith, inl, inr}
use Rattle.std.proofs.lemmas.Bool.{cases_eq, ne_eqb}
use Rattle.std.proofs.lemmas.List.{get_or-set_same, get_or-set_other, length-set}
use Rattle.command_pool.specs.declared.linking.Queue.{Queue}
use Rattle.command_pool.specs.Layout.{places, chain, chains, times, times_in_all, end_of, queue_at, empty, longer, links_with}
use Rattle.command_pool.specs.Kept.{IsLinked}
use Rattle.command_pool.proofs.Times.{once, times_first, times_end, times_in_all-get, count_in_all-lt}
use Rattle.command_pool.proofs.Chains.{length-places, get_or-chains, length-chains}

pub length-chain : (links : List ℕ) (q : Queue) → length (chain links q) ≡ q.count
unfolding chain
length-chain links q = length-places links q.first q.count

-- this many places stand in a list
pub length-chain_at : (links : List ℕ) (queues : List Queue) (i : ℕ) → length (get_or (chains links queues) i []) ≡ (queue_at queues i).count
length-chain_at links queues i = ap length (get_or-chains links queues i) ∙ length-chain links (queue_at queues i)

pub queue_at-same : (queues : List Queue) (i : ℕ) (q : Queue) → i < length queues → queue_at (set queues i q) i ≡ q
unfolding queue_at
queue_at-same queues i q lt = get_or-set_same queues i q empty lt

pub queue_at-other : (queues : List Queue) (i j : ℕ) (q : Queue) → (j ≡ i → ⊥) → queue_at (set queues i q) j ≡ queue_at queues j
unfolding queue_at
queue_at-other queues i j q ne = get_or-set_other queues i j q empty ne

pub longer-count : (q : Queue) (p : ℕ) → (longer q p).count ≡ q.count + 1
unfolding longer
longer-count q p =
    elim (cases_eq q.count 0) [
      | inl e ↦ rw e refl
      | inr ne ↦ rw (ne_eqb q.count 0 ne) refl
    ]

pub longer-last : (q : Queue) (p : ℕ) → (longer q p).last ≡ p
unfolding longer
longer-last q p =
    elim (cases_eq q.count 0) [
      | inl e ↦ rw e refl
      | inr ne ↦ rw (ne_eqb q.count 0 ne) refl
    ]

pub length-links_with : (links : List ℕ) (q : Queue) (p : ℕ) → length (links_with links q p) ≡ length links
unfolding links_with
length-links_with links q p =
    elim (cases_eq q.count 0) [
      | inl e ↦ rw e refl
      | inr ne ↦ rw (ne_eqb q.count 0 ne) (length-set links q.last p)
    ]

-- where a list has room, a record is free
pub has_free : (links : List ℕ) (queues : List Queue) (free count list : ℕ) → IsLinked links queues free count →
    list < length queues → (queue_at queues list).count < 8 → 0 < count
has_free links queues free count list h there room =
    let few : (j : ℕ) → length (get_or (chains links queues) j []) ≤ 8 = λ j. rw (length-chain_at links queues j) (h.at_most_eight j) in
    let lt : list < length (chains links queues) = rw (length-chains links queues) there in
    let less : length (get_or (chains links queues) list []) < 8 = rw (length-chain_at links queues list) room in
    let all = count_in_all-lt (chains links queues) list few lt less in
    let len = length-chains links queues in
    omega (arith, h.whole, h.eight_each)

-- the first free record is one of the array's, and stands in no list and nowhere else
pub record IsFree (links : List ℕ) (queues : List Queue) (free count : ℕ) : Type 0 where
  pub below : free < length links
  pub later : times free (places links (get_or links free 0) count) ≡ 0
  pub lists : times_in_all free (chains links queues) ≡ 0

pub first_free : (links : List ℕ) (queues : List Queue) (free count : ℕ) → IsLinked links queues free (suc count) → IsFree links queues free count
unfolding places
first_free links queues free count h =
    let tail = places links (get_or links free 0) count in
    let one = times_first free free tail refl in
    let o = once free (length links) (times free (free ∷ tail) + times_in_all free (chains links queues)) (h.once free) (omega arith) in
    record { below = o.below; later = omega (arith, o.one); lists = omega (arith, o.one) }

-- a record of a list is one of the array's, and stands in this list alone
pub record IsListed (links : List ℕ) (queues : List Queue) (free count list place : ℕ) : Type 0 where
  pub below : place < length links
  pub once_here : times place (chain links (queue_at queues list)) ≡ 1
  pub not_free : times place (places links free count) ≡ 0
  pub alone : times_in_all place (chains links queues) ≡ times place (get_or (chains links queues) list [])

listed : (links : List ℕ) (queues : List Queue) (free count list place : ℕ) → IsLinked links queues free count →
    1 ≤ times place (chain links (queue_at queues list)) → IsListed links queues free count list place
listed links queues free count list place h there =
    let le = times_in_all-get place (chains links queues) list in
    let same : times place (get_or (chains links queues) list []) ≡ times place (chain links (queue_at queues list)) =
    ap (times place) (get_or-chains links queues list) in
    let o = once place (length links) (times place (places links free count) + times_in_all place (chains links queues)) (h.once place) (omega arith) in
    record { below = o.below; once_here = omega (arith, o.one); not_free = omega (arith, o.one); alone = omega (arith, o.one) }

end_there : (links : List ℕ) (first n last : ℕ) → 0 < n → end_of (places links first n) last ≡ last → 1 ≤ times last (places links first n)
unfolding places end_of
end_there links first zero last some e = absurd (omega arith)
end_there links first (suc n) last some e = rw (← e) (times_end first (places links (get_or links first 0) n))

-- the last and the first of some places stand there
there_at_end : (links : List ℕ) (q : Queue) → 0 < q.count → end_of (chain links q) q.last ≡ q.last → 1 ≤ times q.last (chain links q)
unfolding chain
there_at_end links q some e = end_there links q.first q.count q.last some e

-- the last record of a list that has one
pub last_listed : (links : List ℕ) (queues : List Queue) (free count list : ℕ) → IsLinked links queues free count →
    0 < (queue_at queues list).count → IsListed links queues free count list (queue_at queues list).last
last_listed links queues free count list h some =
    let q = queue_at queues list in
    listed links queues free count list q.last h (there_at_end links q some (h.last list))

start_there : (links : List ℕ) (first n : ℕ) → 0 < n → 1 ≤ times first (places links first n)
unfolding places
start_there links first zero some = absurd (omega arith)
start_there links first (suc n) some = let h = times_first first first (places links (get_or links first 0) n) refl in omega arith

there_at_start : (links : List ℕ) (q : Queue) → 0 < q.count → 1 ≤ times q.first (chain links q)
unfolding chain
there_at_start links q some = start_there links q.first q.count some

-- the first record of a list that has one
pub first_listed : (links : List ℕ) (queues : List Queue) (free count list : ℕ) → IsLinked links queues free count →
    0 < (queue_at queues list).count → IsListed links queues free count list (queue_at queues list).first
first_listed links queues free count list h some =
    listed links queues free count list (queue_at queues list).first h (there_at_start links (queue_at queues list) some)
