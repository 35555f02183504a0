-- Records that are linked anew, where their places stand in one list alone.
-- for: add, copy_from, detach and others
use Rattle.std.proofs.Common.{◌≡◌, refl, sym, ap, ℕ, zero, suc, ◌<◌, ◌≤◌, List, [], ◌∷◌, ◌++◌, length, map, get_or, set, arith, add-one}
use Rattle.std.proofs.Math.ListN.{get_or-map}
use Rattle.std.proofs.lemmas.Bool.{ne_eqb}
use Rattle.std.proofs.lemmas.List.{get_or-set_same, get_or-set_other, map-set, length-map}
use Rattle.command_pool.specs.declared.linking.Queue.{Queue}
use Rattle.command_pool.specs.Layout.{places, chain, chains, times, times_in_all, end_of, queue_at, empty, longer, links_with}
use Rattle.command_pool.proofs.Times.{counted, not_first, not_later, times_end, times_in_all-get}

-- this many places
pub length-places : (links : List ℕ) (place n : ℕ) → length (places links place n) ≡ n
unfolding places
length-places links place zero = refl
length-places links place (suc n) = ap suc (length-places links (get_or links place 0) n)

-- the places stay where a record that isn't one of them is linked anew
pub places-set : (links : List ℕ) (p v place n : ℕ) → times p (places links place n) ≡ 0 →
    places (set links p v) place n ≡ places links place n
unfolding places
places-set links p v place zero h = refl
places-set links p v place (suc n) h =
    let same : get_or (set links p v) place 0 ≡ get_or links place 0 = get_or-set_other links p place v 0 (not_first p place _ h) in
    rw same (ap (λ ps. place ∷ ps) (places-set links p v (get_or links place 0) n (not_later p place _ h)))

-- a record that the last one is linked to stands at the end
pub places-linked : (links : List ℕ) (place n last p d : ℕ) → end_of (places links place (suc n)) d ≡ last →
    times last (places links place (suc n)) ≤ 1 → last < length links →
    places (set links last p) place (suc (suc n)) ≡ places links place (suc n) ++ p ∷ []
unfolding places end_of
places-linked links place zero last p d e one lt =
    let s : get_or (set links last p) place 0 ≡ p = rw e (get_or-set_same links last p 0 lt) in
    rw s refl
places-linked links place (suc n) last p d e one lt =
    let next = get_or links place 0 in
    let there : 1 ≤ times last (places links next (suc n)) = rw (← e) (times_end next (places links (get_or links next 0) n)) in
    let h = counted last place (places links next (suc n)) in
    let ne : place ≡ last → ⊥ = λ s. let t = h.same (sym s) in omega arith in
    let same : get_or (set links last p) place 0 ≡ next = get_or-set_other links last place p 0 ne in
    let few : times last (places links next (suc n)) ≤ 1 = omega (arith, h.least) in
    rw same (ap (λ ps. place ∷ ps) (places-linked links next n last p place e few lt))

-- a list with one record more has its place at the end
pub chain-longer : (links : List ℕ) (first last count p : ℕ) → end_of (places links first count) last ≡ last →
    times last (places links first count) ≤ 1 → (0 < count → last < length links) →
    let q : Queue = record { first = first; last = last; count = count } in
    chain (links_with links q p) (longer q p) ≡ chain links q ++ p ∷ []
unfolding chain longer links_with places
chain-longer links first last zero p e one lt = refl
chain-longer links first last (suc n) p e one lt =
    rw (ne_eqb (suc n) 0 (λ h. omega arith), add-one) (places-linked links first n last p last e one (lt (omega arith)))

pub chain-longer_of : (links : List ℕ) (q : Queue) (p : ℕ) → end_of (chain links q) q.last ≡ q.last →
    times q.last (chain links q) ≤ 1 → (0 < q.count → q.last < length links) →
    chain (links_with links q p) (longer q p) ≡ chain links q ++ p ∷ []
unfolding chain
chain-longer_of links q p e one lt = chain-longer links q.first q.last q.count p e one lt

-- the places of a list, by its number
pub get_or-chains : (links : List ℕ) (queues : List Queue) (i : ℕ) → get_or (chains links queues) i [] ≡ chain links (queue_at queues i)
unfolding chains chain queue_at places
get_or-chains links queues i = get_or-map (chain links) queues i empty

pub length-chains : (links : List ℕ) (queues : List Queue) → length (chains links queues) ≡ length queues
unfolding chains
length-chains links queues = length-map queues (chain links)

-- a list stays where a record that isn't one of its own is linked anew
pub chain-set : (links : List ℕ) (p v : ℕ) (q : Queue) → times p (chain links q) ≡ 0 → chain (set links p v) q ≡ chain links q
unfolding chain
chain-set links p v q h = places-set links p v q.first q.count h

-- where no list has a record, it may be linked anew
chains-same : (links : List ℕ) (p v : ℕ) (queues : List Queue) → times_in_all p (chains links queues) ≡ 0 →
    chains (set links p v) queues ≡ chains links queues
unfolding chains chain times_in_all
chains-same links p v [] h = refl
chains-same links p v (q ∷ queues) h =
    let first : times p (places links q.first q.count) ≡ 0 = omega arith in
    let rest : times_in_all p (map (chain links) queues) ≡ 0 = omega arith in
    rw (places-set links p v q.first q.count first) (ap (λ cs. places links q.first q.count ∷ cs) (chains-same links p v queues rest))

-- where one list alone has a record, the others stay
pub chains-set : (links : List ℕ) (p v : ℕ) (queues : List Queue) (i : ℕ) (q : Queue) →
    times_in_all p (chains links queues) ≡ times p (get_or (chains links queues) i []) →
    chains (set links p v) (set queues i q) ≡ set (chains links queues) i (chain (set links p v) q)
unfolding chains times_in_all
chains-set links p v [] i q h = refl
chains-set links p v (r ∷ queues) zero q h =
    let rest : times_in_all p (map (chain links) queues) ≡ 0 = omega arith in
    ap (λ cs. chain (set links p v) q ∷ cs) (chains-same links p v queues rest)
chains-set links p v (r ∷ queues) (suc i) q h =
    let le = times_in_all-get p (map (chain links) queues) i in
    let first : times p (chain links r) ≡ 0 = omega arith in
    let rest : times_in_all p (map (chain links) queues) ≡ times p (get_or (map (chain links) queues) i []) = omega arith in
    let same : chain (set links p v) r ≡ chain links r = chain-set links p v r first in
    rw same (ap (λ cs. chain links r ∷ cs) (chains-set links p v queues i q rest))

-- the places where no record is linked anew
pub chains-put : (links : List ℕ) (queues : List Queue) (i : ℕ) (q : Queue) →
    chains links (set queues i q) ≡ set (chains links queues) i (chain links q)
unfolding chains
chains-put links queues i q = map-set (chain links) queues i q
