-- The commands of each list, as its records give them.
-- for: add, copy_from, detach and others
use Rattle.std.proofs.Common.{◌≡◌, refl, ap, ◌∙◌, ℕ, zero, suc, ◌<◌, Some, List, [], ◌∷◌, ◌++◌, length, map, get_or, set, drop, replicate, arith}
use Rattle.std.proofs.Math.ListN.{get_or-map}
use Rattle.std.proofs.lemmas.List.{get_or-set_same, get_or-set_other, length-map, map-set, map-append}
use Rattle.command_pool.specs.declared.linking.Queue.{Queue}
use Rattle.command_pool.specs.declared.wanted.Wanted.{Wanted}
use Rattle.command_pool.specs.Waiting.{queue_of, last_of, waiting_in_all}
use Rattle.command_pool.specs.Layout.{command_at, unused, places, chain, chains, times, times_in_all, count_in_all, end_of, queue_at, longer, links_with, shorter, empty, lists_of}
use Rattle.command_pool.specs.Kept.{IsLinked}
use Rattle.command_pool.proofs.Times.{not_first, not_later}
use Rattle.command_pool.proofs.Chains.{get_or-chains, length-chains}
use Rattle.command_pool.proofs.Pools.{length-chain, first_free}
use Rattle.command_pool.proofs.Pushed.{chains-pushed}
use Rattle.command_pool.proofs.Popped.{chains-popped, chain-rest}

pub length-lists_of : (links : List ℕ) (commands : List Wanted) (queues : List Queue) →
    length (lists_of links commands queues) ≡ length queues
unfolding lists_of
length-lists_of links commands queues = length-map (chains links queues) (map (command_at commands)) ∙ length-chains links queues

-- the commands of a list, by its number
pub queue_of-lists_of : (links : List ℕ) (commands : List Wanted) (queues : List Queue) (list : ℕ) →
    queue_of (lists_of links commands queues) list ≡ map (command_at commands) (chain links (queue_at queues list))
unfolding lists_of
queue_of-lists_of links commands queues list =
    get_or-map (map (command_at commands)) (chains links queues) list [] ∙ ap (map (command_at commands)) (get_or-chains links queues list)

pub length-queue_of : (links : List ℕ) (commands : List Wanted) (queues : List Queue) (list : ℕ) →
    length (queue_of (lists_of links commands queues) list) ≡ (queue_at queues list).count
length-queue_of links commands queues list =
    ap length (queue_of-lists_of links commands queues list) ∙
    (length-map (chain links (queue_at queues list)) (command_at commands) ∙ length-chain links (queue_at queues list))

-- as many commands wait as there are places in the lists
waiting-map : (commands : List Wanted) (cs : List (List ℕ)) → waiting_in_all (map (map (command_at commands)) cs) ≡ count_in_all cs
unfolding count_in_all
waiting-map commands [] = refl
waiting-map commands (c ∷ cs) =
    let h = waiting-map commands cs in
    let l : length (map (command_at commands) c) ≡ length c = length-map c (command_at commands) in
    omega arith

pub waiting-lists_of : (links : List ℕ) (commands : List Wanted) (queues : List Queue) →
    waiting_in_all (lists_of links commands queues) ≡ count_in_all (chains links queues)
unfolding lists_of
waiting-lists_of links commands queues = waiting-map commands (chains links queues)

-- a list's commands stay where another record is filled
filled-one : (commands : List Wanted) (p : ℕ) (w : Wanted) (c : List ℕ) → times p c ≡ 0 →
    map (command_at (set commands p w)) c ≡ map (command_at commands) c
unfolding command_at
filled-one commands p w [] h = refl
filled-one commands p w (k ∷ c) h =
    let same : get_or (set commands p w) k unused ≡ get_or commands k unused = get_or-set_other commands p k w unused (not_first p k c h) in
    rw same (ap (λ (ws : List Wanted). get_or commands k unused ∷ ws) (filled-one commands p w c (not_later p k c h)))

filled-all : (commands : List Wanted) (p : ℕ) (w : Wanted) (cs : List (List ℕ)) → times_in_all p cs ≡ 0 →
    map (map (command_at (set commands p w))) cs ≡ map (map (command_at commands)) cs
unfolding times_in_all
filled-all commands p w [] h = refl
filled-all commands p w (c ∷ cs) h =
    let first : times p c ≡ 0 = omega arith in
    let rest : times_in_all p cs ≡ 0 = omega arith in
    rw (filled-one commands p w c first) (ap (λ (ws : List (List Wanted)). map (command_at commands) c ∷ ws) (filled-all commands p w cs rest))

filled-here : (commands : List Wanted) (p : ℕ) (w : Wanted) → p < length commands → command_at (set commands p w) p ≡ w
unfolding command_at
filled-here commands p w lt = get_or-set_same commands p w unused lt

-- a list of places with one more
filled-end : (commands : List Wanted) (p : ℕ) (w : Wanted) (c : List ℕ) → times p c ≡ 0 → p < length commands →
    map (command_at (set commands p w)) (c ++ p ∷ []) ≡ map (command_at commands) c ++ w ∷ []
filled-end commands p w c apart lt =
    map-append (command_at (set commands p w)) c (p ∷ []) ∙
    rw (filled-one commands p w c apart, filled-here commands p w lt) refl

one_of_all : (p : ℕ) (cs : List (List ℕ)) (i : ℕ) → times_in_all p cs ≡ 0 → times p (get_or cs i []) ≡ 0
unfolding times times_in_all
one_of_all p [] i h = refl
one_of_all p (c ∷ cs) zero h = omega arith
one_of_all p (c ∷ cs) (suc i) h = one_of_all p cs i (omega arith)

unfolded-push : (links : List ℕ) (commands : List Wanted) (queues : List Queue) (list p : ℕ) (w : Wanted) →
    chains (links_with links (queue_at queues list) p) (set queues list (longer (queue_at queues list) p))
    ≡ set (chains links queues) list (chain links (queue_at queues list) ++ p ∷ []) →
    map (map (command_at (set commands p w))) (chains links queues) ≡ map (map (command_at commands)) (chains links queues) →
    map (command_at (set commands p w)) (chain links (queue_at queues list) ++ p ∷ []) ≡ map (command_at commands) (chain links (queue_at queues list)) ++ w ∷ [] →
    lists_of (links_with links (queue_at queues list) p) (set commands p w) (set queues list (longer (queue_at queues list) p))
    ≡ set (lists_of links commands queues) list (map (command_at commands) (chain links (queue_at queues list)) ++ w ∷ [])
unfolding lists_of
unfolded-push links commands queues list p w pushed all here =
    ap (map (map (command_at (set commands p w)))) pushed ∙
    (map-set (map (command_at (set commands p w))) (chains links queues) list (chain links (queue_at queues list) ++ p ∷ []) ∙
    rw (all, here) refl)

-- a command that is put into the first free record, after the last of a list
pub lists_of-pushed : (links : List ℕ) (commands : List Wanted) (queues : List Queue) (free count list : ℕ) (w : Wanted) →
    IsLinked links queues free (suc count) → length commands ≡ length links →
    lists_of (links_with links (queue_at queues list) free) (set commands free w) (set queues list (longer (queue_at queues list) free))
    ≡ set (lists_of links commands queues) list (queue_of (lists_of links commands queues) list ++ w ∷ [])
lists_of-pushed links commands queues free count list w h len =
    let f = first_free links queues free count h in
    let lt : free < length commands = omega (arith, f.below) in
    let c = chain links (queue_at queues list) in
    let apart : times free c ≡ 0 = rw (get_or-chains links queues list) at (one_of_all free (chains links queues) list f.lists) in
    rw (queue_of-lists_of links commands queues list)
    (unfolded-push links commands queues list free w (chains-pushed links queues free (suc count) list free h)
    (filled-all commands free w (chains links queues) f.lists) (filled-end commands free w c apart lt))

-- the first command of a list, and the others
pub queue_of-rest : (links : List ℕ) (commands : List Wanted) (queues : List Queue) (list : ℕ) → 0 < (queue_at queues list).count →
    queue_of (lists_of links commands queues) list
    ≡ command_at commands (queue_at queues list).first ∷ map (command_at commands) (chain links (shorter links (queue_at queues list)))
queue_of-rest links commands queues list some =
    queue_of-lists_of links commands queues list ∙ ap (map (command_at commands)) (chain-rest links (queue_at queues list) some)

unfolded-pop : (links : List ℕ) (commands : List Wanted) (queues : List Queue) (list free : ℕ) →
    chains (set links (queue_at queues list).first free) (set queues list (shorter links (queue_at queues list)))
    ≡ set (chains links queues) list (chain links (shorter links (queue_at queues list))) →
    lists_of (set links (queue_at queues list).first free) commands (set queues list (shorter links (queue_at queues list)))
    ≡ set (lists_of links commands queues) list (map (command_at commands) (chain links (shorter links (queue_at queues list))))
unfolding lists_of
unfolded-pop links commands queues list free popped =
    ap (map (map (command_at commands))) popped ∙
    map-set (map (command_at commands)) (chains links queues) list (chain links (shorter links (queue_at queues list)))

-- a list whose first record is given back
pub lists_of-popped : (links : List ℕ) (commands : List Wanted) (queues : List Queue) (free count list : ℕ) →
    IsLinked links queues free count → list < length queues → 0 < (queue_at queues list).count →
    lists_of (set links (queue_at queues list).first free) commands (set queues list (shorter links (queue_at queues list)))
    ≡ set (lists_of links commands queues) list (drop 1 (queue_of (lists_of links commands queues) list))
lists_of-popped links commands queues free count list h there some =
    rw (queue_of-rest links commands queues list some)
    (unfolded-pop links commands queues list free (chains-popped links queues free count list h there some))

empty_by_length : (ws : List Wanted) → length ws ≡ 0 → ws ≡ []
empty_by_length [] e = refl
empty_by_length (w ∷ ws) e = absurd (omega arith)

-- an empty list has no commands
pub queue_of-none : (links : List ℕ) (commands : List Wanted) (queues : List Queue) (list : ℕ) → (queue_at queues list).count ≡ 0 →
    queue_of (lists_of links commands queues) list ≡ []
queue_of-none links commands queues list none =
    empty_by_length (queue_of (lists_of links commands queues) list) (length-queue_of links commands queues list ∙ none)

-- the last command of a list
last-map : (commands : List Wanted) (p : ℕ) (ps : List ℕ) →
    last_of (map (command_at commands) (p ∷ ps)) ≡ Some (command_at commands (end_of ps p))
unfolding end_of
last-map commands p [] = refl
last-map commands p (q ∷ ps) = last-map commands q ps

last-some : (commands : List Wanted) (ps : List ℕ) (last : ℕ) → 0 < length ps → end_of ps last ≡ last →
    last_of (map (command_at commands) ps) ≡ Some (command_at commands last)
unfolding end_of
last-some commands [] last some e = absurd (omega arith)
last-some commands (p ∷ ps) last some e = last-map commands p ps ∙ ap (λ k. Some (command_at commands k)) e

pub last_of-lists_of : (links : List ℕ) (commands : List Wanted) (queues : List Queue) (free count list : ℕ) →
    IsLinked links queues free count → 0 < (queue_at queues list).count →
    last_of (queue_of (lists_of links commands queues) list) ≡ Some (command_at commands (queue_at queues list).last)
last_of-lists_of links commands queues free count list h some =
    let l : 0 < length (chain links (queue_at queues list)) = rw (length-chain links (queue_at queues list)) some in
    ap last_of (queue_of-lists_of links commands queues list) ∙
    last-some commands (chain links (queue_at queues list)) (queue_at queues list).last l (h.last list)

-- a pool that is opened has no commands
pub lists_of-opened : (links : List ℕ) (commands : List Wanted) (n : ℕ) → lists_of links commands (replicate n empty) ≡ replicate n []
unfolding lists_of chains chain places
lists_of-opened links commands zero = refl
lists_of-opened links commands (suc n) = ap (λ (ws : List (List Wanted)). [] ∷ ws) (lists_of-opened links commands n)
