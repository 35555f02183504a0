-- Commands that lose their owner, in the records of a list.
-- for: detach, detach_in, record_at
use Rattle.std.proofs.Common.{◌≡◌, refl, sym, ap, ◌∙◌, ℕ, zero, suc, ◌+◌, ◌-◌, ◌<◌, ◌≤◌, Option, Some, None, inl, inr, List, [], ◌∷◌, length, map, set, get_or, arith}
use Rattle.std.specs.Prelude.{Bool, true, false, nat_lt, if◌then◌else◌}
use Rattle.std.proofs.lemmas.Bool.{cases_eq, eq-eqb, ne_eqb}
use Rattle.std.proofs.lemmas.List.{get_or-set_other}
use Rattle.command_pool.specs.declared.linking.Queue.{Queue}
use Rattle.command_pool.specs.declared.linking.Record.{Record}
use Rattle.command_pool.specs.declared.wanted.Wanted.{Wanted}
use Rattle.command_pool.specs.Kept.{IsLinked}
use Rattle.command_pool.specs.Layout.{chain, chains, command_at, commands_of, links_of, detached_in, lists_of, places, queue_at, times, times_in_all, unused}
use Rattle.command_pool.specs.Waiting.{detached, queue_of, without}
use Rattle.command_pool.proofs.Chains.{get_or-chains}
use Rattle.command_pool.proofs.Lists.{queue_of-lists_of}
use Rattle.command_pool.proofs.Records.{command_read, commands_of-set, link_read, links_of-filled}
use Rattle.command_pool.proofs.Times.{counted, not_first, not_later, times_first, times_in_all-get, times_other}

without-twice : (gone : ℕ) (o : Option ℕ) → without gone (without gone o) ≡ without gone o
without-twice gone None = refl
without-twice gone (Some k) =
    elim (cases_eq k gone) [
      | inl e ↦ rw (eq-eqb k gone e) refl
      | inr ne ↦ rw (ne_eqb k gone ne) (rw (ne_eqb k gone ne) refl)
    ]

-- a command that has lost the owner has it no more
detached-twice : (owner : ℕ) (w : Wanted) → detached owner (detached owner w) ≡ detached owner w
detached-twice owner w = ap (λ (o : Option ℕ). let v : Wanted = record w { owner = o } in v) (without-twice owner w.owner)

-- the command in a record that is written
written-here : (ws : List Wanted) (p owner : ℕ) →
    command_at (set ws p (detached owner (command_at ws p))) p ≡ detached owner (command_at ws p)
unfolding command_at
written-here [] p owner = refl
written-here (w ∷ ws) zero owner = refl
written-here (w ∷ ws) (suc p) owner = written-here ws p owner

-- and in another one
written-other : (ws : List Wanted) (p k : ℕ) (w : Wanted) → (k ≡ p → ⊥) → command_at (set ws p w) k ≡ command_at ws k
unfolding command_at
written-other ws p k w ne = get_or-set_other ws p k w unused ne

-- the commands in other records stay
in-other : (owner k : ℕ) (c : List ℕ) (ws : List Wanted) → times k c ≡ 0 → command_at (detached_in owner c ws) k ≡ command_at ws k
unfolding detached_in
in-other owner k [] ws h = refl
in-other owner k (p ∷ c) ws h =
    in-other owner k c (set ws p (detached owner (command_at ws p))) (not_later k p c h) ∙
    written-other ws p k (detached owner (command_at ws p)) (λ e. not_first k p c h (sym e))

-- a command that has lost the owner stays so
stays-lost : (owner k : ℕ) (c : List ℕ) (ws : List Wanted) (w : Wanted) → command_at ws k ≡ detached owner w →
    command_at (detached_in owner c ws) k ≡ detached owner w
unfolding detached_in
stays-lost owner k [] ws w e = e
stays-lost owner k (p ∷ c) ws w e =
    let v = set ws p (detached owner (command_at ws p)) in
    elim (cases_eq k p) [
      | inl same ↦
          let here : command_at v k ≡ detached owner (command_at ws k) = rw same (written-here ws p owner) in
          stays-lost owner k c v w (here ∙ (ap (detached owner) e ∙ detached-twice owner w))
      | inr ne ↦ stays-lost owner k c v w (written-other ws p k (detached owner (command_at ws p)) ne ∙ e)
    ]

-- those in the records at these places have lost the owner
in-these : (owner k : ℕ) (c : List ℕ) (ws : List Wanted) → 0 < times k c →
    command_at (detached_in owner c ws) k ≡ detached owner (command_at ws k)
unfolding detached_in times
in-these owner k [] ws h = absurd (omega arith)
in-these owner k (p ∷ c) ws h =
    let v = set ws p (detached owner (command_at ws p)) in
    elim (cases_eq k p) [
      | inl e ↦ rw e (stays-lost owner p c (set ws p (detached owner (command_at ws p))) (command_at ws p) (written-here ws p owner))
      | inr ne ↦
          let same = times_other k p c ne in
          let later : command_at (detached_in owner c v) k ≡ detached owner (command_at v k) = in-these owner k c v (omega arith) in
          later ∙ ap (detached owner) (written-other ws p k (detached owner (command_at ws p)) ne)
    ]

-- the commands of a list whose records have lost the owner
one-list : (owner : ℕ) (ws after : List Wanted) (c : List ℕ) →
    ((k : ℕ) → 0 < times k c → command_at after k ≡ detached owner (command_at ws k)) →
    map (command_at after) c ≡ map (detached owner) (map (command_at ws) c)
unfolding times
one-list owner ws after [] h = refl
one-list owner ws after (p ∷ c) h =
    let first : command_at after p ≡ detached owner (command_at ws p) = h p (rw (times_first p p c refl) (omega arith)) in
    let others : map (command_at after) c ≡ map (detached owner) (map (command_at ws) c) =
    one-list owner ws after c (λ k some. h k (omega arith)) in
    rw (first, others) refl

-- and of one none of whose records is among those
other-list : (owner : ℕ) (ws : List Wanted) (d c : List ℕ) → ((k : ℕ) → 0 < times k c → times k d ≡ 0) →
    map (command_at (detached_in owner d ws)) c ≡ map (command_at ws) c
unfolding times
other-list owner ws d [] h = refl
other-list owner ws d (p ∷ c) h =
    let first : command_at (detached_in owner d ws) p ≡ command_at ws p = in-other owner p d ws (h p (rw (times_first p p c refl) (omega arith))) in
    let others : map (command_at (detached_in owner d ws)) c ≡ map (command_at ws) c = other-list owner ws d c (λ k some. h k (omega arith)) in
    rw (first, others) refl

other-lists : (owner : ℕ) (ws : List Wanted) (d : List ℕ) (cs : List (List ℕ)) → ((k : ℕ) → 0 < times_in_all k cs → times k d ≡ 0) →
    map (map (command_at (detached_in owner d ws))) cs ≡ map (map (command_at ws)) cs
unfolding times_in_all
other-lists owner ws d [] h = refl
other-lists owner ws d (c ∷ cs) h =
    let first : map (command_at (detached_in owner d ws)) c ≡ map (command_at ws) c = other-list owner ws d c (λ k some. h k (omega arith)) in
    let others : map (map (command_at (detached_in owner d ws))) cs ≡ map (map (command_at ws)) cs = other-lists owner ws d cs (λ k some. h k (omega arith)) in
    rw (first, others) refl

-- where each place stands in one list alone
one-of-lists : (owner : ℕ) (ws : List Wanted) (cs : List (List ℕ)) (i : ℕ) → ((k : ℕ) → times_in_all k cs ≤ 1) →
    map (map (command_at (detached_in owner (get_or cs i []) ws))) cs
    ≡ set (map (map (command_at ws)) cs) i (map (detached owner) (map (command_at ws) (get_or cs i [])))
unfolding times_in_all
one-of-lists owner ws [] i few = refl
one-of-lists owner ws (c ∷ cs) zero few =
    let first : map (command_at (detached_in owner c ws)) c ≡ map (detached owner) (map (command_at ws) c) =
    one-list owner ws (detached_in owner c ws) c (λ k some. in-these owner k c ws some) in
    let others : map (map (command_at (detached_in owner c ws))) cs ≡ map (map (command_at ws)) cs =
    other-lists owner ws c cs (λ k some. let f = few k in omega arith) in
    rw (first, others) refl
one-of-lists owner ws (c ∷ cs) (suc i) few =
    let d = get_or cs i [] in
    let first : map (command_at (detached_in owner d ws)) c ≡ map (command_at ws) c =
    other-list owner ws d c (λ k some. let f = few k in let l = times_in_all-get k cs i in omega arith) in
    rw first (ap (λ ls. map (command_at ws) c ∷ ls) (one-of-lists owner ws cs i (λ k. let f = few k in omega arith)))

most-one : (b : Bool) → (if b then 1 else 0) ≤ 1
most-one true = omega arith
most-one false = omega arith

-- the lists of a pool in whose records the commands of one list have lost the owner
pub lists_of-detached : (links : List ℕ) (ws : List Wanted) (queues : List Queue) (free count list owner : ℕ) → IsLinked links queues free count →
    lists_of links (detached_in owner (chain links (queue_at queues list)) ws) queues
    ≡ set (lists_of links ws queues) list (map (detached owner) (queue_of (lists_of links ws queues) list))
unfolding lists_of
lists_of-detached links ws queues free count list owner h =
    let e = get_or-chains links queues list in
    let few : (k : ℕ) → times_in_all k (chains links queues) ≤ 1 = λ k.
    let o = h.once k in let m = most-one (nat_lt k (length links)) in omega arith in
    ap (λ c. lists_of links (detached_in owner c ws) queues) (sym e)
    ∙ (one-of-lists owner ws (chains links queues) list few
    ∙ ap (λ vs. set (lists_of links ws queues) list (map (detached owner) vs)) (ap (map (command_at ws)) e ∙ sym (queue_of-lists_of links ws queues list)))

-- a list's place that is passed: the command in its record has lost the owner, and the links stay
pub record PassesPlace (linked : List ℕ) (owner next left more : ℕ) (before after : List Record) (place most : ℕ) : Type 0 where
  pub links : links_of after ≡ links_of before
  pub commands : detached_in owner (places linked next more) (commands_of after) ≡ detached_in owner (places linked place left) (commands_of before)
  pub within : ((k : ℕ) → 0 < times k (places linked place left) → k < most) → (k : ℕ) → 0 < times k (places linked next more) → k < most

pub passes_place : (owner place i end most : ℕ) (links : List ℕ) (rs : List Record) (x : Record) (w : Wanted) →
    i < end → links_of rs ≡ links → place < length rs → x ≡ get_or rs place x → w ≡ detached owner x.wanted →
    PassesPlace links owner (get_or links place 0) (end - i) (end - (i + 1)) rs (set rs place (record { wanted = w; next = x.next })) place most
unfolding detached_in places
passes_place owner place i end most links rs x w lt same there read is =
    let left : end - i ≡ suc (end - (i + 1)) = omega arith in
    let next = get_or links place 0 in
    let more = end - (i + 1) in
    let here : w ≡ detached owner (command_at (commands_of rs) place) = is ∙ ap (detached owner) (command_read rs place x there read) in
    record {
      links = links_of-filled rs place (record { wanted = w; next = x.next }) (link_read rs place x there read);
      commands = rw (left, commands_of-set rs place (record { wanted = w; next = x.next }), here) refl;
      within = λ within k some. within k (let h = (counted k place (places links next more)).least in rw left (omega arith));
    }

-- the places of one list are among those of all
pub in_one : (links : List ℕ) (queues : List Queue) (i k : ℕ) → 0 < times k (chain links (queue_at queues i)) →
    0 < times_in_all k (chains links queues)
in_one links queues i k h =
    let there : 0 < times k (get_or (chains links queues) i []) = rw (get_or-chains links queues i) h in
    let le = times_in_all-get k (chains links queues) i in
    omega arith

-- the place that is passed next is a record's
pub first_within : (links : List ℕ) (place i end most : ℕ) → i < end →
    ((k : ℕ) → 0 < times k (places links place (end - i)) → k < most) → place < most
unfolding places
first_within links place i end most lt within =
    let left : end - i ≡ suc (end - (i + 1)) = omega arith in
    within place (rw left (rw (times_first place place (places links (get_or links place 0) (end - (i + 1))) refl) (omega arith)))

-- where no place is left, all are passed
pub none_left : (owner : ℕ) (links : List ℕ) (place i end : ℕ) (ws : List Wanted) → end ≤ i →
    detached_in owner (places links place (end - i)) ws ≡ ws
unfolding detached_in places
none_left owner links place i end ws le = let z : end - i ≡ 0 = omega arith in rw z refl
