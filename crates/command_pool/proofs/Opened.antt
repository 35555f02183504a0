-- A pool that is opened: each record is free, and linked to the one after it in the array.
-- for: free_records, reserved
use Rattle.std.proofs.Common.{◌≡◌, refl, sym, ap, ◌∙◌, ℕ, zero, suc, ◌+◌, ◌*◌, ◌<◌, ◌≤◌, List, [], ◌∷◌, ◌++◌, length, get_or, replicate, arith, inl, inr}
use Rattle.std.specs.Prelude.{nat_lt, if◌then◌else◌}
use Rattle.std.proofs.lemmas.Bool.{cases_eq, lt-ltb, le-ltb}
use Rattle.std.proofs.lemmas.List.{length-replicate}
use Rattle.command_pool.specs.Layout.{places, chain, chains, times, times_in_all, count_in_all, end_of, queue_at, empty, rising}
use Rattle.command_pool.specs.Kept.{IsLinked}
use Rattle.command_pool.proofs.Times.{times_first, times_other}

pub length-rising : (place n : ℕ) → length (rising place n) ≡ n
unfolding rising
length-rising place zero = refl
length-rising place (suc n) = ap suc (length-rising (suc place) n)

pub rising-more : (place n : ℕ) → rising place n ++ (place + n) ∷ [] ≡ rising place (suc n)
unfolding rising
rising-more place zero = let e : place + 0 ≡ place = omega arith in rw e refl
rising-more place (suc n) =
    let e : place + suc n ≡ suc place + n = omega arith in
    rw e (ap (λ (ps : List ℕ). place ∷ ps) (rising-more (suc place) n))

pub rising-pushed : (n : ℕ) → rising 1 n ++ (n + 1) ∷ [] ≡ rising 1 (n + 1)
rising-pushed n =
    let e : n + 1 ≡ 1 + n = omega arith in
    let s : suc n ≡ n + 1 = omega arith in
    ap (λ k. rising 1 n ++ k ∷ []) e ∙ (rising-more 1 n ∙ ap (rising 1) s)

get_or-rising : (place n i : ℕ) → i < n → get_or (rising place n) i 0 ≡ place + i
unfolding rising
get_or-rising place zero i lt = absurd (omega arith)
get_or-rising place (suc n) zero lt = omega arith
get_or-rising place (suc n) (suc i) lt = get_or-rising (suc place) n i (omega arith) ∙ (omega arith)

-- the records from a place on stand in the array's order
places-rising : (all place n : ℕ) → place + n ≤ all → places (rising 1 all) place n ≡ rising place n
unfolding places rising
places-rising all place zero le = refl
places-rising all place (suc n) le =
    let next : get_or (rising 1 all) place 0 ≡ suc place = get_or-rising 1 all place (omega arith) ∙ (omega arith) in
    rw next (ap (λ (ps : List ℕ). place ∷ ps) (places-rising all (suc place) n (omega arith)))

none : (k : ℕ) → times k [] ≡ 0
unfolding times
none k = refl

-- no place below stands there
times-below : (k place n : ℕ) → k < place → times k (rising place n) ≡ 0
unfolding rising
times-below k place zero lt = none k
times-below k place (suc n) lt = times_other k place (rising (suc place) n) (λ e. omega arith) ∙ times-below k (suc place) n (omega arith)

-- each stands there once
times-rising : (k place n : ℕ) → place ≤ k → times k (rising place n) ≡ (if nat_lt k (place + n) then 1 else 0)
unfolding rising times
times-rising k place zero le = rw (le-ltb k (place + 0) (omega arith)) refl
times-rising k place (suc n) le =
    let s : place + suc n ≡ suc place + n = omega arith in
    rw s
    (elim (cases_eq k place) [
      | inl e ↦
          times_first k place (rising (suc place) n) e ∙ (ap suc (times-below k (suc place) n (omega arith)) ∙ sym (ap (λ b. if b then 1 else 0) (lt-ltb k (suc place + n) (omega arith))))
      | inr ne ↦ times_other k place (rising (suc place) n) ne ∙ times-rising k (suc place) n (omega arith)
    ])

-- the lists are empty
chains-empty : (links : List ℕ) (n : ℕ) → chains links (replicate n empty) ≡ replicate n []
unfolding chains chain places
chains-empty links zero = refl
chains-empty links (suc n) = ap (λ (cs : List (List ℕ)). [] ∷ cs) (chains-empty links n)

times-empty : (k n : ℕ) → times_in_all k (replicate n []) ≡ 0
unfolding times_in_all times
times-empty k zero = refl
times-empty k (suc n) = let h = times-empty k n in omega arith

count-empty : (n : ℕ) → count_in_all (replicate n []) ≡ 0
unfolding count_in_all
count-empty zero = refl
count-empty (suc n) = let h = count-empty n in omega arith

queue_at-empty : (n i : ℕ) → queue_at (replicate n empty) i ≡ empty
unfolding queue_at
queue_at-empty zero i = refl
queue_at-empty (suc n) zero = refl
queue_at-empty (suc n) (suc i) = queue_at-empty n i

end-empty : (links : List ℕ) → end_of (chain links empty) 0 ≡ 0
unfolding chain places end_of
end-empty links = refl

pub IsLinked-opened : (lists room : ℕ) → lists ≤ 255 → room ≡ 8 * lists → IsLinked (rising 1 room) (replicate lists empty) 0 room
IsLinked-opened lists room few e = record {
  few_lists = rw (length-replicate lists empty) few;
  eight_each = rw (length-rising 1 room, length-replicate lists empty) e;
  once = λ k.
      let t = times-rising k 0 room (omega arith) in
      let z : 0 + room ≡ room = omega arith in
      let s : times k (rising 0 room) ≡ (if nat_lt k room then 1 else 0) = rw z at t in
      rw (places-rising room 0 room (omega arith), chains-empty (rising 1 room) lists, times-empty k lists, length-rising 1 room) (omega (arith, s));
  whole = rw (chains-empty (rising 1 room) lists, count-empty lists, length-rising 1 room) (omega arith);
  at_most_eight = λ i. rw (queue_at-empty lists i) (omega arith);
  last = λ i. rw (queue_at-empty lists i) (end-empty (rising 1 room));
}
