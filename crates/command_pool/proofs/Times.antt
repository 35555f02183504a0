-- How often a place stands in lists of places.
-- for: add, copy_from, detach and others
use Rattle.std.proofs.Common.{◌≡◌, refl, sym, ap, ◌∙◌, ℕ, zero, suc, ◌+◌, ◌*◌, ◌<◌, ◌≤◌, inl, inr, List, [], ◌∷◌, ◌++◌, length, get_or, set, arith}
use Rattle.std.specs.Prelude.{nat_lt, if◌then◌else◌}
use Rattle.std.proofs.lemmas.Bool.{eq-eqb, ne_eqb, cases_eq, cases_lt, lt-ltb, le-ltb}
use Rattle.command_pool.specs.Layout.{times, times_in_all, count_in_all, end_of}

-- the first of some places counts where it is the one
pub times_first : (k p : ℕ) (ps : List ℕ) → k ≡ p → times k (p ∷ ps) ≡ suc (times k ps)
unfolding times
times_first k p ps e = rw (eq-eqb k p e) (omega arith)

-- and not where it is another
pub times_other : (k p : ℕ) (ps : List ℕ) → (k ≡ p → ⊥) → times k (p ∷ ps) ≡ times k ps
unfolding times
times_other k p ps ne = rw (ne_eqb k p ne) (omega arith)

-- the first counts once or not at all
pub record IsCounted (k p : ℕ) (ps : List ℕ) : Type 0 where
  pub least : times k ps ≤ times k (p ∷ ps)
  pub most : times k (p ∷ ps) ≤ suc (times k ps)
  pub same : k ≡ p → times k (p ∷ ps) ≡ suc (times k ps)
  pub other : times k (p ∷ ps) ≡ times k ps → k ≡ p → ⊥

pub counted : (k p : ℕ) (ps : List ℕ) → IsCounted k p ps
counted k p ps =
    elim (cases_eq k p) [
      | inl e ↦ let h = times_first k p ps e in record { least = omega arith; most = omega arith; same = λ _. h; other = λ s _. omega arith }
      | inr ne ↦ let h = times_other k p ps ne in record { least = omega arith; most = omega arith; same = λ e. absurd (ne e); other = λ _. ne }
    ]

-- a place that isn't there is no first one
pub not_first : (k p : ℕ) (ps : List ℕ) → times k (p ∷ ps) ≡ 0 → p ≡ k → ⊥
not_first k p ps h e = let s = (counted k p ps).same (sym e) in omega arith

-- nor one of the others
pub not_later : (k p : ℕ) (ps : List ℕ) → times k (p ∷ ps) ≡ 0 → times k ps ≡ 0
not_later k p ps h = let s = (counted k p ps).least in omega arith

pub times-append : (k : ℕ) (ps qs : List ℕ) → times k (ps ++ qs) ≡ times k ps + times k qs
unfolding times
times-append k [] qs = omega arith
times-append k (p ∷ ps) qs = omega (arith, times-append k ps qs)

-- the last place is there
pub times_end : (p : ℕ) (ps : List ℕ) → 1 ≤ times (end_of ps p) (p ∷ ps)
unfolding end_of
times_end p [] = let h = times_first p p [] refl in omega arith
times_end p (q ∷ ps) = let h = times_end q ps in let s = (counted (end_of ps q) p (q ∷ ps)).least in omega arith

-- the place that was put last is the last one
pub end_of-push : (ps : List ℕ) (p place : ℕ) → end_of (ps ++ p ∷ []) place ≡ p
unfolding end_of
end_of-push [] p place = refl
end_of-push (q ∷ ps) p place = end_of-push ps p q

-- without the first place the last one stays
pub end_of-rest : (p : ℕ) (ps : List ℕ) (last : ℕ) → end_of (p ∷ ps) last ≡ last → end_of ps last ≡ last
unfolding end_of
end_of-rest p [] last h = refl
end_of-rest p (q ∷ ps) last h = h

-- a list of places is one of them all
pub times_in_all-get : (k : ℕ) (cs : List (List ℕ)) (i : ℕ) → times k (get_or cs i []) ≤ times_in_all k cs
unfolding times times_in_all
times_in_all-get k [] i = omega arith
times_in_all-get k (c ∷ cs) zero = omega arith
times_in_all-get k (c ∷ cs) (suc i) = omega (arith, times_in_all-get k cs i)

-- another list of places in the place of one
pub times_in_all-set : (k : ℕ) (cs : List (List ℕ)) (i : ℕ) (c : List ℕ) → i < length cs →
    times_in_all k (set cs i c) + times k (get_or cs i []) ≡ times_in_all k cs + times k c
unfolding times_in_all
times_in_all-set k [] i c lt = absurd (omega arith)
times_in_all-set k (d ∷ cs) zero c lt = omega arith
times_in_all-set k (d ∷ cs) (suc i) c lt = let h = times_in_all-set k cs i c (omega arith) in omega arith

pub count_in_all-set : (cs : List (List ℕ)) (i : ℕ) (c : List ℕ) → i < length cs →
    count_in_all (set cs i c) + length (get_or cs i []) ≡ count_in_all cs + length c
unfolding count_in_all
count_in_all-set [] i c lt = absurd (omega arith)
count_in_all-set (d ∷ cs) zero c lt = omega arith
count_in_all-set (d ∷ cs) (suc i) c lt = let h = count_in_all-set cs i c (omega arith) in omega arith

-- lists of at most eight
pub count_in_all-le : (cs : List (List ℕ)) → ((j : ℕ) → length (get_or cs j []) ≤ 8) → count_in_all cs ≤ 8 * length cs
unfolding count_in_all
count_in_all-le [] few = omega arith
count_in_all-le (c ∷ cs) few = let h = count_in_all-le cs (λ j. few (suc j)) in let f = few 0 in omega arith

-- of which one has fewer
pub count_in_all-lt : (cs : List (List ℕ)) (i : ℕ) → ((j : ℕ) → length (get_or cs j []) ≤ 8) → i < length cs →
    length (get_or cs i []) < 8 → count_in_all cs < 8 * length cs
unfolding count_in_all
count_in_all-lt [] i few lt room = absurd (omega arith)
count_in_all-lt (c ∷ cs) zero few lt room = let h = count_in_all-le cs (λ j. few (suc j)) in omega arith
count_in_all-lt (c ∷ cs) (suc i) few lt room =
    let h = count_in_all-lt cs i (λ j. few (suc j)) (omega arith) room in let f = few 0 in omega arith

-- a place that counts is one of the array's, and counts once
pub record IsOnce (k n x : ℕ) : Type 0 where
  pub below : k < n
  pub one : x ≡ 1

pub once : (k n x : ℕ) → x ≡ (if nat_lt k n then 1 else 0) → 1 ≤ x → IsOnce k n x
once k n x e some =
    elim (cases_lt k n) [
      | inl lt ↦ record { below = lt; one = e ∙ ap (λ b. if b then 1 else 0) (lt-ltb k n lt) }
      | inr le ↦ let z : x ≡ 0 = e ∙ ap (λ b. if b then 1 else 0) (le-ltb k n le) in absurd (omega arith)
    ]
