-- The entries of joined tickets.
-- for: cycles_take_the_answers, cycles_end_with_the_tasks
use Rattle.std.proofs.Common.{◌≡◌, ℕ, suc, ◌+◌, ◌<◌, ◌≤◌, List, [], ◌++◌, length, Bool, true, Some, eq-eqb, eqb-true, refl, sym, ap, ◌∙◌, subst, arith, append-nil, ⊎_elim}
use Rattle.std.specs.Prelude.{slice_get, ◌&&◌, ◌==◌}
use mathlib.Core.List.{IsPrefix}
use Rattle.motion_history.specs.Entries.{Entry}
use Rattle.motion_history.specs.Setup.{Setup}
use Rattle.motion_plant.specs.Makers.{IsBy, IsUpTo, Owns, entries_by, entries_where, is_in, maker_of, own_entries, own_entries_by}
use Rattle.motion_plant.proofs.OwnEntries.{in_parts, in_left, in_right, same_true, where_more, where_same, where_none, entries_is, entries_prefix, owns_prefix}
use Rattle.std.proofs.lemmas.Bool.{and_parts, false_from_ne_true, and_from}
use Rattle.motion_plant.proofs.Lists.{get_some}

entries_by_is : (s : Setup) (k : ℕ) (own : List ℕ) (h : List Entry) → own_entries_by s k own h ≡
    entries_where (λ n e. is_in n own && (maker_of s e == k)) [] h
unfolding own_entries_by
entries_by_is s k own h = refl

pub all_by_is : (s : Setup) (k : ℕ) (h : List Entry) → entries_by s k h ≡ entries_where
    (λ n e. maker_of s e == k) [] h
unfolding entries_by
all_by_is s k h = refl

-- the same test at each place
where_at : (t u : ℕ → Entry → Bool) (h : List Entry) → ((i : ℕ) (e : Entry) → slice_get h i ≡
    Some e → t i e ≡ u i e) → entries_where t [] h ≡ entries_where u [] h
where_at t u h same = where_same t u [] h (λ i e at. let z : i ≡ 0 + i = omega arith in
    subst (λ k. t k e ≡ u k e) z (same i e at))

entries_by_prefix : (s : Setup) (k : ℕ) (own : List ℕ) (xs ys : List Entry) →
    ((n : ℕ) → is_in n own ≡ true → n < length xs) → own_entries_by s k own (xs ++ ys) ≡
    own_entries_by s k own xs
entries_by_prefix s k own xs ys below =
    let t : ℕ → Entry → Bool = λ n e. is_in n own && (maker_of s e == k) in
    entries_by_is s k own (xs ++ ys)
    ∙ where_more t [] xs ys
    ∙ ap (λ zs. entries_where t [] xs ++ zs)
    (where_none t xs ys (λ i e le. false_from_ne_true (t i e) (λ y. let b = below i (and_parts _ _ y).0 in
    absurd (omega arith))))
    ∙ append-nil (entries_where t [] xs)
    ∙ sym (entries_by_is s k own xs)

module _ (s : Setup) (k : ℕ) (own other : List ℕ) (seen theirs all : List Entry)
    (begins : IsPrefix seen all) (begins_other : IsPrefix theirs all)
    (a : Owns (IsUpTo s k) own seen) (b : Owns (IsBy s k) other theirs) where
  a' : Owns (IsUpTo s k) own all
  a' = subst (λ h. Owns (IsUpTo s k) own h) begins.1 (owns_prefix (IsUpTo s k) own seen begins.0 a)

  b' : Owns (IsBy s k) other all
  b' = subst (λ h. Owns (IsBy s k) other h) begins_other.1
      (owns_prefix (IsBy s k) other theirs begins_other.0 b)

  pub joined_owns : Owns (IsUpTo s (suc k)) (own ++ other) all
  joined_owns = record {
    below = λ n h. ⊎_elim (λ x. a'.below n x) (λ y. b'.below n y) (in_parts n own other h);
    each = λ n e h at. ⊎_elim
        (λ x. let p = a'.each n e x at in omega arith)
        (λ y. let p = b'.each n e y at in omega arith)
        (in_parts n own other h);
  }

  pub joined_old : (m : ℕ) → m ≤ k → own_entries_by s m (own ++ other) all ≡
      own_entries_by s m own seen
  joined_old m le =
      let same : (i : ℕ) (e : Entry) → slice_get all i ≡ Some e →
      (is_in i (own ++ other) && (maker_of s e == m)) ≡ (is_in i own && (maker_of s e == m)) =
      λ i e at.
      same_true (is_in i (own ++ other) && (maker_of s e == m)) (is_in i own && (maker_of s e == m))
      (λ x. let p = and_parts _ _ x in
      and_from _ _ (⊎_elim (λ z. z) (λ z. let w = b'.each i e z at in
      let q = eqb-true (maker_of s e) m p.1 in absurd (omega arith)) (in_parts i own other p.0))
      p.1)
      (λ x. let p = and_parts _ _ x in and_from _ _ (in_left i own other p.0) p.1) in
      entries_by_is s m (own ++ other) all
      ∙ where_at _ _ all same
      ∙ sym (entries_by_is s m own all)
      ∙ ap (own_entries_by s m own) (sym begins.1)
      ∙ entries_by_prefix s m own seen begins.0 a.below

  pub joined_new : own_entries_by s (suc k) (own ++ other) all ≡ own_entries other theirs
  joined_new =
      let same : (i : ℕ) (e : Entry) → slice_get all i ≡ Some e →
      (is_in i (own ++ other) && (maker_of s e == suc k)) ≡ is_in i other = λ i e at.
      same_true (is_in i (own ++ other) && (maker_of s e == suc k)) (is_in i other)
      (λ x. let p = and_parts _ _ x in ⊎_elim (λ z. let w = a'.each i e z at in
      let q = eqb-true (maker_of s e) (suc k) p.1 in absurd (omega arith)) (λ z. z)
      (in_parts i own other p.0))
      (λ z. and_from _ _ (in_right i own other z) (eq-eqb (maker_of s e) (suc k)
      (b'.each i e z at))) in
      entries_by_is s (suc k) (own ++ other) all
      ∙ where_at _ _ all same
      ∙ sym (entries_is other all)
      ∙ ap (own_entries other) (sym begins_other.1)
      ∙ entries_prefix other theirs begins_other.0 b.below

-- before any is joined, all own entries are cycles
pub cycles_first : (s : Setup) (own : List ℕ) (seen : List Entry) → Owns (IsUpTo s 0) own seen →
    own_entries_by s 0 own seen ≡ own_entries own seen
cycles_first s own seen o =
    entries_by_is s 0 own seen
    ∙ where_at _ _ seen (λ i e at. same_true (is_in i own && (maker_of s e == 0)) (is_in i own)
    (λ x. (and_parts _ _ x).0)
    (λ x. let p = o.each i e x at in let z : maker_of s e ≡ 0 = omega arith in
    and_from _ _ x (eq-eqb (maker_of s e) 0 z)))
    ∙ sym (entries_is own seen)

-- at the close, all entries are own
pub all_own : (s : Setup) (k : ℕ) (own : List ℕ) (seen h : List Entry) →
    ((n : ℕ) → is_in n own ≡ true → n < length seen) → IsPrefix seen h →
    ((n : ℕ) → n < length h → is_in n own ≡ true) → entries_by s k h ≡ own_entries_by s k own seen
all_own s k own seen h below pre all =
    all_by_is s k h
    ∙ sym (where_at _ _ h (λ i e at. same_true (is_in i own && (maker_of s e == k))
    (maker_of s e == k)
    (λ x. (and_parts _ _ x).1)
    (λ y. and_from _ _ (all i (get_some h i e at)) y)))
    ∙ sym (entries_by_is s k own h)
    ∙ ap (own_entries_by s k own) (sym pre.1)
    ∙ entries_by_prefix s k own seen pre.0 below
