-- The entries of tickets, entry by entry.
-- for: cycles_take_the_answers, cycles_end_with_the_tasks
use Rattle.std.proofs.Common.{◌≡◌, ℕ, suc, ◌+◌, ◌<◌, ◌≤◌, List, [], ◌∷◌, ◌++◌, length, Bool, true, false, Some, eq-eqb, eqb-true, refl, sym, ap, ◌∙◌, subst, arith, length-append, append_assoc, append-nil, ◌⊎◌, ⊎_elim}
use Rattle.std.specs.Prelude.{slice_get, ◌||◌, ◌==◌}
use Rattle.std.proofs.lemmas.Bool.{false_from_ne_true, or_cases, or_left, or_right}
use Rattle.motion_history.specs.Entries.{Entry}
use Rattle.motion_plant.specs.Makers.{Logged, Owns, entries_where, is_in, own_entries, with_front}
use Rattle.motion_plant.proofs.Lists.{get_before, get_some, snoc_length, some_is}

pub in_append : (n : ℕ) (xs ys : List ℕ) → is_in n (xs ++ ys) ≡ (is_in n xs || is_in n ys)
in_append n [] ys = refl
in_append n (x ∷ xs) ys = go (x == n) (in_append n xs ys)
  where
    go : (b : Bool) → is_in n (xs ++ ys) ≡ (is_in n xs || is_in n ys) → (b || is_in n (xs ++ ys)) ≡
        ((b || is_in n xs) || is_in n ys)
    go true e = refl
    go false e = e

pub in_parts : (n : ℕ) (xs ys : List ℕ) → is_in n (xs ++ ys) ≡ true → (is_in n xs ≡ true) ⊎
    (is_in n ys ≡ true)
in_parts n xs ys e = or_cases (is_in n xs) (is_in n ys) (sym (in_append n xs ys) ∙ e)

pub in_left : (n : ℕ) (xs ys : List ℕ) → is_in n xs ≡ true → is_in n (xs ++ ys) ≡ true
in_left n xs ys e = in_append n xs ys ∙ or_left (is_in n xs) (is_in n ys) e

pub in_right : (n : ℕ) (xs ys : List ℕ) → is_in n ys ≡ true → is_in n (xs ++ ys) ≡ true
in_right n xs ys e = in_append n xs ys ∙ or_right (is_in n xs) (is_in n ys) e

in_this : (n : ℕ) → is_in n (n ∷ []) ≡ true
in_this n = or_left (n == n) false (eq-eqb n n refl)

in_only : (n m : ℕ) → is_in n (m ∷ []) ≡ true → m ≡ n
in_only n m e = ⊎_elim (λ t. eqb-true m n t) (λ f. absurd (cc)) (or_cases (m == n) false e)

pub in_snoc : (n : ℕ) (own : List ℕ) → is_in n (own ++ n ∷ []) ≡ true
in_snoc n own = in_right n own (n ∷ []) (in_this n)

pub same_true : (b c : Bool) → (b ≡ true → c ≡ true) → (c ≡ true → b ≡ true) → b ≡ c
same_true true c f g = sym (f refl)
same_true false true f g = absurd (off (g refl))
  where
    off : false ≡ true → ⊥
    off e = absurd (cc)
same_true false false f g = refl

front_more : (b : Bool) (x : Logged) (xs ys : List Logged) → with_front b x xs ++ ys ≡
    with_front b x (xs ++ ys)
front_more true x xs ys = refl
front_more false x xs ys = refl

front_false : (b : Bool) (x : Logged) (xs : List Logged) → b ≡ false → with_front b x xs ≡ xs
front_false false x xs e = refl
front_false true x xs e = absurd (cc)

front_true : (b : Bool) (x : Logged) (xs : List Logged) → b ≡ true → with_front b x xs ≡ x ∷ xs
front_true true x xs e = refl
front_true false x xs e = absurd (cc)

pub where_more : (t : ℕ → Entry → Bool) (b xs ys : List Entry) → entries_where t b (xs ++ ys) ≡
    entries_where t b xs ++ entries_where t (b ++ xs) ys
where_more t b [] ys = ap (λ z. entries_where t z ys) (sym (append-nil b))
where_more t b (x ∷ xs) ys =
    let e : Logged = record { before = b; entry = x } in
    let r = where_more t (b ++ x ∷ []) xs ys ∙ ap (λ z. entries_where t (b ++ x ∷ []) xs ++
    entries_where t z ys) (append_assoc b (x ∷ []) xs) in
    ap (with_front (t (length b) x) e) r ∙
    sym (front_more (t (length b) x) e (entries_where t (b ++ x ∷ []) xs)
    (entries_where t (b ++ x ∷ xs) ys))

pub where_same : (t u : ℕ → Entry → Bool) (b xs : List Entry) →
    ((i : ℕ) (e : Entry) → slice_get xs i ≡ Some e → t (length b + i) e ≡ u (length b + i) e) →
    entries_where t b xs ≡ entries_where u b xs
where_same t u b [] same = refl
where_same t u b (x ∷ xs) same =
    let l = snoc_length b x in
    let r = where_same t u (b ++ x ∷ []) xs (λ i e at. let m : length b + suc i ≡
    length (b ++ x ∷ []) + i = omega arith in subst (λ k. t k e ≡ u k e) m (same (suc i) e at))
    in
    let z : length b + 0 ≡ length b = omega arith in
    let h : t (length b) x ≡ u (length b) x = subst (λ k. t k x ≡ u k x) z (same 0 x refl) in
    ap (with_front (t (length b) x) (record { before = b; entry = x })) r
    ∙ ap (λ c. with_front c (record { before = b; entry = x }) (entries_where u (b ++ x ∷ []) xs)) h

pub where_none : (t : ℕ → Entry → Bool) (b xs : List Entry) → ((i : ℕ) (e : Entry) → length b ≤ i →
    t i e ≡ false) → entries_where t b xs ≡ []
where_none t b [] none = refl
where_none t b (x ∷ xs) none =
    let l = snoc_length b x in
    front_false _ _ _ (none (length b) x (omega arith)) ∙ where_none t (b ++ x ∷ []) xs
    (λ i e le. none i e (omega arith))

pub entries_is : (own : List ℕ) (h : List Entry) → own_entries own h ≡ entries_where
    (λ n e. is_in n own) [] h
unfolding own_entries
entries_is own h = refl

not_in : (own : List ℕ) (k : ℕ) → ((n : ℕ) → is_in n own ≡ true → n < k) → (i : ℕ) → k ≤ i →
    is_in i own ≡ false
not_in own k below i le = false_from_ne_true (is_in i own) (λ e. let b = below i e in absurd (omega arith))

-- more entries, none of them own
pub entries_prefix : (own : List ℕ) (xs ys : List Entry) → ((n : ℕ) → is_in n own ≡ true →
    n < length xs) → own_entries own (xs ++ ys) ≡ own_entries own xs
entries_prefix own xs ys below =
    let t : ℕ → Entry → Bool = λ n e. is_in n own in
    entries_is own (xs ++ ys)
    ∙ where_more t [] xs ys
    ∙ ap (λ zs. entries_where t [] xs ++ zs)
    (where_none t xs ys (λ i e le. not_in own (length xs) below i le))
    ∙ append-nil (entries_where t [] xs)
    ∙ sym (entries_is own xs)

-- one entry more, which is own
pub entries_more : (own : List ℕ) (xs : List Entry) (e : Entry) →
    own_entries (own ++ length xs ∷ []) (xs ++ e ∷ []) ≡ own_entries own xs ++ record {
      before = xs;
      entry = e;
    } ∷ []
entries_more own xs e =
    let more : List ℕ = own ++ length xs ∷ [] in
    let t : ℕ → Entry → Bool = λ n e. is_in n more in
    let old = where_same t (λ n e. is_in n own) [] xs (λ i f at. same_true (is_in (0 + i) more)
    (is_in (0 + i) own)
    (λ y. ⊎_elim (λ a. a) (λ a. let o = in_only (0 + i) (length xs) a in
    let l = get_some xs i f at in absurd (omega arith))
    (in_parts (0 + i) own (length xs ∷ []) y))
    (λ y. in_left (0 + i) own (length xs ∷ []) y)) in
    entries_is more (xs ++ e ∷ [])
    ∙ where_more t [] xs (e ∷ [])
    ∙ ap (λ zs. entries_where t [] xs ++ zs) (front_true (is_in (length xs) more)
    (record { before = xs; entry = e }) [] (in_snoc (length xs) own))
    ∙ ap (λ zs. zs ++ record { before = xs; entry = e } ∷ []) (old ∙ sym (entries_is own xs))

get_here : (xs : List Entry) (e : Entry) → slice_get (xs ++ e ∷ []) (length xs) ≡ Some e
get_here [] e = refl
get_here (x ∷ xs) e = get_here xs e

module _ (P : Entry → Type 0) where
  pub owns_prefix : (own : List ℕ) (xs ys : List Entry) → Owns P own xs → Owns P own (xs ++ ys)
  owns_prefix own xs ys o = record {
    below = λ n h. let b = o.below n h in let l = length-append xs ys in omega arith;
    each = λ n e h at. o.each n e h (sym (get_before xs ys n (o.below n h)) ∙ at);
  }

  pub owns_snoc : (own : List ℕ) (xs : List Entry) (e : Entry) → Owns P own xs → P e →
      Owns P (own ++ length xs ∷ []) (xs ++ e ∷ [])
  owns_snoc own xs e o p = record {
    below = λ n h. let l = length-append xs (e ∷ []) in ⊎_elim (λ a. let b = o.below n a in
        omega arith) (λ a. let b = in_only n (length xs) a in omega arith)
        (in_parts n own (length xs ∷ []) h);
    each = λ n f h at. ⊎_elim
        (λ a. o.each n f a (sym (get_before xs (e ∷ []) n (o.below n a)) ∙ at))
        (λ a. subst P (some_is e f (sym (get_here xs e) ∙ ap (λ k. slice_get (xs ++ e ∷ []) k)
        (in_only n (length xs) a) ∙ at)) p)
        (in_parts n own (length xs ∷ []) h);
  }

  pub owns_none : (h : List Entry) → Owns P [] h
  owns_none h = record { below = λ n t. absurd (cc); each = λ n f t at. absurd (cc) }

pub entries_none : (h : List Entry) → own_entries [] h ≡ []
entries_none h = entries_is [] h ∙ where_none (λ n e. false) [] h (λ i e le. refl)
