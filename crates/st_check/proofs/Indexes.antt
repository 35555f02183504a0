-- An index after a name was given a value, and what it then has of the names in a list.
-- for: check_text
use Rattle.std.proofs.Common.{◌≡◌, ℕ, Bool, true, false, Option, Some, None, List, [], ◌∷◌, ◌++◌, Vec, Global, refl, sym, ap, ◌∙◌, subst, inl, inr}
use Rattle.std.specs.Prelude.{cond, is_some, ◌||◌}
use Rattle.std.specs.BTreeMap.{insert_entry, is_at}
use Rattle.std.specs.Cmp.Lexicographic.{slice_cmp}
use Rattle.std.specs.List.{list_any}
use Rattle.std.specs.Map.{lookup}
use Rattle.std.specs.Ordering.{match_ordering, nat_cmp}
use Rattle.std.specs.Str.{bytes_eq}
use Rattle.std.specs.declared.cmp.Ordering.{Ordering}
use Rattle.std.specs.declared.cmp.Ordering.TheVariants.{Less, Equal, Greater}
use Rattle.std.proofs.lemmas.Bool.{cases_Bool}
use Rattle.std.proofs.lemmas.Map.Lookups.{exact_bytes}
use Rattle.std.proofs.lemmas.Map.Text.{is_eq-slice_cmp}
use Rattle.std.proofs.lemmas.Slice.Eq.{bytes_eq-Decides}
use Rattle.st_check.specs.Names.{sort_among}
use Rattle.st_check.specs.declared.known.Known.{Known}
use Rattle.st_check.specs.declared.known.Sort.{Sort}

abbrev pub Key : Type 0
Key = Vec ℕ Global

-- whether a key is this name
abbrev pub at : List ℕ → Key → Bool
at q = is_at (λ (k : Key). slice_cmp nat_cmp q k.items)

-- the order of keys
abbrev pub order : Key → Key → Ordering
order x y = slice_cmp nat_cmp x.items y.items

-- what a name has after an entry was put before others, in place of one, or after one
put : {X : Type 0} (q : List ℕ) (k : Key) (v : X) (e : Key × X) (es more : List (Key × X)) (o : Ordering) → order k e.0 ≡ o →
    lookup (at q) more ≡ cond (bytes_eq q k.items) (Some v) (lookup (at q) es) →
    lookup (at q) (match_ordering o ((k, v) ∷ e ∷ es) ((e.0, v) ∷ es) (e ∷ more)) ≡ cond (bytes_eq q k.items) (Some v) (lookup (at q) (e ∷ es))
put q k v e es more Less h later = rw (is_eq-slice_cmp q k.items) refl
put q k v e es more Equal h later =
    let same : e.0.items ≡ k.items = sym (exact_bytes k.items e.0.items h) in
    elim (cases_Bool (bytes_eq q k.items)) [
      | inl here ↦ rw (is_eq-slice_cmp q e.0.items, same, here) refl
      | inr other ↦ rw (is_eq-slice_cmp q e.0.items, same, other) refl
    ]
put q k v e es more Greater h later =
    elim (cases_Bool (bytes_eq q k.items)) [
      | inl here ↦
          let same : q ≡ k.items = (bytes_eq-Decides q k.items).0 here in
          let apart : slice_cmp nat_cmp q e.0.items ≡ Greater = ap (λ l. slice_cmp nat_cmp l e.0.items) same ∙ h in
          rw (apart, later, here) refl
      | inr other ↦ rw (later, other) refl
    ]

pub found_after : {X : Type 0} (q : List ℕ) (k : Key) (v : X) (es : List (Key × X)) →
    lookup (at q) (insert_entry order es k v) ≡ cond (bytes_eq q k.items) (Some v) (lookup (at q) es)
found_after q k v [] = rw (is_eq-slice_cmp q k.items) refl
found_after q k v (e ∷ es) = put q k v e es (insert_entry order es k v) (order k e.0) refl (found_after q k v es)

-- one name more is among those in a list
pub any_more : (q n : List ℕ) (names : List (List ℕ)) → list_any (λ m. bytes_eq m q) (names ++ n ∷ []) ≡ (bytes_eq n q || list_any (λ m. bytes_eq m q) names)
any_more q n [] = refl
any_more q n (m ∷ names) =
    elim (cases_Bool (bytes_eq m q)) [
      | inl here ↦ elim (cases_Bool (bytes_eq n q)) [ inl b ↦ rw (here, b) refl | inr b ↦ rw (here, b) refl ]
      | inr other ↦ rw other (any_more q n names)
    ]

-- what names name, and one more
pub sort_more : (q : List ℕ) (names : List Known) (k : Known) → sort_among (names ++ k ∷ []) q ≡ cond (is_some (sort_among names q)) (sort_among names q) (cond (bytes_eq k.name q) (Some k.sort) None)
sort_more q [] k = refl
sort_more q (n ∷ names) k =
    elim (cases_Bool (bytes_eq n.name q)) [
      | inl here ↦ rw here refl
      | inr other ↦ rw other (sort_more q names k)
    ]

-- a name names something exactly where it is one of them
pub some_among : (q : List ℕ) (names : List Known) → is_some (sort_among names q) ≡ list_any (λ (k : Known). bytes_eq k.name q) names
some_among q [] = refl
some_among q (n ∷ names) =
    elim (cases_Bool (bytes_eq n.name q)) [
      | inl here ↦ rw here refl
      | inr other ↦ rw other (some_among q names)
    ]

bytes_back : (a b : List ℕ) → bytes_eq a b ≡ bytes_eq b a
bytes_back a b =
    elim (cases_Bool (bytes_eq a b)) [
      | inl here ↦ rw here (sym ((bytes_eq-Decides b a).1 (sym ((bytes_eq-Decides a b).0 here))))
      | inr other ↦
          elim (cases_Bool (bytes_eq b a)) [
            | inl here ↦ let clash = (bytes_eq-Decides a b).1 (sym ((bytes_eq-Decides b a).0 here)) in absurd (cc)
            | inr too ↦ rw (other, too) refl
          ]
    ]

some_or : (b : Bool) (o : Option (Unit {0})) → is_some (cond b (Some tt) o) ≡ (b || is_some o)
some_or true o = refl
some_or false o = refl

-- a name more is used
pub used_put : (names : List (List ℕ)) (n q : List ℕ) (before after : Option (Unit {0})) → is_some before ≡ list_any (λ m. bytes_eq m q) names →
    after ≡ cond (bytes_eq q n) (Some tt) before → is_some after ≡ list_any (λ m. bytes_eq m q) (names ++ n ∷ [])
used_put names n q before after held put =
    ap is_some put ∙ some_or (bytes_eq q n) before ∙ rw (held, bytes_back q n) (sym (any_more q n names))

some_kept : (s t : Option Sort) → (is_some s ≡ false → t ≡ None) → s ≡ cond (is_some s) s t
some_kept None t h = sym (h refl)
some_kept (Some x) t h = refl

-- a name more is known, which named nothing
pub known_put : (names : List Known) (k : Known) (q : List ℕ) (before after : Option Sort) → before ≡ sort_among names q → sort_among names k.name ≡ None →
    after ≡ cond (bytes_eq q k.name) (Some k.sort) before → after ≡ sort_among (names ++ k ∷ []) q
known_put names k q before after held absent put =
    elim (cases_Bool (bytes_eq q k.name)) [
      | inl here ↦
          let none : sort_among names q ≡ None = ap (sort_among names) ((bytes_eq-Decides q k.name).0 here) ∙ absent in
          let back : bytes_eq k.name q ≡ true = bytes_back k.name q ∙ here in
          rw (put, here, sort_more q names k, none, back) refl
      | inr other ↦
          let apart : bytes_eq k.name q ≡ false = bytes_back k.name q ∙ other in
          rw (put, other, sort_more q names k, apart, held) (some_kept (sort_among names q) None (λ h. refl))
    ]

-- one that named something before names that still
pub known_kept : (names : List Known) (k : Known) (q : List ℕ) (before : Option Sort) → before ≡ sort_among names q → is_some (sort_among names k.name) ≡ true →
    before ≡ sort_among (names ++ k ∷ []) q
known_kept names k q before held there =
    rw (held, sort_more q names k)
    (some_kept (sort_among names q) (cond (bytes_eq k.name q) (Some k.sort) None)
    (λ h. elim (cases_Bool (bytes_eq k.name q)) [
      | inl here ↦
          let same : is_some (sort_among names q) ≡ true = subst (λ l. is_some (sort_among names l) ≡ true) ((bytes_eq-Decides k.name q).0 here) there in absurd (cc)
      | inr other ↦ rw other refl
    ]))

pub none_of : (o : Option Sort) → is_some o ≡ false → o ≡ None
none_of None h = refl
none_of (Some x) h = absurd (cc)
