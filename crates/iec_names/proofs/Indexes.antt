-- An index after a name was given a value, and what it then has of the names in a list.
-- for: define_globally, define_locally
use Rattle.std.proofs.Common.{◌≡◌, ℕ, Bool, Option, Some, List, [], ◌∷◌, Vec, Global, refl, sym, ap, ◌∙◌, inl, inr}
use Rattle.std.specs.Prelude.{cond}
use Rattle.iec_names.specs.Tables.{sort_among}
use Rattle.iec_names.specs.declared.sort.Known.{Known}
use Rattle.iec_names.specs.declared.sort.Sort.{Sort}
use Rattle.iec_tokens.specs.Names.{is_same}
use Rattle.std.specs.BTreeMap.{insert_entry, is_at}
use Rattle.std.specs.Cmp.Lexicographic.{slice_cmp}
use Rattle.std.specs.Map.{lookup}
use Rattle.std.specs.Ordering.{match_ordering, nat_cmp}
use Rattle.std.specs.Str.{bytes_eq, str_to_ascii_lowercase}
use Rattle.std.specs.declared.cmp.Ordering.{Ordering}
use Rattle.std.specs.declared.cmp.Ordering.TheVariants.{Less, Equal, Greater}
use Rattle.std.proofs.lemmas.Bool.{cases_Bool}
use Rattle.std.proofs.lemmas.Map.Lookups.{exact_bytes}
use Rattle.std.proofs.lemmas.Map.Text.{is_eq-slice_cmp}
use Rattle.std.proofs.lemmas.Slice.Eq.{bytes_eq-Decides}

abbrev pub Key : Type 0
Key = Vec ℕ Global

-- whether a key is this name
abbrev pub at : List ℕ → Key → Bool
at q = is_at (λ (k : Key). slice_cmp nat_cmp q k.items)

-- the order of keys
abbrev pub order : Key → Key → Ordering
order x y = slice_cmp nat_cmp x.items y.items

-- what a name has after an entry was put before others, in place of one, or after one
put : {X : Type 0} (q : List ℕ) (k : Key) (v : X) (e : Key × X) (es more : List (Key × X)) (o : Ordering) → order k e.0 ≡ o →
    lookup (at q) more ≡ cond (bytes_eq q k.items) (Some v) (lookup (at q) es) →
    lookup (at q) (match_ordering o ((k, v) ∷ e ∷ es) ((e.0, v) ∷ es) (e ∷ more)) ≡ cond (bytes_eq q k.items) (Some v) (lookup (at q) (e ∷ es))
put q k v e es more Less h later = rw (is_eq-slice_cmp q k.items) refl
put q k v e es more Equal h later =
    let same : e.0.items ≡ k.items = sym (exact_bytes k.items e.0.items h) in
    elim (cases_Bool (bytes_eq q k.items)) [
      | inl here ↦ rw (is_eq-slice_cmp q e.0.items, same, here) refl
      | inr other ↦ rw (is_eq-slice_cmp q e.0.items, same, other) refl
    ]
put q k v e es more Greater h later =
    elim (cases_Bool (bytes_eq q k.items)) [
      | inl here ↦
          let same : q ≡ k.items = (bytes_eq-Decides q k.items).0 here in
          let apart : slice_cmp nat_cmp q e.0.items ≡ Greater = ap (λ l. slice_cmp nat_cmp l e.0.items) same ∙ h in
          rw (apart, later, here) refl
      | inr other ↦ rw (later, other) refl
    ]

pub found_after : {X : Type 0} (q : List ℕ) (k : Key) (v : X) (es : List (Key × X)) →
    lookup (at q) (insert_entry order es k v) ≡ cond (bytes_eq q k.items) (Some v) (lookup (at q) es)
found_after q k v [] = rw (is_eq-slice_cmp q k.items) refl
found_after q k v (e ∷ es) = put q k v e es (insert_entry order es k v) (order k e.0) refl (found_after q k v es)

-- a name more names something: the index has what the latest of that name does
pub defined : (q : List ℕ) (k : Known) (known : List Known) (before after : Option Sort) → before ≡ sort_among known q →
    after ≡ cond (bytes_eq (str_to_ascii_lowercase q) (str_to_ascii_lowercase k.name)) (Some k.sort) before →
    after ≡ sort_among (k ∷ known) q
unfolding sort_among is_same
defined q k known before after held put = put ∙ ap (cond (is_same q k.name) (Some k.sort)) held
