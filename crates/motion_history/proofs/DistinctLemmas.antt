-- Lists without two equal elements, and lists of names, with one more.
-- for: configurations_are_sound, room_left
use Rattle.std.specs.Prelude.{◌≡◌, refl, ℕ, Bool, true, false, ◌||◌, not, nat_eq, List, [], ◌∷◌, ◌++◌}
use Rattle.std.specs.List.{AllByRecursion, IsDistinct, flat_map, list_all, list_any}
use Rattle.std.specs.Bool.{Decides}
use Rattle.std.specs.Str.{bytes_eq}
use Rattle.std.proofs.Common.{◌∙◌, sym, ap}
use Rattle.std.proofs.lemmas.Bool.{and_from, and_parts, not-true, or_parts}
use Rattle.std.proofs.lemmas.Bool.Decides.{Decides-eqb, same_from_decides}
use Rattle.std.proofs.lemmas.List.Folds.{list_all-append, list_any-append}
use Rattle.std.proofs.lemmas.Map.Keys.{IsDistinct-cons, IsDistinct-head, IsDistinct-tail}
use Rattle.std.proofs.lemmas.Slice.Eq.{bytes_eq-Decides}
use Rattle.plc_types.specs.Names.{is_name}
use Rattle.motion_history.specs.declared.config.GroupDef.{GroupDef}
use Rattle.motion_history.specs.Faults.{is_member, are_distinct}
use Rattle.motion_history.specs.Members.{members_of}
use Rattle.motion_history.specs.Setup.{AreNames}

-- a test of equality is the same from both sides
abbrev pub IsSymmetric : {X : Type 0} → (X → X → Bool) → Type 0
IsSymmetric {X} e = (x y : X) → e x y ≡ e y x

same_both_ways : {X : Type 0} (e : X → X → Bool) → ((x y : X) → Decides (e x y) (x ≡ y)) → IsSymmetric e
same_both_ways e d x y = same_from_decides (e x y) (e y x) (d x y) ((λ h. sym ((d y x).0 h)), (λ h. (d y x).1 (sym h)))

bytes_eq-symmetric : IsSymmetric bytes_eq
bytes_eq-symmetric = same_both_ways bytes_eq bytes_eq-Decides

nat_eq-symmetric : IsSymmetric nat_eq
nat_eq-symmetric = same_both_ways nat_eq Decides-eqb

-- ---- facts of each element

pub each-append : {X : Type 0} (P : X → Type 0) (xs ys : List X) → AllByRecursion P xs → AllByRecursion P ys → AllByRecursion P (xs ++ ys)
each-append P [] ys h k = k
each-append P (x ∷ xs) ys h k = (h.0, each-append P xs ys h.1 k)

pub each-weaker : {X : Type 0} (P Q : X → Type 0) → ((x : X) → P x → Q x) → (xs : List X) → AllByRecursion P xs → AllByRecursion Q xs
each-weaker P Q w [] h = tt
each-weaker P Q w (x ∷ xs) h = (w x h.0, each-weaker P Q w xs h.1)

each-insert : {X : Type 0} (P : X → Type 0) (xs ys : List X) (x : X) → AllByRecursion P (xs ++ ys) → P x → AllByRecursion P (xs ++ x ∷ ys)
each-insert P [] ys x h here = (here, h)
each-insert P (y ∷ xs) ys x h here = (h.0, each-insert P xs ys x h.1 here)

-- what each element passes, as facts
pub each-from_list_all : {X : Type 0} (p : X → Bool) (xs : List X) → list_all p xs ≡ true → AllByRecursion (λ x. p x ≡ true) xs
each-from_list_all p [] h = tt
each-from_list_all p (x ∷ xs) h = let parts = and_parts (p x) (list_all p xs) h in (parts.0, each-from_list_all p xs parts.1)

-- what no element passes, as facts
pub none-from_list_any : {X : Type 0} (p : X → Bool) (xs : List X) → list_any p xs ≡ false → AllByRecursion (λ x. p x ≡ false) xs
none-from_list_any p [] h = tt
none-from_list_any p (x ∷ xs) h = let parts = or_parts (p x) (list_any p xs) h in (parts.0, none-from_list_any p xs parts.1)

-- ---- lists without two equal elements

-- an element that differs from all others is inserted
insert-distinct : {X : Type 0} (e : X → X → Bool) → IsSymmetric e → (xs ys : List X) (x : X) → IsDistinct e (xs ++ ys) →
    AllByRecursion (λ y. e y x ≡ false) (xs ++ ys) → IsDistinct e (xs ++ x ∷ ys)
insert-distinct e flips [] ys x h apart =
    IsDistinct-cons e x ys (each-weaker _ _ (λ y n. flips x y ∙ n) ys apart) h
insert-distinct e flips (z ∷ xs) ys x h apart =
    IsDistinct-cons e z (xs ++ x ∷ ys) (each-insert (λ y. e z y ≡ false) xs ys x (IsDistinct-head e z (xs ++ ys) h) apart.0)
    (insert-distinct e flips xs ys x (IsDistinct-tail e z (xs ++ ys) h) apart.1)

-- elements that differ from each other and from all before them are appended
append-distinct : {X : Type 0} (e : X → X → Bool) → IsSymmetric e → (xs ys : List X) → IsDistinct e xs → IsDistinct e ys →
    AllByRecursion (λ y. list_any (e y) xs ≡ false) ys → IsDistinct e (xs ++ ys)
append-distinct e flips [] ys h k apart = k
append-distinct e flips (x ∷ xs) ys h k apart =
    IsDistinct-cons e x (xs ++ ys)
    (each-append _ xs ys (IsDistinct-head e x xs h) (each-weaker _ _ (λ y n. flips x y ∙ (or_parts (e y x) (list_any (e y) xs) n).0) ys apart))
    (append-distinct e flips xs ys (IsDistinct-tail e x xs h) k (each-weaker _ _ (λ y n. (or_parts (e y x) (list_any (e y) xs) n).1) ys apart))

-- the test recognises a list without two equal numbers
are_distinct-true : (ns : List ℕ) → are_distinct ns ≡ true → IsDistinct nat_eq ns
unfolding IsDistinct
are_distinct-true [] h = tt
are_distinct-true (n ∷ more) h =
    let parts = and_parts (not (list_any (nat_eq n) more)) (are_distinct more) h in
    (none-from_list_any (nat_eq n) more (not-true _ parts.0), are_distinct-true more parts.1)

-- ---- members of groups

-- an axis is in a group where it is among the members of all groups
is_member-flat_map : (groups : List GroupDef) (axis : ℕ) → is_member groups axis ≡ list_any (nat_eq axis) (flat_map members_of groups)
is_member-flat_map [] axis = refl
is_member-flat_map (d ∷ groups) axis =
    ap (λ b. list_any (nat_eq axis) (members_of d) || b) (is_member-flat_map groups axis) ∙
    sym (list_any-append (nat_eq axis) (members_of d) (flat_map members_of groups))

-- axes that differ and are in no group are apart from those that are
pub apart-more : (groups : List GroupDef) (new : List ℕ) → IsDistinct nat_eq (flat_map members_of groups) → are_distinct new ≡ true →
    AllByRecursion (λ axis. is_member groups axis ≡ false) new → IsDistinct nat_eq (flat_map members_of groups ++ new)
apart-more groups new apart distinct free =
    append-distinct nat_eq nat_eq-symmetric (flat_map members_of groups) new apart (are_distinct-true new distinct)
    (each-weaker _ _ (λ axis n. sym (is_member-flat_map groups axis) ∙ n) new free)

-- ---- names

-- a new name is inserted
pub AreNames-insert : (xs ys : List (List ℕ)) (name : List ℕ) → AreNames (xs ++ ys) → is_name name ≡ true →
    list_any (λ n. bytes_eq n name) (xs ++ ys) ≡ false → AreNames (xs ++ name ∷ ys)
AreNames-insert xs ys name h named unused =
    let each = list_all-append is_name xs ys in
    let parts = and_parts (list_all is_name xs) (list_all is_name ys) (sym each ∙ h.each) in
    record {
      each = list_all-append is_name xs (name ∷ ys) ∙ and_from _ _ parts.0 (and_from _ _ named parts.1);
      differ = insert-distinct bytes_eq bytes_eq-symmetric xs ys name h.differ (none-from_list_any _ (xs ++ ys) unused);
    }
