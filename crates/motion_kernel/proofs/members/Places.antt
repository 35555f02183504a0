-- Which axis is where in the groups of a configuration.
-- for: rows_are_counted, owners_have_blocks, machines_stay_kept and others
use Rattle.std.specs.Prelude.{◌≡◌, refl, ℕ, zero, suc, ◌+◌, ◌<◌, nat_eq, nat_lt, true, false, Option, Some, None, List, [], ◌∷◌, ◌++◌, length, slice_get, slice_index_or}
use Rattle.std.specs.List.{AllByRecursion, IsDistinct, flat_map, position, position_or_len}
use Rattle.std.proofs.Common.{arith, ap, sym, ◌∙◌}
use Rattle.std.proofs.lemmas.Bool.{eqb-false, eqb-true, ne_eqb}
use Rattle.std.proofs.lemmas.List.Quantifiers.{position-Some}
use Rattle.motion_history.specs.Members.{AreApart, members_of}
use Rattle.motion_history.specs.Setup.{Setup, IsSetup}
use Rattle.motion_history.specs.declared.config.GroupDef.{GroupDef}
use Rattle.motion_kernel.specs.members.Members.{member_at, members_at, members_in, membership_from, membership_of, place_or}
use Rattle.motion_kernel.specs.declared.memberships.Membership.{Membership}
use Rattle.motion_kernel.proofs.members.Members.{each_of}

-- numbers that differ do so both ways
eq_sym : (a b : ℕ) → nat_eq b a ≡ false → nat_eq a b ≡ false
eq_sym a b h = ne_eqb a b (λ e. eqb-false b a h (sym e))

eq_self : (a : ℕ) → nat_eq a a ≡ true
eq_self a = grind arith

-- what holds of all of two lists holds of each
all_first : {X : Type 0} (P : X → Type 0) (xs ys : List X) → AllByRecursion P (xs ++ ys) → AllByRecursion P xs
all_first P [] ys h = tt
all_first P (x ∷ xs) ys h = (h.0, all_first P xs ys h.1)

all_behind : {X : Type 0} (P : X → Type 0) (xs ys : List X) → AllByRecursion P (xs ++ ys) → AllByRecursion P ys
all_behind P [] ys h = h
all_behind P (x ∷ xs) ys h = all_behind P xs ys h.1

distinct_behind : (xs ys : List ℕ) → IsDistinct nat_eq (xs ++ ys) → IsDistinct nat_eq ys
unfolding IsDistinct
distinct_behind [] ys h = h
distinct_behind (x ∷ xs) ys h = distinct_behind xs ys h.1

distinct_first : (xs ys : List ℕ) → IsDistinct nat_eq (xs ++ ys) → IsDistinct nat_eq xs
unfolding IsDistinct
distinct_first [] ys h = tt
distinct_first (x ∷ xs) ys h = (all_first (λ y. nat_eq x y ≡ false) xs ys h.0, distinct_first xs ys h.1)

-- in a list whose numbers differ each stands first at its own place
stands_at : (xs : List ℕ) (i : ℕ) → IsDistinct nat_eq xs → i < length xs → position_or_len (nat_eq (slice_index_or xs i 0)) xs ≡ i
unfolding IsDistinct
stands_at [] i h l = absurd (omega arith)
stands_at (x ∷ xs) zero h l = rw (eq_self x) refl
stands_at (x ∷ xs) (suc i) h l =
    let other : nat_eq (slice_index_or xs i 0) x ≡ false = eq_sym (slice_index_or xs i 0) x (each_of (λ y. nat_eq x y ≡ false) xs i 0 h.0 (omega arith)) in
    let more = stands_at xs i h.1 (omega arith) in
    rw (other, more) (omega arith)

found_at : (xs : List ℕ) (i : ℕ) → IsDistinct nat_eq xs → i < length xs → position (nat_eq (slice_index_or xs i 0)) xs ≡ Some i
found_at xs i h l =
    let inside : nat_lt i (length xs) ≡ true = grind arith in
    rw (stands_at xs i h l, inside) refl

-- a number of a list after stands nowhere in the one before it
stands_not : (axis : ℕ) (xs ys : List ℕ) → ((x : ℕ) → AllByRecursion (λ y. nat_eq x y ≡ false) ys → nat_eq x axis ≡ false) →
    IsDistinct nat_eq (xs ++ ys) → position_or_len (nat_eq axis) xs ≡ length xs
unfolding IsDistinct
stands_not axis [] ys there h = refl
stands_not axis (x ∷ xs) ys there h =
    let other : nat_eq axis x ≡ false = eq_sym axis x (there x (all_behind (λ y. nat_eq x y ≡ false) xs ys h.0)) in
    let more = stands_not axis xs ys there h.1 in
    rw (other, more) (omega arith)

found_not : (axis : ℕ) (xs ys : List ℕ) → ((x : ℕ) → AllByRecursion (λ y. nat_eq x y ≡ false) ys → nat_eq x axis ≡ false) →
    IsDistinct nat_eq (xs ++ ys) → position (nat_eq axis) xs ≡ None
found_not axis xs ys there h =
    let outside : nat_lt (length xs) (length xs) ≡ false = grind arith in
    rw (stands_not axis xs ys there h, outside) refl

-- what holds of all axes of some groups holds of each of one
all_flat : (P : ℕ → Type 0) (ds : List GroupDef) (j place : ℕ) → AllByRecursion P (flat_map members_of ds) → j < length ds →
    place < length (members_in (slice_get ds j)) → P (member_at (members_in (slice_get ds j)) place)
all_flat P [] j place h l k = absurd (omega arith)
all_flat P (d ∷ ds) zero place h l k = each_of P (members_of d) place 0 (all_first P (members_of d) (flat_map members_of ds) h) k
all_flat P (d ∷ ds) (suc j) place h l k = all_flat P ds j place (all_behind P (members_of d) (flat_map members_of ds) h) (omega arith) k

-- an axis of a group is found there
found_in : (g : ℕ) (ds : List GroupDef) (j place : ℕ) → AreApart ds → j < length ds → place < length (members_in (slice_get ds j)) →
    membership_from (member_at (members_in (slice_get ds j)) place) g ds ≡ Some (record { group = g + j; place = place })
unfolding membership_from
found_in g [] j place h l k = absurd (omega arith)
found_in g (d ∷ ds) zero place h l k =
    let same : g ≡ g + 0 = omega arith in
    let at = found_at (members_of d) place (distinct_first (members_of d) (flat_map members_of ds) h) k in
    ap (λ o. place_or g o (membership_from (member_at (members_of d) place) (g + 1) ds)) at ∙ ap (λ n. Some (record { group = n; place = place })) same
found_in g (d ∷ ds) (suc j) place h l k =
    let same : g + 1 + j ≡ g + suc j = omega arith in
    let axis = member_at (members_in (slice_get ds j)) place in
    let there : (x : ℕ) → AllByRecursion (λ y. nat_eq x y ≡ false) (flat_map members_of ds) → nat_eq x axis ≡ false =
    λ x each. all_flat (λ y. nat_eq x y ≡ false) ds j place each (omega arith) k in
    let at = found_not axis (members_of d) (flat_map members_of ds) there h in
    ap (λ o. place_or g o (membership_from axis (g + 1) ds)) at
    ∙ found_in (g + 1) ds j place (distinct_behind (members_of d) (flat_map members_of ds) h) (omega arith) k
    ∙ ap (λ n. Some (record { group = n; place = place })) same

-- an axis of a group of the configuration is found there
pub member_found : (s : Setup) (j place : ℕ) → IsSetup s → j < length s.groups → place < length (members_at s j) →
    membership_of s (member_at (members_at s j) place) ≡ Some (record { group = j; place = place })
member_found s j place h l k = found_in 0 s.groups j place h.within.apart l k ∙ ap (λ n. Some (record { group = n; place = place })) (omega arith)

-- an axis is where it is found
pub record IsFoundAt (ds : List GroupDef) (n j place : ℕ) : Type 0 where
  pub group : j < length ds
  pub among : place < length (members_in (slice_get ds j))
  pub axis : member_at (members_in (slice_get ds j)) place ≡ n

found_more : (d : GroupDef) (ds : List GroupDef) (n j place : ℕ) → IsFoundAt ds n j place → IsFoundAt (d ∷ ds) n (suc j) place
found_more d ds n j place h = let l = h.group in record { group = omega arith; among = h.among; axis = h.axis }

-- where the search ends
pub record IsFoundFrom (g : ℕ) (ds : List GroupDef) (n : ℕ) (at : Membership) : Type 0 where
  pub behind : ℕ
  pub group : at.group ≡ g + behind
  pub found : IsFoundAt ds n behind at.place

found_by : (n g : ℕ) (d : GroupDef) (ds : List GroupDef) (at : Membership) (o : Option ℕ) →
    (membership_from n (g + 1) ds ≡ Some at → IsFoundFrom (g + 1) ds n at) →
    position (nat_eq n) (members_of d) ≡ o → place_or g o (membership_from n (g + 1) ds) ≡ Some at → IsFoundFrom g (d ∷ ds) n at
found_by n g d ds at None more e h =
    let f = more h in
    let b = f.group in
    record { behind = suc f.behind; group = omega arith; found = found_more d ds n f.behind at.place f.found }
found_by n g d ds at (Some place) more e h =
    let here : record { group = g; place = place } ≡ at = cc in
    let where_is = position-Some (nat_eq n) (members_of d) place 0 e in
    let same : place ≡ at.place = ap (λ (x : Membership). x.place) here in
    let group : g ≡ at.group = ap (λ (x : Membership). x.group) here in
    let axis : member_at (members_of d) place ≡ n = sym (eqb-true n (member_at (members_of d) place) where_is.1) in
    let found : IsFoundAt (d ∷ ds) n 0 place = record { group = omega arith; among = where_is.0; axis = axis } in
    record { behind = 0; group = omega arith; found = rw (← same) found }

found_from : (n g : ℕ) (ds : List GroupDef) (at : Membership) → membership_from n g ds ≡ Some at → IsFoundFrom g ds n at
unfolding membership_from
found_from n g [] at h = absurd (cc)
found_from n g (d ∷ ds) at h = found_by n g d ds at (position (nat_eq n) (members_of d)) (found_from n (g + 1) ds at) refl h

-- where an axis is found in the configuration, it is
pub membership_is : (s : Setup) (n : ℕ) (at : Membership) → membership_of s n ≡ Some at → IsFoundAt s.groups n at.group at.place
membership_is s n at h =
    let f = found_from n 0 s.groups at h in
    let b = f.group in
    let same : f.behind ≡ at.group = omega arith in
    rw (← same) f.found
