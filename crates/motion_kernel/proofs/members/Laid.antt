-- Where an axis stands in its group.
-- for: open
use Rattle.std.specs.Prelude.{◌≡◌, refl, ℕ, zero, suc, ◌+◌, ◌<◌, ◌≤◌, nat_eq, Option, Some, None, IfSome, List, [], ◌∷◌, ◌++◌, length, drop, slice_get, slice_index_or}
use Rattle.std.specs.List.{position}
use Rattle.std.proofs.Common.{arith, ap, sym, ◌∙◌, inl, inr}
use Rattle.std.proofs.lemmas.Bool.{cases_lt}
use Rattle.std.proofs.lemmas.List.{length_push}
use Rattle.motion_history.specs.Setup.{Setup}
use Rattle.motion_kernel.specs.members.Laid.{AreMemberships}
use Rattle.motion_kernel.specs.declared.memberships.Membership.{Membership}
use Rattle.motion_history.specs.Members.{members_of}
use Rattle.motion_history.specs.declared.config.GroupDef.{GroupDef}
use Rattle.motion_kernel.specs.members.Members.{membership_from, membership_of, place_or}

-- the search goes on from one group to the next
next_suc : (axis n g : ℕ) (ds : List GroupDef) (d : GroupDef) → g < length ds → slice_index_or ds g d ≡ d →
    membership_from axis n (drop g ds) ≡ place_or n (position (nat_eq axis) (members_of d)) (membership_from axis (n + 1) (drop (suc g) ds))
unfolding membership_from
next_suc axis n g [] d l e = absurd (omega arith)
next_suc axis n zero (x ∷ ds) d l e = ap (λ (y : GroupDef). place_or n (position (nat_eq axis) (members_of y)) (membership_from axis (n + 1) ds)) e
next_suc axis n (suc g) (x ∷ ds) d l e = next_suc axis n g ds d (omega arith) e

pub next : (axis n g : ℕ) (ds : List GroupDef) (d : GroupDef) (o : Option ℕ) → g < length ds → slice_index_or ds g d ≡ d →
    position (nat_eq axis) (members_of d) ≡ o →
    membership_from axis n (drop g ds) ≡ place_or n o (membership_from axis (n + 1) (drop (g + 1) ds))
next axis n g ds d o l e at =
    let same : suc g ≡ g + 1 = omega arith in
    rw (← at) (next_suc axis n g ds d l e ∙ ap (λ k. place_or n (position (nat_eq axis) (members_of d)) (membership_from axis (n + 1) (drop k ds))) same)

-- no group is left
pub none : (axis n g : ℕ) (ds : List GroupDef) → length ds ≤ g → membership_from axis n (drop g ds) ≡ None
unfolding membership_from
none axis n zero [] l = refl
none axis n (suc g) [] l = refl
none axis n zero (x ∷ ds) l = absurd (omega arith)
none axis n (suc g) (x ∷ ds) l = none axis n g ds (omega arith)

get-before : {X : Type 0} (xs : List X) (x : X) (i : ℕ) → i < length xs → slice_get (xs ++ x ∷ []) i ≡ slice_get xs i
get-before [] x i l = absurd (omega arith)
get-before (y ∷ ys) x zero l = refl
get-before (y ∷ ys) x (suc i) l = get-before ys x i (omega arith)

get-last : {X : Type 0} (xs : List X) (x : X) (i : ℕ) → i ≡ length xs → slice_get (xs ++ x ∷ []) i ≡ Some x
get-last [] x zero e = refl
get-last [] x (suc i) e = absurd (omega arith)
get-last (y ∷ ys) x zero e = absurd (omega arith)
get-last (y ∷ ys) x (suc i) e = get-last ys x i (omega arith)

-- one axis more is found
pub found_more : (s : Setup) (n : ℕ) (found : List (Option Membership)) → AreMemberships s n found →
    AreMemberships s (n + 1) (found ++ membership_of s n ∷ [])
found_more s n found h = record {
  count = let c = h.count in let l = length_push found (membership_of s n) in omega (arith, l);
  each = λ axis l. elim (cases_lt axis n) [
    | inl b ↦ get-before found (membership_of s n) axis (let c = h.count in omega arith) ∙ h.each axis b
    | inr b ↦ get-last found (membership_of s n) axis (let c = h.count in omega arith) ∙ ap (λ k. Some (membership_of s k)) (omega arith)
  ];
}

abbrev group_in : Option Membership → ℕ
group_in None = 0
group_in (Some at) = at.group

below_or : (n k : ℕ) (o : Option ℕ) (rest : Option Membership) (at : Membership) → (rest ≡ Some at → at.group < k) → n < k →
    place_or n o rest ≡ Some at → at.group < k
below_or n k None rest at h l e = h e
below_or n k (Some p) rest at h l e = let g : n ≡ at.group = ap group_in e in omega arith

-- a group that has an axis is there
pub group_below : (axis n : ℕ) (ds : List GroupDef) (at : Membership) → membership_from axis n ds ≡ Some at → at.group < n + length ds
unfolding membership_from
group_below axis n [] at e = absurd (cc)
group_below axis n (d ∷ ds) at e =
    below_or n (n + length (d ∷ ds)) (position (nat_eq axis) (members_of d)) (membership_from axis (n + 1) ds) at
    (λ h. let l = group_below axis (n + 1) ds at h in omega arith) (omega arith) e

pub group_there : (s : Setup) (axis : ℕ) (o : Option Membership) → o ≡ membership_of s axis → IfSome o (λ at. at.group < length s.groups)
group_there s axis None e = tt
group_there s axis (Some at) e = let l = group_below axis 0 s.groups at (sym e) in omega arith
