-- The axes of the groups of a configuration.
-- for: rows_are_counted, owners_have_blocks, machines_stay_kept and others
use Rattle.std.specs.Prelude.{◌≡◌, ℕ, zero, suc, ◌<◌, ◌≤◌, Some, List, [], ◌∷◌, length, slice_get, slice_index_or}
use Rattle.std.specs.List.{AllByRecursion}
use Rattle.std.proofs.Common.{arith, ap, sym}
use Rattle.std.proofs.lemmas.List.{length-take}
use Rattle.std.proofs.lemmas.List.Elements.{All-get_or}
use Rattle.motion_history.specs.Configurations.{IsSound}
use Rattle.motion_history.specs.Members.{IsGroup, members_of}
use Rattle.motion_history.specs.Setup.{Setup}
use Rattle.motion_history.specs.declared.config.GroupDef.{GroupDef}
use Rattle.motion_kernel.specs.members.Members.{member_at, members_at, members_in}

-- what stands at a number
pub stands : {X : Type 0} (xs : List X) (i : ℕ) (d : X) → i < length xs → slice_index_or xs i d ≡ d → slice_get xs i ≡ Some d
stands [] i d l e = absurd (omega arith)
stands (x ∷ xs) zero d l e = ap (λ y. Some y) e
stands (x ∷ xs) (suc i) d l e = stands xs i d (omega arith) e

-- each of them passes
pub each_of : {X : Type 0} (P : X → Type 0) (xs : List X) (i : ℕ) (d : X) → AllByRecursion P xs → i < length xs → P (slice_index_or xs i d)
each_of P [] i d h l = absurd (omega arith)
each_of P (x ∷ xs) zero d h l = h.0
each_of P (x ∷ xs) (suc i) d h l = each_of P xs i d h.1 (omega arith)

-- a group of a configuration
pub is_group : (s : Setup) (j : ℕ) (d : GroupDef) → IsSound s → j < length s.groups → slice_index_or s.groups j d ≡ d → IsGroup (length s.axes) d
is_group s j d sound l e = rw (← e) (All-get_or (IsGroup (length s.axes)) s.groups j d l sound.groups)

pub members_there : (s : Setup) (j : ℕ) (d : GroupDef) → j < length s.groups → slice_index_or s.groups j d ≡ d → members_of d ≡ members_at s j
members_there s j d l e = sym (ap members_in (stands s.groups j d l e))

-- it has at most six axes, which are there
pub few_members : (n : ℕ) (d : GroupDef) → IsGroup n d → length (members_of d) ≤ 6
few_members n d g = let t = length-take d.count d.axes in let h = g.few in omega (arith, t)

pub members_are_axes : (n : ℕ) (d : GroupDef) (place : ℕ) → IsGroup n d → place < length (members_of d) → member_at (members_of d) place < n
members_are_axes n d place g l = each_of (λ axis. axis < n) (members_of d) place 0 g.there l
