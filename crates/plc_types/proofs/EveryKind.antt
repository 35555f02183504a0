-- What computes to true at each kind of the list holds of every kind: a fact of rows needs no clause by kind.
-- for: crates above
use Rattle.std.proofs.Common.{◌≡◌, List, [], ◌∷◌, Bool, true, false, ◌&&◌, cond, refl, Some}
use Rattle.std.specs.List.{find, list_all}
use Rattle.std.specs.Str.{bytes_eq}
use Rattle.plc_types.specs.declared.kind.BlockKind.{BlockKind}
use Rattle.plc_types.specs.declared.kind_names.TheConstants.{KINDS}
use Rattle.plc_types.specs.KindNames.{kind_name, kind_named}
use Rattle.plc_types.proofs.KindNameLaws.{kind_named-kind_name}

-- what all elements pass, one that is found passes
found : (q p : BlockKind → Bool) (ks : List BlockKind) (k : BlockKind) → find q ks ≡ Some k → list_all p ks ≡ true → p k ≡ true
found q p [] k e h = absurd (cc)
found q p (x ∷ xs) k e h = first (q x) (p x) refl e h (found q p xs k)
  where
    first : (b c : Bool) → p x ≡ c → cond b (Some x) (find q xs) ≡ Some k → (c && list_all p xs) ≡ true →
        (find q xs ≡ Some k → list_all p xs ≡ true → p k ≡ true) → p k ≡ true
    first true true i e h later = cc
    first b false i e h later = absurd (cc)
    first false true i e h later = later e h

pub every-kind : (p : BlockKind → Bool) → list_all p KINDS ≡ true → (k : BlockKind) → p k ≡ true
unfolding kind_named
every-kind p h k = found (λ x. bytes_eq (kind_name x) (kind_name k)) p KINDS k (kind_named-kind_name k) h

-- each kind that passes one test passes another
pub every-kind-that : (p q : BlockKind → Bool) → list_all (λ k. cond (p k) (q k) true) KINDS ≡ true → (k : BlockKind) → p k ≡ true → q k ≡ true
every-kind-that p q h k e = there (p k) e (every-kind (λ x. cond (p x) (q x) true) h k)
  where
    there : (b : Bool) → b ≡ true → cond b (q k) true ≡ true → q k ≡ true
    there true i h = h
    there false i h = absurd (cc)
