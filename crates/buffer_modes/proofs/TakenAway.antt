-- An instance whose commands are taken away, and the others.
-- for: owners_are_taken_away
use Rattle.std.specs.Prelude.{◌≡◌, refl, ℕ, Bool, true, false, nat_eq, Option, Some, None, List, [], ◌∷◌, if◌then◌else◌, map}
use Rattle.std.proofs.Common.{sym, ◌∙◌, ap, arith}
use Rattle.std.proofs.lemmas.Bool.{eqb-true}
use Rattle.command_pool.specs.Waiting.{detached, without}
use Rattle.command_pool.specs.declared.wanted.Wanted.{Wanted}
use Rattle.buffer_modes.specs.Owners.{IsSame, active_without, owner_count, one_of, owner_by, waits_of}
use Rattle.buffer_modes.specs.Resets.{reset_owner, reset_without}
use Rattle.buffer_modes.specs.declared.reset.PendingReset.{PendingReset}
use Rattle.buffer_modes.proofs.Owners.{nobody}

own : (k : ℕ) (o : Option ℕ) → owner_count k (without k o) ≡ 0
unfolding owner_count
own k None = refl
own k (Some n) = by (nat_eq n k) refl
  where
    by : (b : Bool) → nat_eq n k ≡ b → owner_count k (if b then None else Some n) ≡ 0
    by true e = refl
    by false e = ap one_of e

other : (j k : ℕ) (o : Option ℕ) → nat_eq k j ≡ false → owner_count j (without k o) ≡ owner_count j o
unfolding owner_count
other j k None h = refl
other j k (Some n) h = by (nat_eq n k) refl
  where
    by : (b : Bool) → nat_eq n k ≡ b → owner_count j (if b then None else Some n) ≡ owner_count j (Some n)
    by true e = let same : n ≡ k = eqb-true n k e in sym (ap one_of (ap (λ x. nat_eq x j) same ∙ h))
    by false e = refl

pub active : (k : ℕ) (a : Option Wanted) → owner_count k (owner_by (active_without k a)) ≡ 0
active k None = nobody k
active k (Some w) = own k w.owner

pub waiting : (k : ℕ) (ws : List Wanted) → waits_of k (map (detached k) ws) ≡ 0
waiting k [] = refl
waiting k (w ∷ ws) = let a = own k w.owner in let b = waiting k ws in omega arith

pub reset : (k : ℕ) (p : Option PendingReset) → owner_count k (reset_owner (reset_without k p)) ≡ 0
reset k None = nobody k
reset k (Some p) = own k p.owner

pub others-active : (j k : ℕ) (a : Option Wanted) → nat_eq k j ≡ false → owner_count j (owner_by (active_without k a)) ≡ owner_count j (owner_by a)
others-active j k None h = refl
others-active j k (Some w) h = other j k w.owner h

pub others-waiting : (j k : ℕ) (ws : List Wanted) → nat_eq k j ≡ false → waits_of j (map (detached k) ws) ≡ waits_of j ws
others-waiting j k [] h = refl
others-waiting j k (w ∷ ws) h = let a = other j k w.owner h in let b = others-waiting j k ws h in omega arith

pub others-reset : (j k : ℕ) (p : Option PendingReset) → nat_eq k j ≡ false → owner_count j (reset_owner (reset_without k p)) ≡ owner_count j (reset_owner p)
others-reset j k None h = refl
others-reset j k (Some p) h = other j k p.owner h

pub same : (k : ℕ) (a : Option Wanted) → IsSame a (active_without k a)
same k None = tt
same k (Some w) = refl
