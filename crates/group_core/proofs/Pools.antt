-- The other lists of a pool, where one was changed twice.
-- for: command
use Rattle.std.specs.Prelude.{◌≡◌, refl, ℕ, zero, suc, ◌<◌, [], ◌∷◌, Result, Ok, Err, OnOk, OnErr, List, length, slice_set}
use Rattle.std.proofs.Common.{◌∙◌, ap, sym, arith}
use Rattle.std.proofs.lemmas.List.{set-set}
use Rattle.command_pool.specs.Waiting.{queue_of}
use Rattle.command_pool.specs.declared.wanted.Wanted.{Wanted}

-- a list that was changed
pub queue-set : (lists : List (List Wanted)) (list : ℕ) (ws : List Wanted) → list < length lists → queue_of (slice_set lists list ws) list ≡ ws
queue-set [] list ws there = absurd (omega arith)
queue-set (x ∷ xs) zero ws there = refl
queue-set (x ∷ xs) (suc list) ws there = queue-set xs list ws (omega arith)

-- only this list was changed, and then once more
pub only-set : (before then_ after : List (List Wanted)) (list : ℕ) (ws : List Wanted) → list < length before →
    then_ ≡ slice_set before list (queue_of then_ list) → after ≡ slice_set then_ list ws → after ≡ slice_set before list (queue_of after list)
only-set before then_ after list ws there first second =
    let e : after ≡ slice_set before list ws = second ∙ ap (λ p. slice_set p list ws) first ∙ set-set before list _ ws in
    let q : queue_of after list ≡ ws = ap (λ p. queue_of p list) e ∙ queue-set before list ws there in
    e ∙ ap (λ (q : List Wanted). slice_set before list q) (sym q)

-- and then may be once more
pub only-pushed : {A B : Type 0} (r : Result A B) (before then_ after : List (List Wanted)) (list : ℕ) (ws : List Wanted) → list < length before →
    then_ ≡ slice_set before list (queue_of then_ list) → OnOk r (after ≡ slice_set then_ list ws) → OnErr r (after ≡ then_) →
    after ≡ slice_set before list (queue_of after list)
only-pushed (Ok a) before then_ after list ws there first second same = only-set before then_ after list ws there first second
only-pushed (Err b) before then_ after list ws there first second same = same ∙ first ∙ ap (λ p. slice_set before list (queue_of p list)) (sym same)
