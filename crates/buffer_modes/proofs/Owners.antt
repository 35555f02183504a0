-- How often an instance has commands and is reported of their ends.
-- for: ends_tell_their_owners, owners_are_taken_away
use Rattle.std.specs.Prelude.{◌≡◌, ◌≤◌, refl, ℕ, ◌+◌, Option, Some, None, List, [], ◌∷◌, ◌++◌, length}
use Rattle.std.proofs.Common.{sym, arith, length-append}
use Rattle.command_pool.specs.Waiting.{notes_of, told_to}
use Rattle.command_pool.specs.declared.ending.Finish.{Finish}
use Rattle.command_pool.specs.declared.ending.Finish.TheVariants as finish
use Rattle.command_pool.specs.declared.notes.Note.{Note}
use Rattle.command_pool.specs.declared.wanted.Wanted.{Wanted}
use Rattle.buffer_modes.specs.Owners.{owner_count, owner_by, ends_given, waits_of}
use Rattle.buffer_modes.specs.Queue.{active_note}
use Rattle.buffer_modes.specs.Resets.{replaced_note, reset_owner}
use Rattle.buffer_modes.specs.declared.reset.PendingReset.{PendingReset}

pub nobody : (k : ℕ) → owner_count k None ≡ 0
unfolding owner_count
nobody k = refl

pub waits-more : (k : ℕ) (ws : List Wanted) (w : Wanted) → waits_of k (ws ++ w ∷ []) ≡ waits_of k ws + owner_count k w.owner
waits-more k [] w = omega arith
waits-more k (v ∷ ws) w = let t = waits-more k ws w in omega arith

pub told-more : (k : ℕ) (notes others : List Note) → ends_given k (notes ++ others) ≡ ends_given k notes + ends_given k others
told-more k [] others = omega arith
told-more k (n ∷ notes) others = let t = told-more k notes others in omega arith

pub told-once : (k : ℕ) (o : Option ℕ) (f : Finish) → ends_given k (told_to o f) ≡ owner_count k o
unfolding owner_count
told-once k None f = refl
told-once k (Some n) f = omega arith

pub told-active : (k : ℕ) (f : Finish) (active : Option Wanted) → ends_given k (active_note f active) ≡ owner_count k (owner_by active)
told-active k f None = sym (nobody k)
told-active k f (Some w) = told-once k w.owner f

pub told-waiting : (k : ℕ) (f : Finish) (ws : List Wanted) → ends_given k (notes_of f ws) ≡ waits_of k ws
told-waiting k f [] = refl
told-waiting k f (w ∷ ws) =
    let a = told-more k (told_to w.owner f) (notes_of f ws) in
    let b = told-once k w.owner f in
    let c = told-waiting k f ws in
    omega arith

pub told-reset : (k : ℕ) (p : Option PendingReset) → ends_given k (replaced_note p) ≡ owner_count k (reset_owner p)
told-reset k None = sym (nobody k)
told-reset k (Some p) = told-once k p.owner finish.Aborted

-- how many notes there are
few-told : (f : Finish) (o : Option ℕ) → length (told_to o f) ≤ 1
few-told f None = omega arith
few-told f (Some n) = omega arith

pub few-active : (f : Finish) (active : Option Wanted) → length (active_note f active) ≤ 1
few-active f None = omega arith
few-active f (Some w) = few-told f w.owner

pub few-waiting : (f : Finish) (ws : List Wanted) → length (notes_of f ws) ≤ length ws
few-waiting f [] = omega arith
few-waiting f (w ∷ ws) =
    let n = few-told f w.owner in
    let m = few-waiting f ws in
    let l = length-append (told_to w.owner f) (notes_of f ws) in
    omega arith
