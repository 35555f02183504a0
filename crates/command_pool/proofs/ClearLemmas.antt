-- A list from which the first command was taken, and its end reported.
-- for: clear
use Rattle.std.proofs.Common.{◌≡◌, sym, ap, ◌∙◌, ℕ, suc, ◌+◌, ◌<◌, ◌≤◌, Option, Some, None, List, [], ◌∷◌, ◌++◌, length, set, drop, arith}
use Rattle.std.specs.Prelude.{slice_get}
use Rattle.std.proofs.lemmas.List.{get_or-set_same, set-set, length-set, append_assoc, length-append}
use Rattle.command_pool.specs.declared.ending.Finish.{Finish}
use Rattle.command_pool.specs.declared.notes.Note.{Note}
use Rattle.command_pool.specs.declared.wanted.Wanted.{Wanted}
use Rattle.command_pool.specs.Waiting.{queue_of, told_to, note_of, notes_of}

-- the first of some commands, and the others
first_and_rest : (ws : List Wanted) (w : Wanted) → slice_get ws 0 ≡ Some w → ws ≡ w ∷ drop 1 ws
first_and_rest [] w e = absurd (cc)
first_and_rest (v ∷ ws) w e = let s : v ≡ w = cc in ap (λ u. u ∷ ws) s

-- at most one note is reported of an end
one_note : (o : Option ℕ) (f : Finish) → length (told_to o f) ≤ 1
one_note None f = omega arith
one_note (Some k) f = omega arith

-- the list has the others, and what is reported of them stands after what was reported of the first
pub record TakesFirst (lists after : List (List Wanted)) (list : ℕ) (f : Finish) (notes more : List Note) : Type 0 where
  pub count : length (queue_of lists list) ≡ suc (length (queue_of after list))
  pub there : length after ≡ length lists
  pub cleared : set after list [] ≡ set lists list []
  pub told : more ++ notes_of f (queue_of after list) ≡ notes ++ notes_of f (queue_of lists list)
  pub one : length more ≤ length notes + 1

pub takes_first : (lists after : List (List Wanted)) (list : ℕ) (w : Wanted) (f : Finish) (notes more : List Note) →
    list < length lists → slice_get (queue_of lists list) 0 ≡ Some w → after ≡ set lists list (drop 1 (queue_of lists list)) →
    more ≡ notes ++ note_of f w → TakesFirst lists after list f notes more
takes_first lists after list w f notes more there first rest told =
    let q : queue_of lists list ≡ w ∷ drop 1 (queue_of lists list) = first_and_rest (queue_of lists list) w first in
    let r : queue_of after list ≡ drop 1 (queue_of lists list) =
    ap (λ (ls : List (List Wanted)). queue_of ls list) rest ∙ get_or-set_same lists list (drop 1 (queue_of lists list)) [] there in
    let n = one_note w.owner f in
    let l : length (notes ++ note_of f w) ≡ length notes + length (note_of f w) = length-append notes (note_of f w) in
    record {
      count = ap length q ∙ ap (λ (ws : List Wanted). suc (length ws)) (sym r);
      there = ap length rest ∙ length-set lists list (drop 1 (queue_of lists list));
      cleared = ap (λ (ls : List (List Wanted)). set ls list []) rest ∙ set-set lists list (drop 1 (queue_of lists list)) [];
      told = rw (told, r) (append_assoc notes (note_of f w) (notes_of f (drop 1 (queue_of lists list))) ∙ ap (λ (ws : List Wanted). notes ++ notes_of f ws) (sym q));
      one = rw told (omega arith);
    }
