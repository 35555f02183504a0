-- An instance is notified of the end of each command that it has, once.
-- for: holders_have_commands, changes_make_fates, owners_stay_apart and others
use Rattle.std.specs.Prelude.{◌≡◌, refl, ℕ, ◌+◌, Bool, true, false, nat_eq, ℤ, Option, Some, None, List, [], ◌∷◌, ◌++◌, if◌then◌else◌}
use Rattle.std.proofs.Common.{ap, arith, ◌∙◌}
use Rattle.buffer_modes.specs.Laws.{AreOwners, AreTakenAway}
use Rattle.buffer_modes.specs.Owners.{owner_count, owner_by, ends_given, waits_of}
use Rattle.buffer_modes.specs.Queue.{active_note, behind, end_notes, is_aborting}
use Rattle.command_pool.specs.Waiting.{notes_of, told_to}
use Rattle.command_pool.specs.declared.ending.Finish.{Finish}
use Rattle.command_pool.specs.declared.ending.Finish.TheVariants as finish
use Rattle.command_pool.specs.declared.wanted.Wanted.{Wanted}
use Rattle.command_core.specs.Brought.{BringNone, BringsNone, brought, brought_by}
use Rattle.command_core.specs.Calls.{AreHolds, IsCall}
use Rattle.command_core.specs.Changes.{Change, joins, replaced, ends, awaits, resets, holds, all_changed, changed, taken_over, with_known}
use Rattle.command_core.specs.CommandState.{CommandState, disowned, owns, queue_of}

-- what an instance has and what it was given, together
abbrev pub sum : ℕ → CommandState → ℕ
sum k c = owns k c + ends_given k c.notes

module _ (owners : AreOwners) (taken : AreTakenAway) where
  open owners use {nobody, waits_more, told_more, told_once, told_active, told_waiting}

  -- where all commands are ended, all that have one are notified
  pub told_all : (k : ℕ) (f : Finish) (c : CommandState) → ends_given k (c.notes ++ end_notes f (queue_of c)) ≡
      ends_given k c.notes + owner_count k (owner_by c.active) + waits_of k c.waiting
  told_all k f c =
      let a = told_more k c.notes (active_note f c.active ++ notes_of finish.Aborted c.waiting) in
      let b = told_more k (active_note f c.active) (notes_of finish.Aborted c.waiting) in
      let d = told_active k f c.active in
      let e = told_waiting k finish.Aborted c.waiting in
      omega arith

  -- a command that joins the others
  abbrev pub joined : Bool → Option Wanted → Wanted → CommandState → CommandState
  joined aborts active w c = record c {
    active = (if aborts then record { active = Some w; waiting = [] } else behind active c.waiting w).active;
    waiting = (if aborts then record { active = Some w; waiting = [] } else behind active c.waiting w).waiting;
    notes = c.notes ++ (if aborts then end_notes finish.Aborted (queue_of c) else []);
  }

  sum_joined : (k : ℕ) (aborts : Bool) (active : Option Wanted) (w : Wanted) (c : CommandState) → c.active ≡ active →
      sum k (joined aborts active w c) ≡ sum k c + owner_count k w.owner
  sum_joined k true active w c e = let a = told_all k finish.Aborted c in omega arith
  sum_joined k false None w c e =
      let a = told_more k c.notes [] in
      let z = ap (λ o. owner_count k (owner_by o)) e ∙ nobody k in
      omega arith
  sum_joined k false (Some v) w c e =
      let a = told_more k c.notes [] in
      let z : owner_count k (owner_by c.active) ≡ owner_count k v.owner = ap (λ o. owner_count k (owner_by o)) e in
      let m = waits_more k c.waiting w in
      omega arith

  -- an end gives the owner, and the next command keeps its own
  sum_taken : (k : ℕ) (t : Option ℤ) (ws : List Wanted) (c : CommandState) → c.active ≡ None → c.waiting ≡ ws →
      sum k (taken_over t ws c) ≡ sum k c
  sum_taken k t [] c none same = refl
  sum_taken k t (w ∷ ws) c none same = by t
    where
      e : waits_of k c.waiting ≡ owner_count k w.owner + waits_of k ws
      e = ap (waits_of k) same

      z : owner_count k (owner_by c.active) ≡ 0
      z = ap (λ o. owner_count k (owner_by o)) none ∙ nobody k

      by : (t : Option ℤ) → sum k (record c { active = Some (with_known t w); waiting = ws }) ≡ sum k c
      by None = omega (arith, e, z)
      by (Some target) = omega (arith, e, z)

  -- one change
  pub once_by : (k : ℕ) (x : Change) (c : CommandState) → sum k (changed x c) ≡ sum k c + brought_by k x
  once_by k (joins w) c = sum_joined k (is_aborting w.mode) c.active w c refl
  once_by k (replaced f next ws) c = let a = told_all k f c in omega arith
  once_by k (ends f target) c =
      let t = sum_taken k target c.waiting (record c { active = None; notes = c.notes ++ active_note f c.active }) refl refl in
      let a = told_more k c.notes (active_note f c.active) in
      let b = told_active k f c.active in
      let z = nobody k in
      omega arith
  once_by k (awaits owner) c =
      let a = told_more k c.notes (told_to c.reset finish.Aborted) in
      let b = told_once k c.reset finish.Aborted in
      omega arith
  once_by k resets c =
      let a = told_more k c.notes (told_to c.reset finish.Done) in
      let b = told_once k c.reset finish.Done in
      let z = nobody k in
      omega arith
  once_by k (holds stops) c = omega arith

  -- several changes
  pub once : (k : ℕ) (xs : List Change) (c : CommandState) → owns k (all_changed xs c) + ends_given k (all_changed xs c).notes
      ≡ owns k c + ends_given k c.notes + brought k xs
  once k [] c = omega arith
  once k (x ∷ xs) c =
      let a = once_by k x c in
      let b = once k xs (changed x c) in
      omega arith

  -- who has no command is given nothing by a change
  untold_joined : (k : ℕ) (aborts : Bool) (w : Wanted) (c : CommandState) → owns k c ≡ 0 →
      ends_given k (c.notes ++ (if aborts then end_notes finish.Aborted (queue_of c) else [])) ≡ ends_given k c.notes
  untold_joined k true w c h = let a = told_all k finish.Aborted c in omega arith
  untold_joined k false w c h = let a = told_more k c.notes [] in omega arith

  untold_taken : (k : ℕ) (t : Option ℤ) (ws : List Wanted) (c : CommandState) → ends_given k (taken_over t ws c).notes ≡ ends_given k c.notes
  untold_taken k t [] c = refl
  untold_taken k t (w ∷ ws) c = refl

  untold_by : (k : ℕ) (x : Change) (c : CommandState) → owns k c ≡ 0 → ends_given k (changed x c).notes ≡ ends_given k c.notes
  untold_by k (joins w) c h = untold_joined k (is_aborting w.mode) w c h
  untold_by k (replaced f next ws) c h = let a = told_all k f c in omega arith
  untold_by k (ends f target) c h =
      let t = untold_taken k target c.waiting (record c { active = None; notes = c.notes ++ active_note f c.active }) in
      let a = told_more k c.notes (active_note f c.active) in
      let b = told_active k f c.active in
      omega arith
  untold_by k (awaits owner) c h =
      let a = told_more k c.notes (told_to c.reset finish.Aborted) in
      let b = told_once k c.reset finish.Aborted in
      omega arith
  untold_by k resets c h =
      let a = told_more k c.notes (told_to c.reset finish.Done) in
      let b = told_once k c.reset finish.Done in
      omega arith
  untold_by k (holds stops) c h = refl

  untold_holds : (k : ℕ) (xs : List Change) (c : CommandState) → AreHolds xs → ends_given k (all_changed xs c).notes ≡ ends_given k c.notes
  untold_holds k [] c h = refl
  untold_holds k (holds stops ∷ xs) c h = untold_holds k xs (changed (holds stops) c) h
  untold_holds k (_ ∷ xs) c h = absurd h

  pub untold : (k : ℕ) (xs : List Change) (c : CommandState) → IsCall xs → owns k c ≡ 0 → ends_given k (all_changed xs c).notes ≡ ends_given k c.notes
  untold k [] c h e = refl
  untold k (ends f target ∷ xs) c h e = absurd h
  untold k (x ∷ xs) c h e = untold_holds k xs (changed x c) h ∙ untold_by k x c e

  -- changes that bring no command
  none_by : (k : ℕ) (x : Change) → BringsNone x → brought_by k x ≡ 0
  none_by k (joins w) h = absurd h
  none_by k (replaced f next ws) h =
      let a : owner_count k (owner_by next) ≡ 0 = ap (λ o. owner_count k (owner_by o)) h.0 ∙ nobody k in
      let b : waits_of k ws ≡ 0 = ap (waits_of k) h.1 in
      omega arith
  none_by k (awaits owner) h = absurd h
  none_by k (ends f target) h = refl
  none_by k resets h = refl
  none_by k (holds stops) h = refl

  pub none_brought : (k : ℕ) (xs : List Change) → BringNone xs → brought k xs ≡ 0
  none_brought k [] h = refl
  none_brought k (x ∷ xs) h =
      let a = none_by k x h.0 in
      let b = none_brought k xs h.1 in
      omega arith

  -- an owner that is taken away has nothing, and no other loses anything
  pub taken_away : (k : ℕ) (c : CommandState) → owns k (disowned k c) ≡ 0
  taken_away k c =
      let a = taken.active k c.active in
      let b = taken.waiting k c.waiting in
      let d = taken.reset k (Some (record { owner = c.reset })) in
      omega arith

  pub left : (j k : ℕ) (c : CommandState) → nat_eq k j ≡ false → owns j (disowned k c) ≡ owns j c
  left j k c h =
      let a = taken.others_active j k c.active h in
      let b = taken.others_waiting j k c.waiting h in
      let d = taken.others_reset j k (Some (record { owner = c.reset })) h in
      omega arith
