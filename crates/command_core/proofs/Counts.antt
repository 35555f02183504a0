-- Of each instance no more commands wait or are active than before and those that are brought.
-- for: commands_come_from_calls
use Rattle.std.specs.Prelude.{◌≡◌, ◌≤◌, refl, ℕ, ◌+◌, Bool, true, false, nat_eq, ℤ, Option, Some, None, List, [], ◌∷◌, ◌++◌, if◌then◌else◌}
use Rattle.std.proofs.Common.{ap, arith}
use Rattle.buffer_modes.specs.Laws.{AreOwners, AreTakenAway}
use Rattle.buffer_modes.specs.Owners.{owner_count, owner_by, waits_of}
use Rattle.buffer_modes.specs.Queue.{Commands, active_note, behind, is_aborting}
use Rattle.command_pool.specs.declared.wanted.Wanted.{Wanted}
use Rattle.command_core.specs.Brought.{brought, brought_by}
use Rattle.command_core.specs.Calls.{AreHolds, IsCall}
use Rattle.command_core.specs.Changes.{Change, joins, replaced, ends, awaits, resets, holds, all_changed, changed, taken_over}
use Rattle.command_core.specs.CommandState.{CommandState, active_of, disowned, waiting_of}

module _ (owners : AreOwners) (taken : AreTakenAway) where
  open owners use {nobody, waits_more}

  -- those that wait
  joined_waits : (k : ℕ) (aborts : Bool) (active : Option Wanted) (ws : List Wanted) (w : Wanted) →
      waits_of k (let after : Commands = if aborts then record { active = Some w; waiting = [] } else behind active ws w in after).waiting
      ≤ waits_of k ws + owner_count k w.owner
  joined_waits k true active ws w = omega arith
  joined_waits k false None ws w = omega arith
  joined_waits k false (Some v) ws w = let m = waits_more k ws w in omega arith

  taken_waits : (k : ℕ) (t : Option ℤ) (ws : List Wanted) (c : CommandState) → c.waiting ≡ ws → waiting_of k (taken_over t ws c) ≤ waiting_of k c
  taken_waits k t [] c e = omega arith
  taken_waits k t (w ∷ ws) c e = let all : waits_of k c.waiting ≡ owner_count k w.owner + waits_of k ws = ap (waits_of k) e in omega arith

  waits_by : (k : ℕ) (x : Change) (c : CommandState) → waiting_of k (changed x c) ≤ waiting_of k c + brought_by k x
  waits_by k (joins w) c = let j = joined_waits k (is_aborting w.mode) c.active c.waiting w in omega arith
  waits_by k (replaced f next ws) c = omega arith
  waits_by k (ends f target) c =
      let t = taken_waits k target c.waiting (record c { active = None; notes = c.notes ++ active_note f c.active }) refl in omega arith
  waits_by k (awaits owner) c = omega arith
  waits_by k resets c = let z = nobody k in omega arith
  waits_by k (holds stops) c = omega arith

  pub waits : (k : ℕ) (xs : List Change) (c : CommandState) → waiting_of k (all_changed xs c) ≤ waiting_of k c + brought k xs
  waits k [] c = omega arith
  waits k (x ∷ xs) c =
      let a = waits_by k x c in
      let b = waits k xs (changed x c) in
      omega arith

  -- the active one, where none takes over
  joined_active : (k : ℕ) (aborts : Bool) (active : Option Wanted) (ws : List Wanted) (w : Wanted) →
      owner_count k (owner_by (let after : Commands = if aborts then record { active = Some w; waiting = [] } else behind active ws w in after).active)
      ≤ owner_count k (owner_by active) + owner_count k w.owner
  joined_active k true active ws w = omega arith
  joined_active k false None ws w = omega arith
  joined_active k false (Some v) ws w = omega arith

  holds_active : (k : ℕ) (xs : List Change) (c : CommandState) → AreHolds xs → active_of k (all_changed xs c) ≡ active_of k c
  holds_active k [] c h = refl
  holds_active k (holds stops ∷ xs) c h = holds_active k xs (changed (holds stops) c) h
  holds_active k (_ ∷ xs) c h = absurd h

  pub active : (k : ℕ) (xs : List Change) (c : CommandState) → IsCall xs → active_of k (all_changed xs c) ≤ active_of k c + brought k xs
  active k [] c h = omega arith
  active k (joins w ∷ xs) c h =
      let a = holds_active k xs (changed (joins w) c) h in
      let j = joined_active k (is_aborting w.mode) c.active c.waiting w in
      omega arith
  active k (replaced f next ws ∷ xs) c h = let a = holds_active k xs (changed (replaced f next ws) c) h in omega arith
  active k (ends f target ∷ xs) c h = absurd h
  active k (awaits owner ∷ xs) c h = let a = holds_active k xs (changed (awaits owner) c) h in omega arith
  active k (resets ∷ xs) c h = let a = holds_active k xs (changed resets c) h in omega arith
  active k (holds stops ∷ xs) c h = let a = holds_active k xs (changed (holds stops) c) h in omega arith

  pub active_left : (j k : ℕ) (c : CommandState) → nat_eq k j ≡ false → active_of j (disowned k c) ≡ active_of j c
  active_left j k c h = taken.others_active j k c.active h
