-- What the laws of owners, of what they are given, and of fates say (PLCopen Motion Control Part 1,
-- general rules).
use Rattle.std.specs.Prelude.{◌≡◌, ◌≢◌, ◌≤◌, ℕ, ◌+◌, Bool, false, nat_eq, Option, Some, None, List, [], ◌∷◌, ◌++◌, length, map}
use Rattle.command_pool.specs.Waiting.{detached, notes_of, told_to}
use Rattle.command_pool.specs.declared.ending.Finish.{Finish}
use Rattle.command_pool.specs.declared.notes.Note.{Note}
use Rattle.command_pool.specs.declared.wanted.Wanted.{Wanted}
use Rattle.buffer_modes.specs.Fates.{AreAmong, Fate, IsFate, TellsOwner, replaced}
use Rattle.buffer_modes.specs.Owners.{IsSame, active_without, owner_count, owner_by, ends_given, waits_of}
use Rattle.buffer_modes.specs.Queue.{active_note}
use Rattle.buffer_modes.specs.Resets.{replaced_note, reset_owner, reset_without}
use Rattle.buffer_modes.specs.declared.reset.PendingReset.{PendingReset}

-- how often an instance has commands, and how often it is notified of their ends
pub record AreOwners : Type 0 where
  -- no instance has a command without an owner
  pub nobody : (k : ℕ) → owner_count k None ≡ 0
  -- those that wait, and one after them
  pub waits_more : (k : ℕ) (ws : List Wanted) (w : Wanted) →
      waits_of k (ws ++ w ∷ []) ≡ waits_of k ws + owner_count k w.owner
  -- notes and others after them
  pub told_more : (k : ℕ) (notes others : List Note) →
      ends_given k (notes ++ others) ≡ ends_given k notes + ends_given k others
  -- an owner is notified once
  pub told_once : (k : ℕ) (o : Option ℕ) (f : Finish) → ends_given k (told_to o f) ≡ owner_count k o
  -- of the active command's end its owner is notified
  pub told_active : (k : ℕ) (f : Finish) (active : Option Wanted) →
      ends_given k (active_note f active) ≡ owner_count k (owner_by active)
  -- of the ends of those that wait theirs are
  pub told_waiting : (k : ℕ) (f : Finish) (ws : List Wanted) →
      ends_given k (notes_of f ws) ≡ waits_of k ws
  -- so is that of a Reset that is replaced
  pub told_reset : (k : ℕ) (p : Option PendingReset) →
      ends_given k (replaced_note p) ≡ owner_count k (reset_owner p)
  -- at most one note is about the active command's end
  pub few_active : (f : Finish) (active : Option Wanted) → length (active_note f active) ≤ 1
  -- and at most one of each that waits
  pub few_waiting : (f : Finish) (ws : List Wanted) → length (notes_of f ws) ≤ length ws

-- what an instance has after its commands were taken away from it, and what the others have
pub record AreTakenAway : Type 0 where
  -- it has no active command
  pub active : (k : ℕ) (active : Option Wanted) →
      owner_count k (owner_by (active_without k active)) ≡ 0
  -- none that waits
  pub waiting : (k : ℕ) (ws : List Wanted) → waits_of k (map (detached k) ws) ≡ 0
  -- and no pending Reset
  pub reset : (k : ℕ) (p : Option PendingReset) → owner_count k (reset_owner (reset_without k p)) ≡ 0
  -- another one keeps its active command
  pub others_active : (j k : ℕ) (active : Option Wanted) → nat_eq k j ≡ false →
      owner_count j (owner_by (active_without k active)) ≡ owner_count j (owner_by active)
  -- those that wait
  pub others_waiting : (j k : ℕ) (ws : List Wanted) → nat_eq k j ≡ false →
      waits_of j (map (detached k) ws) ≡ waits_of j ws
  -- and its pending Reset
  pub others_reset : (j k : ℕ) (p : Option PendingReset) → nat_eq k j ≡ false →
      owner_count j (reset_owner (reset_without k p)) ≡ owner_count j (reset_owner p)
  -- the active command is the same but for its owner
  pub same : (k : ℕ) (active : Option Wanted) → IsSame active (active_without k active)

-- what becomes of the active command
pub record AreFates : Type 0 where
  -- one that stays goes on, blended or not
  pub going : (blends : Bool) (before now : Option Wanted) → now ≡ before →
      IsFate (record { ends = None; begins = None; blends = blends }) before now
  -- another one or none is in its place
  pub ended : (f : Finish) (before next now : Option Wanted) → now ≡ next →
      IsFate (replaced f before next) before now
  -- it ends, blended or not
  pub over : (blends : Bool) (f : Finish) (before next now : Option Wanted) →
      before ≢ None → now ≡ next →
      IsFate (record { ends = Some f; begins = next; blends = blends }) before now

-- what is reported to the owner of the active command
pub record AreTellings : Type 0 where
  -- where the note of each end is among some notes, they give it
  pub tells : (f : Fate) (active : Option Wanted) (notes : List Note) →
      ((g : Finish) → f.ends ≡ Some g → AreAmong (active_note g active) notes) →
      TellsOwner f active notes
  -- so where one that is replaced ends
  pub replaces : (f : Finish) (active next : Option Wanted) (notes : List Note) →
      AreAmong (active_note f active) notes → TellsOwner (replaced f active next) active notes
