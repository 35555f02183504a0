-- What the laws of changes say (PLCopen Motion Control Part 1, general rules).
use Rattle.std.specs.Prelude.{◌≡◌, ◌⊎◌, ◌<◌, ◌≤◌, ℕ, ◌+◌, true, false, nat_eq, Some, None, List, [], ◌++◌, length}
use Rattle.buffer_modes.specs.Fates.{IsFate, TellsOwner}
use Rattle.buffer_modes.specs.Owners.{ends_given}
use Rattle.buffer_modes.specs.Queue.{is_active_at_once}
use Rattle.command_pool.specs.declared.wanted.Wanted.{Wanted}
use Rattle.command_core.specs.Brought.{BringNone, brought}
use Rattle.command_core.specs.Calls.{IsCall}
use Rattle.command_core.specs.Changes.{AllFit, Change, all_changed, changed, joins}
use Rattle.command_core.specs.CommandState.{AreApart, CommandState, active_of, disowned, owns, queue_of, waiting_of}
use Rattle.command_core.specs.Ends.{end_among}
use Rattle.command_core.specs.Fates.{fate_in}

-- changes one after another
pub record AreInOrder : Type 0 where
  -- some changes, and then others
  pub more : (xs ys : List Change) (c : CommandState) →
      all_changed (xs ++ ys) c ≡ all_changed ys (all_changed xs c)
  -- what is reported is what was reported before, and what the changes report
  pub notes : (xs : List Change) (c : CommandState) →
      all_changed xs c
      ≡ (let d : CommandState = all_changed xs (record c { notes = [] }) in
      record d { notes = c.notes ++ d.notes })
  -- where neither bring a command, both together bring none
  pub none : (xs ys : List Change) → BringNone xs → BringNone ys → BringNone (xs ++ ys)
  -- a command that joins at once is active then
  pub at_once : (w : Wanted) (c : CommandState) → is_active_at_once (queue_of c) w ≡ true →
      (changed (joins w) c).active ≡ Some w
  -- else the active one stays
  pub later : (w : Wanted) (c : CommandState) → is_active_at_once (queue_of c) w ≡ false →
      (changed (joins w) c).active ≡ c.active

-- what instances have and what they are given
pub record AreToldOnce : Type 0 where
  -- both together stay the same, but for the commands that are brought
  pub once : (k : ℕ) (xs : List Change) (c : CommandState) →
      owns k (all_changed xs c) + ends_given k (all_changed xs c).notes
      ≡ owns k c + ends_given k c.notes + brought k xs
  -- one that has no command is given nothing in a call: it has what that brings
  pub untold : (k : ℕ) (xs : List Change) (c : CommandState) → IsCall xs → owns k c ≡ 0 →
      ends_given k (all_changed xs c).notes ≡ ends_given k c.notes
  -- changes that bring no command bring none of an instance
  pub none : (k : ℕ) (xs : List Change) → BringNone xs → brought k xs ≡ 0
  -- an instance whose commands are taken away has none
  pub taken_away : (k : ℕ) (c : CommandState) → owns k (disowned k c) ≡ 0
  -- and the others keep theirs
  pub left : (j k : ℕ) (c : CommandState) → nat_eq k j ≡ false → owns j (disowned k c) ≡ owns j c

-- no more commands of an instance are there than before and those that are brought
pub record HaveNoMore : Type 0 where
  -- that wait
  pub waiting : (k : ℕ) (xs : List Change) (c : CommandState) →
      waiting_of k (all_changed xs c) ≤ waiting_of k c + brought k xs
  -- that are active: in a call none takes over
  pub active : (k : ℕ) (xs : List Change) (c : CommandState) → IsCall xs →
      active_of k (all_changed xs c) ≤ active_of k c + brought k xs
  -- where an instance loses its commands, the others keep their active ones
  pub left : (j k : ℕ) (c : CommandState) → nat_eq k j ≡ false →
      active_of j (disowned k c) ≡ active_of j c

-- where no instance has two commands
pub record StayApart : Type 0 where
  -- none has after changes that bring none to one that has one
  pub changes : (xs : List Change) (c : CommandState) → AreApart c → c.notes ≡ [] →
      ((k : ℕ) → owns k c + brought k xs ≤ 1) → AreApart (all_changed xs c)
  -- nor after one has lost its commands
  pub detach : (owner : ℕ) (c : CommandState) → AreApart c → AreApart (disowned owner c)

-- whoever holds stopping held it before, or had a command, or brings one
pub record HaveCommands : Type 0 where
  pub held : (k : ℕ) (xs : List Change) (c : CommandState) → c.notes ≡ [] →
      (all_changed xs c).hold ≡ Some k → (c.hold ≡ Some k) ⊎ (0 < owns k c + brought k xs)

-- how many wait
pub record WaitAtMost : Type 0 where
  -- at most eight, where each that is brought finds its place
  pub eight : (xs : List Change) (c : CommandState) → AllFit xs c → length c.waiting ≤ 8 →
      length (all_changed xs c).waiting ≤ 8
  -- no more than before, where none is brought
  pub before : (xs : List Change) (c : CommandState) → BringNone xs →
      length (all_changed xs c).waiting ≤ length c.waiting

-- what becomes of the active command
pub record AreOfChanges : Type 0 where
  -- changes make of it what their fate says
  pub fates : (xs : List Change) (c : CommandState) →
      IsFate (fate_in xs c) c.active (all_changed xs c).active
  -- where it neither ends nor another begins, it is the same, its owner too
  pub goes_on : (xs : List Change) (c : CommandState) → (fate_in xs c).ends ≡ None →
      (fate_in xs c).begins ≡ None → (all_changed xs c).active ≡ c.active
  -- and its owner is notified how it ends
  pub told : (xs : List Change) (c : CommandState) →
      TellsOwner (fate_in xs c) c.active (all_changed xs c).notes
  -- and that alone, where it has no other command and is brought none
  pub end : (k : ℕ) (xs : List Change) (c : CommandState) → c.notes ≡ [] → owns k c ≤ 1 →
      brought k xs ≡ 0 → active_of k c ≡ 1 →
      end_among k (all_changed xs c).notes ≡ (fate_in xs c).ends
