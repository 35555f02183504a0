-- Why a run ends before all its events were made. This project's profile.
use Rattle.std.specs.Prelude.{◌≡◌, ◌≤◌, ◌<◌, true, Ok, List, ◌∷◌, ◌++◌, length}
use Rattle.motion_history.specs.Entries.{Entry, cycles_of}
use Rattle.motion_history.specs.Setup.{Setup}
use Rattle.bench_run.specs.Run.{Event, Run, is_cycle, made_all}

-- events one after another end at one of them: those before it were made, and after their history
-- it can't be, for this reason
pub record EndsAt (s : Setup) (r : Run) (events : List Event)
    (Reason : Event → List Entry → Type 0) : Type 0 where
  pub before : List Event
  pub event : Event
  pub more : List Event
  pub split : events ≡ before ++ event ∷ more
  pub made : (made_all s before r).ending ≡ Ok tt
  pub reason : Reason event (made_all s before r).history

-- the event is a cycle, and none is left
pub record IsOver (s : Setup) (event : Event) (history : List Entry) : Type 0 where
  pub cycle : is_cycle event ≡ true
  pub none_left : s.cycles ≤ cycles_of history

-- the history is full, and of cycles, where the event is one, one is left
pub record IsFull (s : Setup) (event : Event) (history : List Entry) : Type 0 where
  pub full : s.entries ≤ length history
  pub cycle_left : is_cycle event ≡ true → cycles_of history < s.cycles
