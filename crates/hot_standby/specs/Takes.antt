-- What taking an event does. This project's profile.
use Rattle.std.specs.Prelude.{◌≡◌, ◌<◌, [], ◌∷◌, ◌++◌, length, true}
use Rattle.hot_standby.specs.Events.{IsFit, kernel_after}
use Rattle.hot_standby.specs.Sides.{StandbySide}
use Rattle.hot_standby.specs.declared.event.FedEvent.{FedEvent}
use Rattle.hot_standby.specs.declared.event.Fed.{Fed}
use Rattle.hot_standby.specs.declared.event.Fed.TheVariants as fed

-- the event is the next of those known to be in the ring, if one is known
abbrev pub IsNext : StandbySide → StandbySide → FedEvent → Type 0
IsNext old new e = 0 < length old.waiting → old.waiting ≡ e ∷ new.waiting

-- an event that fits was taken and made
pub record IsApplied (old new : StandbySide) : Type 0 where
  pub event : FedEvent
  pub next : IsNext old new event
  pub fit : IsFit old.kernel event
  pub made : new ≡ record old {
    taken = old.taken ++ event ∷ [];
    waiting = new.waiting;
    kernel = kernel_after old.kernel event;
  }

-- an event that doesn't fit was taken, and the kernel is as it was
pub record IsMet (old new : StandbySide) (e : FedEvent) : Type 0 where
  pub next : IsNext old new e
  pub stranger : IsFit old.kernel e → ⊥
  pub met : new ≡ record old {
    taken = old.taken ++ e ∷ [];
    waiting = new.waiting;
    met_stranger = true;
  }

-- what taking an event does, by its answer
abbrev pub Takes : StandbySide → StandbySide → Fed → Type 0
Takes old new fed.Empty = new ≡ record old { waiting = [] }
Takes old new fed.Applied = IsApplied old new
Takes old new (fed.Stranger e) = IsMet old new e
