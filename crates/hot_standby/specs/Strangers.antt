-- The first event that doesn't fit. This project's profile.
use Rattle.std.specs.Prelude.{◌≡◌, List, ◌∷◌, ◌++◌}
use Rattle.motion_kernel.specs.KernelState.{KernelState}
use Rattle.hot_standby.specs.Events.{AreFit, IsFit, kernel_after_all}
use Rattle.hot_standby.specs.declared.event.FedEvent.{FedEvent}

-- the event doesn't fit the kernel after the events before it, each of which fits
pub record IsFirstStranger (k : KernelState) (es : List FedEvent) (e : FedEvent) : Type 0 where
  pub before : List FedEvent
  pub behind : List FedEvent
  pub among : es ≡ before ++ e ∷ behind
  pub fit : AreFit k before
  pub stranger : IsFit (kernel_after_all k before) e → ⊥
