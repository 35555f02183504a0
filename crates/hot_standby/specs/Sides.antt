-- What contracts see of a feed and of its standby. This project's profile.
use Rattle.std.specs.Prelude.{ℕ, Bool, List}
use Rattle.std.specs.declared.alloc.Global.{Global}
use denote.RawPtr.{Ptr}
use Rattle.motion_kernel.specs.KernelState.{KernelState}
use Rattle.hot_standby.specs.declared.event.FedEvent.{FedEvent}

-- a standby's ring: what distinguishes it from any other (where it lies, and under which names in
-- proofs), and how many slots it has
pub record Ring : Type 0 where
  pub words : Ptr
  pub slots : Ptr
  pub names : ℕ × (ℕ × ℕ)
  pub heap : Global
  pub room : ℕ

-- the first kernel's end of a ring
pub record FeedSide : Type 0 where
  pub ring : Ring
  -- the events pushed so far, the oldest first
  pub sent : List FedEvent
  -- how many slots it knows to be free
  pub free : ℕ

-- the second kernel with its end of a ring
pub record StandbySide : Type 0 where
  pub ring : Ring
  -- the events taken so far, the oldest first
  pub taken : List FedEvent
  -- the events that it knows to be in the ring, the next first
  pub waiting : List FedEvent
  -- the second kernel
  pub kernel : KernelState
  -- whether an event taken did not fit the kernel
  pub met_stranger : Bool
