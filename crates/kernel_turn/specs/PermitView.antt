-- What a permit knows between two steps of the lock. This project's profile.
use Rattle.std.specs.Prelude.{ℕ, List, Bool, Option}
use Rattle.motion_history.specs.Entries.{Entry}
use Rattle.motion_history.specs.Setup.{Setup}
use Rattle.motion_kernel.specs.KernelState.{KernelState}

-- a permit: the configuration, whether it is the opening permit, the history that it has seen, a
-- history that lies aside until it is settled which of the two is longer, its own tickets, its
-- number in hand, the kernel as it was found by it, its marks on stops made and met, whether it
-- lives, and how many permits are out
pub record PermitView : Type 0 where
  pub config : Setup
  pub opening : Bool
  pub seen : List Entry
  pub aside : List Entry
  pub own : List ℕ
  pub hand : Option ℕ
  pub found : Option KernelState
  pub made_stop : Bool
  pub met_stop : Bool
  pub live : Bool
  pub out : ℕ
