-- What contracts see of a permit. This project's profile.
use Rattle.std.specs.Prelude.{ℕ, List, Bool}
use Rattle.atomic_table.specs.Seated.{TableId}
use Rattle.motion_history.specs.Entries.{Entry}
use Rattle.motion_history.specs.Setup.{Setup}

-- a permit: whose it is, whether it is the opening permit, the configuration, the history that it
-- has seen, its own tickets, whether it has made and met a stop, and how many permits are out
pub record PermitState : Type 0 where
  pub table : TableId
  pub opening : Bool
  pub config : Setup
  pub seen : List Entry
  pub own : List ℕ
  pub made_stop : Bool
  pub met_stop : Bool
  pub out : ℕ
