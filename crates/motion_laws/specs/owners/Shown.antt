-- Where the commands of instances are, and what an instance shows of its own (PLCopen Motion
-- Control Part 1, general rules).
use Rattle.std.specs.Prelude.{◌≡◌, ◌⊎◌, ℕ, true}
use Rattle.fb_outputs.specs.Steps.{is_stop}
use Rattle.plc_types.specs.declared.outputs.Outputs.{Outputs}
use Rattle.motion_history.specs.Setup.{Setup}
use Rattle.motion_history.specs.declared.config.BlockDef.{BlockDef}
use Rattle.motion_kernel.specs.Machine.{Machine}
use Rattle.motion_kernel.specs.owners.Commands.{ActiveAreShown, CommandsAreShown, active_at, commands_at}
use Rattle.motion_laws.specs.owners.Holders.{HoldersHaveBlocks}
use Rattle.motion_kernel.specs.owners.Objects.{object_of}

-- commands are where their instances show: none where an instance is Idle or Ended, one that waits,
-- or is a pending reset, where it is Waiting, and the active one where it is Active
pub record AreWhereShown (s : Setup) (m : Machine) : Type 0 where
  pub commands : CommandsAreShown s m
  pub active : ActiveAreShown s m
  pub holders : HoldersHaveBlocks s m

-- a Stop or GroupStop is Active with its Done, while it holds its axis or group. MC_Stop
pub record IsHeld (b : BlockDef) (reply : Outputs) : Type 0 where
  pub stop : is_stop b.kind ≡ true
  pub done : reply.done ≡ true

-- a reply shows Busy exactly while its instance has a command after the call, and Active exactly
-- while that is the active one, but for a Stop that holds
pub record ShowsCommand (m : Machine) (k : ℕ) (b : BlockDef) (reply : Outputs) : Type 0 where
  pub busy : reply.busy ≡ true → commands_at m k (object_of b) ≡ 1
  pub has : commands_at m k (object_of b) ≡ 1 → reply.busy ≡ true
  pub active : reply.active ≡ true → (active_at m k (object_of b) ≡ 1) ⊎ IsHeld b reply
  pub leads : active_at m k (object_of b) ≡ 1 → reply.active ≡ true
