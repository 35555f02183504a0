-- Whoever holds an axis or a group in stopping is an instance whose block acts there, after every
-- past.
-- for: machines_can_stand, replies_show_commands, commands_are_where_their_instances_show and others
use Rattle.std.specs.Prelude.{◌≡◌, ℕ, ◌<◌, true, Some, List, slice_get}
use Rattle.std.proofs.Common.{arith}
use Rattle.plc_types.specs.declared.drive.DriveIn.{DriveIn}
use Rattle.command_core.specs.CommandState.{owns}
use Rattle.command_core.specs.Laws.{AreToldOnce, HaveCommands}
use Rattle.plc_types.specs.declared.inputs.Inputs.{Inputs}
use Rattle.motion_history.specs.Calls.{IsCall}
use Rattle.motion_history.specs.Entries.{Entry}
use Rattle.motion_history.specs.Setup.{Setup, IsSetup}
use Rattle.motion_kernel.specs.Histories.{IsPast, replay}
use Rattle.motion_kernel.specs.Machine.{Machine, machine_at_opening}
use Rattle.motion_kernel.specs.calls.Calls.{after_call}
use Rattle.motion_kernel.specs.cycles.Cycles.{after_cycle}
use Rattle.motion_kernel.specs.kept.Machine.{AreWhole, IsMachineKept}
use Rattle.motion_kernel.specs.owners.Blocks.{OwnersHaveBlocks, command_state_at}
use Rattle.motion_kernel.specs.owners.Commands.{CommandsAreShown}
use Rattle.motion_kernel.specs.owners.Objects.{a_group, an_axis, IsThere, Object, has_commands_on}
use Rattle.motion_kernel.proofs.owners.Blocks.{blocks_kept}
use Rattle.motion_kernel.proofs.owners.Counts.{shown_by}
use Rattle.motion_kernel.proofs.owners.Opening.{blocks_opened, nobody_holds}
use Rattle.motion_kernel.proofs.owners.commands.Events.{shown_where}
use Rattle.motion_kernel.proofs.walk.Calls.{by_call}
use Rattle.motion_kernel.proofs.walk.Cycles.{by_cycle}
use Rattle.motion_kernel.proofs.walk.Keeps.{Anyone, WalkLaws}
use Rattle.motion_laws.specs.owners.Holders.{HoldersHaveBlocks}
use Rattle.motion_laws.proofs.walk.Histories.{by_history}

-- whose commands are shown has its block there
pub have_blocks : (s : Setup) (m : Machine) → CommandsAreShown s m → HoldersHaveBlocks s m → OwnersHaveBlocks s m
have_blocks s m shown holders o there k = record { commands = commands o there; holds = holds o there }
  where
    commands : (o : Object) → IsThere m o → 0 < owns k (command_state_at m o) → has_commands_on (slice_get s.blocks k) o ≡ true
    commands (an_axis n) there l =
        shown_where (has_commands_on (slice_get s.blocks k) (an_axis n)) (shown_by m.instances k) (let x = shown k (an_axis n) there in omega arith)
    commands (a_group j) there l =
        shown_where (has_commands_on (slice_get s.blocks k) (a_group j)) (shown_by m.instances k) (let x = shown k (a_group j) there in omega arith)

    holds : (o : Object) → IsThere m o → (command_state_at m o).hold ≡ Some k → has_commands_on (slice_get s.blocks k) o ≡ true
    holds (an_axis n) there e = holders (an_axis n) there k e
    holds (a_group j) there e = holders (a_group j) there k e

pub holders_of : (s : Setup) (m : Machine) → OwnersHaveBlocks s m → HoldersHaveBlocks s m
holders_of s m h (an_axis n) there k e = (h (an_axis n) there k).holds e
holders_of s m h (a_group j) there k e = (h (a_group j) there k).holds e

module _ (laws : WalkLaws) (once : AreToldOnce) (hold : HaveCommands) where
  pub call_holders : (s : Setup) (m : Machine) (k : ℕ) (i : Inputs) → AreWhole s → IsCall s k i → IsMachineKept s m →
      CommandsAreShown s m → HoldersHaveBlocks s m → HoldersHaveBlocks s (after_call s m k i)
  call_holders s m k i whole made kept shown h =
      holders_of s (after_call s m k i) (by_call laws s Anyone (OwnersHaveBlocks s) (OwnersHaveBlocks s) (blocks_kept laws once hold s) k tt m i whole made kept (have_blocks s m shown h))

  pub cycle_holders : (s : Setup) (m : Machine) (ins : List DriveIn) → IsMachineKept s m →
      CommandsAreShown s m → HoldersHaveBlocks s m → HoldersHaveBlocks s (after_cycle s m ins)
  cycle_holders s m ins kept shown h =
      holders_of s (after_cycle s m ins) (by_cycle laws s Anyone (OwnersHaveBlocks s) (OwnersHaveBlocks s) (blocks_kept laws once hold s) m ins kept (have_blocks s m shown h))

pub opening_holders : (s : Setup) → HoldersHaveBlocks s (machine_at_opening s)
opening_holders s (an_axis n) there k e = absurd (let free = nobody_holds s (an_axis n) in cc)
opening_holders s (a_group j) there k e = absurd (let free = nobody_holds s (a_group j) in cc)

pub past_holders : WalkLaws → AreToldOnce → HaveCommands → (s : Setup) (es : List Entry) → IsSetup s → AreWhole s → IsPast s es →
    HoldersHaveBlocks s (replay s (machine_at_opening s) es)
past_holders laws once hold s es setup whole past =
    holders_of s (replay s (machine_at_opening s) es)
    (by_history laws s Anyone (OwnersHaveBlocks s) (OwnersHaveBlocks s) (blocks_kept laws once hold s) (λ k. tt) (blocks_opened s) es setup whole past)
