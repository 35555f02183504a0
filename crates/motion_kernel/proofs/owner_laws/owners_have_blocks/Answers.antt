-- Owners have their blocks, by what every event keeps.
use Rattle.motion_kernel.specs.owners.Blocks.{OwnersHaveBlocks}
use Rattle.motion_kernel.proofs.owners.Blocks.{blocks_kept}
use Rattle.motion_kernel.proofs.owners.Opening.{blocks_opened}
use Rattle.motion_kernel.proofs.walk.Calls.{by_call}
use Rattle.motion_kernel.proofs.walk.Cycles.{by_cycle}
use Rattle.motion_kernel.proofs.walk.Keeps.{Anyone, WalkLaws}
use Rattle.motion_kernel.proofs.owner_laws.owners_have_blocks.Goals as goal

laws : (c : goal.After-holders_have_commands) → WalkLaws
laws c =
    let m = c.machines_stay_kept.ensures in
    record {
      machines = record { opened = m.opened; call = m.call; may_go_on = m.may_go_on; cycle = m.cycle };
      may_call = m.may_call;
      axis = c.axis_changes_are_made.ensures;
      group = c.group_changes_are_made.ensures;
    }

pub returns-clause-opened : goal.returns-clause-opened
returns-clause-opened c = blocks_opened

pub returns-clause-call : goal.returns-clause-call
returns-clause-call c s m k i whole made kept h =
    by_call (laws c) s Anyone (OwnersHaveBlocks s) (OwnersHaveBlocks s)
    (blocks_kept (laws c) c.ends_are_told_once.ensures c.holders_have_commands.ensures s) k tt m i whole made kept h

pub returns-clause-cycle : goal.returns-clause-cycle
returns-clause-cycle c s m ins kept h =
    by_cycle (laws c) s Anyone (OwnersHaveBlocks s) (OwnersHaveBlocks s)
    (blocks_kept (laws c) c.ends_are_told_once.ensures c.holders_have_commands.ensures s) m ins kept h
