-- Commands are where their instances show, and who holds has its block there, after every past
-- history.
-- for: machines_can_stand, replies_show_commands, commands_are_where_their_instances_show and others
use Rattle.std.specs.Prelude.{ℕ, List}
use Rattle.plc_types.specs.declared.drive.DriveIn.{DriveIn}
use Rattle.plc_types.specs.declared.inputs.Inputs.{Inputs}
use Rattle.motion_history.specs.Calls.{IsCall}
use Rattle.motion_history.specs.Entries.{Entry}
use Rattle.motion_history.specs.Setup.{Setup, IsSetup}
use Rattle.motion_kernel.specs.Histories.{IsPast, machine_after}
use Rattle.motion_kernel.specs.Machine.{Machine, machine_at_opening}
use Rattle.motion_kernel.specs.calls.Calls.{after_call}
use Rattle.motion_kernel.specs.cycles.Cycles.{after_cycle}
use Rattle.motion_kernel.specs.kept.Machine.{AreWhole, IsMachineKept}
use Rattle.motion_laws.specs.owners.Shown.{AreWhereShown}
use Rattle.motion_laws.proofs.owners.Holders.{call_holders, cycle_holders, past_holders, opening_holders}
use Rattle.motion_laws.proofs.owners.Kept.{call_truly_shown, cycle_truly_shown, past_truly_shown}
use Rattle.motion_laws.proofs.owners.active.Cycles.{opening_truly_shown}
use Rattle.motion_kernel.proofs.owners.commands.Events.{OwnerLaws}

pub opening_all_shown : (s : Setup) → AreWhereShown s (machine_at_opening s)
opening_all_shown s =
    let truly = opening_truly_shown s in
    record { commands = truly.commands; active = truly.active; holders = opening_holders s }

module _ (laws : OwnerLaws) where
  pub call_all_shown : (s : Setup) (m : Machine) (k : ℕ) (i : Inputs) → AreWhole s → IsCall s k i → IsMachineKept s m →
      AreWhereShown s m → AreWhereShown s (after_call s m k i)
  call_all_shown s m k i whole made kept h =
      let truly = call_truly_shown laws s m k i whole made kept (record { commands = h.commands; active = h.active }) in
      record {
        commands = truly.commands;
        active = truly.active;
        holders = call_holders laws.walk laws.once laws.hold s m k i whole made kept h.commands h.holders;
      }

  pub cycle_all_shown : (s : Setup) (m : Machine) (ins : List DriveIn) → IsMachineKept s m → AreWhereShown s m →
      AreWhereShown s (after_cycle s m ins)
  cycle_all_shown s m ins kept h =
      let truly = cycle_truly_shown laws s m ins kept (record { commands = h.commands; active = h.active }) in
      record {
        commands = truly.commands;
        active = truly.active;
        holders = cycle_holders laws.walk laws.once laws.hold s m ins kept h.commands h.holders;
      }

  pub past_all_shown : (s : Setup) (es : List Entry) → IsSetup s → AreWhole s → IsPast s es → AreWhereShown s (machine_after s es)
  unfolding machine_after
  past_all_shown s es setup whole past =
      let truly = past_truly_shown laws s es setup whole past in
      record {
        commands = truly.commands;
        active = truly.active;
        holders = past_holders laws.walk laws.once laws.hold s es setup whole past;
      }
