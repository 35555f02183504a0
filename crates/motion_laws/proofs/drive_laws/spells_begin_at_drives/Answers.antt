-- Spells begin at drives, by the laws of the machine and of its axes.
use Rattle.motion_laws.proofs.limits.Drives.{DriveLaws, rows_driven, spells_begin}
use Rattle.motion_laws.proofs.drive_laws.spells_begin_at_drives.Goals as goal

laws : (c : goal.After-axes_keep_their_definitions) → DriveLaws
laws c =
    let m = c.machines_stay_kept.ensures in
    let d = c.axes_keep_their_definitions.ensures in
    record {
      machines = record { opened = m.opened; call = m.call; may_go_on = m.may_go_on; cycle = m.cycle };
      definitions = record { command = d.command; power = d.power; detach = d.detach; path = d.path; cycle = d.cycle };
    }

pub returns-clause-spells : goal.returns-clause-spells
returns-clause-spells c =
    let stay = c.calls_move_no_axis.ensures in
    spells_begin (laws c) (record { command = stay.command; power = stay.power; detach = stay.detach; path = stay.path })

pub returns-clause-driven : goal.returns-clause-driven
returns-clause-driven c = rows_driven (laws c)
