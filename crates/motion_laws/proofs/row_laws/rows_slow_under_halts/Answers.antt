-- Rows slow down under Halts, by the laws of rows and of braking steps.
use Rattle.motion_laws.proofs.arrivals.Slowing.{SlowLaws, halts_slow}
use Rattle.motion_laws.proofs.row_laws.rows_slow_under_halts.Goals as goal

laws : (c : goal.After-braking_steps_are_only_cut) → SlowLaws
laws c =
    let m = c.machines_stay_kept.ensures in
    record {
      machines = record {
        opened = m.opened;
        call = m.call;
        may_go_on = m.may_go_on;
        cycle = m.cycle;
      };
      braking = c.braking_steps_are_only_cut.ensures;
      rows = c.rows_show_the_machine.ensures.entries;
    }

pub returns : goal.returns
returns c = record { rows = halts_slow (laws c) }
