-- Commands end by their kinds, by what is reported and what the kinds do.
use Rattle.motion_kernel.proofs.kept.Machine.{MachinesStayKept}
use Rattle.motion_laws.proofs.results.KindEnds.{end_by_kinds}
use Rattle.motion_kernel.proofs.walk.Keeps.{WalkLaws}
use Rattle.motion_laws.proofs.kind_laws.commands_end_by_their_kinds.Goals as goal

walk : (c : goal.After-group_changes_are_made) → WalkLaws
walk c =
    let m = c.machines_stay_kept.ensures in
    let machines : MachinesStayKept = record {
      opened = m.opened;
      call = m.call;
      may_go_on = m.may_go_on;
      cycle = m.cycle;
    } in
    record {
      machines = machines;
      may_call = m.may_call;
      axis = c.axis_changes_are_made.ensures;
      group = c.group_changes_are_made.ensures;
    }

pub returns : goal.returns
returns c = record {
  kinds = end_by_kinds (walk c) c.configurations_are_sound.ensures
      c.results_are_told.ensures.results;
}
