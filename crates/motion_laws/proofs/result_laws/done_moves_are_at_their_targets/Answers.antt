-- Done moves are at their targets, by what is reported and where moves arrive.
use Rattle.motion_kernel.proofs.kept.Machine.{MachinesStayKept}
use Rattle.motion_laws.proofs.results.Targets.{moves_end_there}
use Rattle.motion_kernel.proofs.walk.Keeps.{WalkLaws}
use Rattle.motion_laws.proofs.result_laws.done_moves_are_at_their_targets.Goals as goal

walk : (c : goal.After-group_changes_are_made) → WalkLaws
walk c =
    let m = c.machines_stay_kept.ensures in
    let machines : MachinesStayKept = record { opened = m.opened; call = m.call; may_go_on = m.may_go_on; cycle = m.cycle } in
    record {
      machines = machines;
      may_call = m.may_call;
      axis = c.axis_changes_are_made.ensures;
      group = c.group_changes_are_made.ensures;
    }

pub returns : goal.returns
returns c = record {
  targets = moves_end_there (walk c) c.configurations_are_sound.ensures c.results_are_told.ensures.results c.moves_arrive_in_time.ensures.moves;
}
