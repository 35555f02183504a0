-- A program came to its end, and its task ended where there was room.
use Rattle.std.proofs.Common.{rules}
use Rattle.motion_plant.proofs.LoggedCalls.{task_done}
use Rattle.motion_plant.proofs.task_job.run_program.Goals as goal

pub returns : goal.returns
returns g c =
    let m = c.make_calls-permit.ensures in
    let e = c.end_task-ended.ensures in
    record {
      done = task_done c.args.permit c.args.turns.now.task _ c.make_calls-permit.result.0
          c.end_task-ended.new.permit c.end_task-ended.result m.fixed e.fixed e.owns m.calls m.follows
          (m.through (search rules)) e.ended e.refused e.cut;
    }
