-- The line of the load's run was said, or there was no memory for it.
use Rattle.std.proofs.Common.{refl}
use Rattle.job_ends.proofs.PlanLaws.{said}
use Rattle.load_job.proofs.EndLaws.{ended-early, ended-run}
use Rattle.load_job.proofs.load.run_load.Goals as goal

pub returns-in_default : goal.returns-in_default
returns-in_default g c =
    ended-early (record {
      fill = c.loads_fill_their_room.ensures;
      step = c.runs_are_in_step.ensures;
      ending = c.room_is_enough.ensures.ending;
      entries = c.room_is_enough.ensures.entries;
    }) _ _ _ _ (record { status = refl; output = refl })

pub returns-in_default-run : goal.returns-in_default-run
returns-in_default-run g c =
    ended-early (record {
      fill = c.loads_fill_their_room.ensures;
      step = c.runs_are_in_step.ensures;
      ending = c.room_is_enough.ensures.ending;
      entries = c.room_is_enough.ensures.entries;
    }) _ _ _ _ (record { status = refl; output = refl })

pub returns : goal.returns
returns g c =
    let ran = c.in-Ok-run.ran in
    let history = c.history-history in
    ended-run (record {
      fill = c.loads_fill_their_room.ensures;
      step = c.runs_are_in_step.ensures;
      ending = c.room_is_enough.ensures.ending;
      entries = c.room_is_enough.ensures.entries;
    }) c.args.seed _ ran.kernel ran.drives.items ran.ending history.result.now.entries _ _ _
    c.in-Ok.ensures c.in-Ok-run.ensures.made history.ensures.entries c.in-Ok-run.ensures.legal
    (said _ _ _ _ _ _ c.load_line.ensures c.say.ensures)
