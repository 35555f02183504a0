-- The jobs of the drives are those that were started.
use Rattle.std.proofs.Common.{length, ap, ◌∙◌, refl, arith, rules}
use Rattle.motion_plant.specs.Lines.{ended_line}
use Rattle.motion_plant.proofs.AllJoined.{joined_both}
use Rattle.motion_plant.proofs.Lists.{length_map}
use Rattle.motion_plant.proofs.Meets.{still_started}
use Rattle.motion_plant.proofs.give_up.give_up.Goals as goal

pub drop_drives-requires-clause-started : goal.drop_drives-requires-clause-started
drop_drives-requires-clause-started g c κs within =
    still_started c.args.spawner.now.jobs c.args.jobs.base c.args.jobs.lines.items c.args.jobs.lines.items
    c.end_all.new.lines.items c.requires.started.0 refl c.end_all.ensures.ended

pub returns-clause-joined : goal.returns-clause-joined
returns-clause-joined g c =
    let n = ap length c.end_all.ensures.ended ∙ length_map ended_line c.args.jobs.lines.items in
    joined_both c.args.spawner.now.jobs c.drop_drives.new.spawner.jobs c.drop_tasks.new.spawner.jobs
    c.args.jobs.base _ _ _ _ c.drop_drives.ensures.joined c.drop_tasks.ensures.joined
    (search rules) (omega arith)
