-- One task more is joined.
use Rattle.std.proofs.Common.{rules, ◌+◌, ap, ◌∙◌, arith, None}
use Rattle.std.specs.Prelude.{slice_get}
use Rattle.outside.specs.Started.{Started}
use Rattle.motion_plant.proofs.AllJoined.{joined_one}
use Rattle.motion_plant.proofs.Lists.{get_else, get_or_at, get_some}
use Rattle.motion_plant.proofs.give_up.drop_tasks.Goals as goal

pub join_task-requires-clause-started : goal.join_task-requires-clause-started
join_task-requires-clause-started g c κs within =
    let at = get_or_at c.args.seats.now.items c.loop-i.i c.index.result.now
    (search rules) c.index.ensures in
    c.loop-i.invariant.rest (c.args.base + c.loop-i.i) (omega arith) ∙
    c.requires.started c.loop-i.i c.index.result.now at

pub loop-i-preserved : goal.loop-i-preserved
loop-i-preserved g c =
    let at = get_or_at c.args.seats.now.items c.loop-i.i c.index.result.now
    (search rules) c.index.ensures in
    record {
      rest = λ n le. ap (λ (s : Started _). slice_get s.jobs n) c.join_task.ensures.joined ∙
          get_else c.loop-i.spawner.jobs (c.args.base + c.loop-i.i) n None (λ e. omega arith) ∙
          c.loop-i.invariant.rest n (omega arith);
      faults = ap (λ (s : Started _). s.faults) c.join_task.ensures.joined ∙ c.loop-i.invariant.faults;
      joined = joined_one c.args.spawner.now.jobs c.loop-i.spawner.jobs _ c.args.base c.loop-i.i
          c.loop-i.invariant.joined (get_some c.args.spawner.now.jobs (c.args.base + c.loop-i.i) _
          (c.requires.started c.loop-i.i c.index.result.now at))
          (ap (λ (s : Started _). s.jobs) c.join_task.ensures.joined);
    }
