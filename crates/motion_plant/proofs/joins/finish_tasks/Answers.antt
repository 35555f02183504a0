-- The permit of one task more is joined.
use Rattle.std.proofs.Common.{rules, ◌≡◌, ◌+◌, ◌<◌, suc, length, refl, ap, ◌∙◌, arith, subst, None}
use Rattle.std.specs.Prelude.{slice_get}
use Rattle.outside.specs.Started.{Started}
use Rattle.kernel_turn.specs.PermitState.{PermitState}
use Rattle.motion_plant.specs.Jobs.{job_lines}
use Rattle.motion_plant.specs.Joined.{IsJoinedUpTo}
use Rattle.motion_plant.specs.Makers.{own_entries}
use Rattle.motion_plant.specs.TaskEnds.{TaskMade}
use Rattle.motion_plant.proofs.AllJoined.{joined_none, joined_one}
use Rattle.motion_plant.proofs.Lists.{get_or_at, get_else, length_set, get_some}
use Rattle.motion_plant.proofs.JoinedPasses.{done_owns, joined_first, joined_more, tasks_more}
use Rattle.motion_plant.proofs.joins.finish_tasks.Goals as goal

pub loop-i-init : goal.loop-i-init
loop-i-init g c = record {
  joined = joined_first c.args.permit.now c.requires.owns;
  tasks = λ n z lt at. absurd (omega arith);
  rest = λ n le. refl;
  faults = refl;
  count = refl;
  gone = joined_none _ _;
}

pub finish_task-requires-clause-started : goal.finish_task-requires-clause-started
finish_task-requires-clause-started g c κs within =
    let at = get_or_at c.args.seats.now.items c.loop-i.i c.index.result.now
    (search rules) c.index.ensures in
    c.loop-i.invariant.rest (c.args.base + c.loop-i.i) (omega arith) ∙
    c.requires.started c.loop-i.i c.index.result.now at

pub finish_task-requires-clause-own : goal.finish_task-requires-clause-own
finish_task-requires-clause-own g c κs within =
    let at = get_or_at c.args.seats.now.items c.loop-i.i c.index.result.now
    (search rules) c.index.ensures in
    let k = c.loop-i.invariant.joined.kept in (
      ap (λ (p : PermitState). p.table) k ∙ c.requires.own.0,
      ap (λ (p : PermitState). p.opening) k ∙
          c.requires.own.1,
      (c.requires.seats c.loop-i.i c.index.result.now at).table_is,
    )

pub loop-i-preserved : goal.loop-i-preserved
loop-i-preserved g c =
    let inv = c.loop-i.invariant in
    let lt : c.loop-i.i < length c.args.seats.now.items = search rules in
    let at = get_or_at c.args.seats.now.items c.loop-i.i c.index.result.now lt c.index.ensures in
    let t = c.finish_task.ensures.taken in
    let z = c.requires.seats c.loop-i.i c.index.result.now at in
    let owns = done_owns c.args.permit.now.config c.loop-i.i c.index.result.now.value t.0 t.1 z.config
    z.task in
    let none = ap (λ (p : PermitState). p.made_stop) t.1.fixed ∙ z.stops in
    let out = c.requires.own.2 in
    let few : c.loop-i.i < c.args.permit.now.out = omega arith in
    let e : suc c.loop-i.i ≡ c.loop-i.i + 1 = omega arith in
    let n = ap (λ (s : Started _). length s.jobs) c.finish_task.ensures.joined in
    record {
      joined = subst (λ k. IsJoinedUpTo (own_entries c.args.permit.now.own c.args.permit.now.seen)
          c.args.permit.now k c.finish_task.new.permit) e
          (joined_more _ c.args.permit.now c.loop-i.permit t.0.permit c.finish_task.new.permit c.loop-i.i
          inv.joined owns t.2 few none);
      tasks = tasks_more _ c.args.permit.now c.loop-i.permit t.0.permit c.finish_task.new.permit c.loop-i.i
          inv.joined owns t.2 c.args.seats.now.items c.index.result.now t.0.ended at inv.tasks
          (subst (λ k. TaskMade (job_lines c.index.result.now.value) k t.0.ended
          (own_entries t.0.permit.own t.0.permit.seen)) z.task t.1.made);
      rest = λ n le. ap (λ (s : Started _). slice_get s.jobs n) c.finish_task.ensures.joined ∙
          get_else c.loop-i.spawner.jobs (c.args.base + c.loop-i.i) n None (λ e. omega arith) ∙
          inv.rest n (omega arith);
      faults = ap (λ (s : Started _). s.faults) c.finish_task.ensures.joined ∙ inv.faults;
      count = n ∙ length_set c.loop-i.spawner.jobs (c.args.base + c.loop-i.i) None ∙ inv.count;
      gone = joined_one c.args.spawner.now.jobs c.loop-i.spawner.jobs _ c.args.base c.loop-i.i
          inv.gone (get_some c.args.spawner.now.jobs (c.args.base + c.loop-i.i) _
          (c.requires.started c.loop-i.i c.index.result.now at))
          (ap (λ (s : Started _). s.jobs) c.finish_task.ensures.joined);
    }

pub returns-clause-tasks : goal.returns-clause-tasks
returns-clause-tasks g c = λ n z at.
    let l = get_some c.args.seats.now.items n z at in
    let e : c.loop-i.i ≡ length c.args.seats.now.items = search rules in
    c.loop-i.invariant.tasks n z (omega arith) at
