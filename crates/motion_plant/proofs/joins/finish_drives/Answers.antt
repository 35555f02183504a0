-- The log of one line more is had.
use Rattle.std.proofs.Common.{rules, ◌≡◌, ◌+◌, length, ap, ◌∙◌, sym, arith, subst, None}
use Rattle.std.specs.Prelude.{slice_get}
use Rattle.outside.specs.Started.{Started}
use Rattle.motion_plant.specs.Lines.{IsLogAt}
use Rattle.motion_plant.specs.Places.{Each}
use Rattle.motion_plant.proofs.AllJoined.{joined_one}
use Rattle.motion_plant.proofs.Lists.{each_more, get_else, get_or_at, get_some, length_set}
use Rattle.motion_plant.proofs.joins.finish_drives.Goals as goal

pub loop-i-preserved : goal.loop-i-preserved
loop-i-preserved g c =
    let inv = c.loop-i.invariant in
    let lt = c.loop-i-test.true in
    let at = get_or_at c.loop-i.lines.items c.loop-i.i c.index_mut.result.now
    (search rules) c.index_mut.ensures.value in
    let f = c.finish_drive-log.ensures in
    let first = sym (inv.left c.loop-i.i (omega arith)) ∙ at in
    let len : length c.loop-i.logs.items ≡ c.loop-i.i = search rules in
    let n = ap (λ (s : Started _). length s.jobs) f.joined in
    record {
      left = λ n le. get_else c.loop-i.lines.items c.loop-i.i n _ (λ e. omega arith) ∙
          inv.left n (omega arith);
      width = length_set c.loop-i.lines.items c.loop-i.i _ ∙ inv.width;
      logs = subst (Each (IsLogAt c.args.lines.now.items)) (sym c.push_within.ensures.items)
          (each_more (IsLogAt c.args.lines.now.items) c.loop-i.logs.items c.finish_drive-log.result
          inv.logs (subst (λ k. IsLogAt c.args.lines.now.items k c.finish_drive-log.result)
          (sym len) (c.index_mut.result.now, first, f.log)));
      len = search rules;
      capacity = search rules;
      rest = λ n le. ap (λ (s : Started _). slice_get s.jobs n) f.joined ∙
          get_else c.loop-i.spawner.jobs (c.args.base + c.loop-i.i) n None (λ e. omega arith) ∙
          inv.rest n (omega arith);
      faults = ap (λ (s : Started _). s.faults) f.joined ∙ inv.faults;
      count = n ∙ length_set c.loop-i.spawner.jobs (c.args.base + c.loop-i.i) None ∙ inv.count;
      gone = joined_one c.args.spawner.now.jobs c.loop-i.spawner.jobs _ c.args.base c.loop-i.i
          inv.gone (get_some c.args.spawner.now.jobs (c.args.base + c.loop-i.i) _
          (c.requires.started c.loop-i.i c.index_mut.result.now first))
          (ap (λ (s : Started _). s.jobs) f.joined);
    }
