-- One line more is reported of its end.
use Rattle.std.proofs.Common.{rules, ap, ◌∙◌}
use Rattle.std.specs.Prelude.{slice_set}
use Rattle.motion_plant.specs.Lines.{ended_line}
use Rattle.motion_plant.proofs.Lists.{get_or_at, map_set, map_length}
use Rattle.motion_plant.proofs.finish.end_all.Goals as goal

pub loop-i-preserved : goal.loop-i-preserved
loop-i-preserved c =
    let len = map_length ended_line c.args.lines.now.items c.loop-i.lines.items c.loop-i.i
    c.loop-i.invariant in
    let at = get_or_at c.loop-i.lines.items c.loop-i.i c.index_mut.result.now
    (search rules) c.index_mut.ensures.value in
    ap (λ y. slice_set c.loop-i.lines.items c.loop-i.i y) c.end.ensures ∙
    map_set ended_line c.args.lines.now.items c.loop-i.lines.items c.loop-i.i
    c.index_mut.result.now at c.loop-i.invariant
