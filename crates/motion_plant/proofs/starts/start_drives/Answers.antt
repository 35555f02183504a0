-- One drive more is started; it can be opened.
use Rattle.std.proofs.Common.{rules, ◌∙◌}
use Rattle.motion_plant.proofs.Lists.{get_or_at}
use Rattle.motion_plant.proofs.Started.{line_more, started_more}
use Rattle.motion_plant.specs.Jobs.{line_job}
use Rattle.motion_plant.proofs.starts.start_drives.Goals as goal

pub loop-i-preserved : goal.loop-i-preserved
loop-i-preserved g c =
    let inv = c.loop-i.invariant in
    let e = c.in_ok-line.ensures in
    let a = get_or_at c.args.axes.now c.loop-i.i c.index-axes-i.result
    (search rules) c.index-axes-i.is in
    let d = get_or_at c.args.defs.now c.loop-i.i c.index-defs-i.result
    (search rules) c.index-defs-i.is in
    record {
      started = started_more line_job _ _ _ _ _ _ e.started inv.started c.push_within.ensures.items;
      fresh = line_more c.args.axes.now c.args.defs.now c.loop-i.lines.items
          c.push_within.new.list.items c.in_ok-line.line c.index-axes-i.result c.index-defs-i.result
          c.loop-i.i inv.fresh c.push_within.ensures.items (search rules) a d (e.line.0 ∙
          c.in-Ok.ensures) (e.line.1, e.line.2, e.line.3);
      len = search rules;
      capacity = search rules;
      faults = e.faults ∙ inv.faults;
    }

pub open_drive-requires-clause-drive : goal.open_drive-requires-clause-drive
open_drive-requires-clause-drive g c = c.drives_can_be_opened.ensures.one _ (search rules)
