-- The start of an axis in its ranges has a count.
use Rattle.std.specs.Prelude.{pos}
use Rattle.std.proofs.Common.{rules, w64, FitsSigned, to_z-of_z}
use Rattle.machine_drives.proofs.drives.open_drive.Goals as goal

pub target_count-count-requires-clause-count : goal.target_count-count-requires-clause-count
target_count-count-requires-clause-count c =
    let ranges = c.axes_are_in_range.ensures.ranges c.args.axis.now c.requires.axis in
    let counts = c.setpoints_have_counts.ensures c.args.axis.now.limits c.args.axis.now.start
    (pos 0) c.args.axis.now.inc
    ranges.least ranges.counts ranges.above ranges.below in
    let start : FitsSigned w64 c.args.axis.now.start = search rules in
    let inc : FitsSigned w64 c.args.axis.now.inc = search rules in
    simp to_z-of_z counts
