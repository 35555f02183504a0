-- Group by group.
use Rattle.std.proofs.Common.{arith}
use Rattle.segment_text.specs.TraceSegment.{group_queue, group_records}
use Rattle.segment_text.specs.Records.{group_fields}
use Rattle.segment_text.proofs.HeaderLaws.{no_lines_put, objects_put, take-all}
use Rattle.segment_text.proofs.writing.header.push_groups.Goals as goal

pub loop-group-init : goal.loop-group-init
loop-group-init c = no_lines_put _

pub loop-group-preserved : goal.loop-group-preserved
loop-group-preserved c =
    objects_put group_fields (group_queue c.args.start.now) c.args.start.now.groups c.loop-group.group _ _ _ c.loop-group.invariant c.in_ok-push_group_at.ensures

pub returns : goal.returns
unfolding group_records
returns c = rw (take-all c.args.start.now.groups c.loop-group.group (omega arith)) at c.loop-group.invariant
