-- Axis by axis.
use Rattle.std.proofs.Common.{arith}
use Rattle.command_pool.specs.Waiting.{queue_of}
use Rattle.segment_text.specs.TraceSegment.{axis_records}
use Rattle.segment_text.specs.Records.{axis_fields}
use Rattle.segment_text.proofs.HeaderLaws.{no_lines_put, objects_put, take-all}
use Rattle.segment_text.proofs.writing.header.push_axes.Goals as goal

pub loop-axis-init : goal.loop-axis-init
loop-axis-init c = no_lines_put _

pub loop-axis-preserved : goal.loop-axis-preserved
loop-axis-preserved c =
    objects_put axis_fields (queue_of c.args.start.now.queues) c.args.start.now.axes c.loop-axis.axis _ _ _ c.loop-axis.invariant c.in_ok-push_axis_at.ensures

pub returns : goal.returns
unfolding axis_records
returns c = rw (take-all c.args.start.now.axes c.loop-axis.axis (omega arith)) at c.loop-axis.invariant
