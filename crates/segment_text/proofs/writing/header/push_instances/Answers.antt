-- Instance by instance.
use Rattle.std.proofs.Common.{arith}
use Rattle.segment_text.specs.TraceSegment.{instance_records}
use Rattle.segment_text.specs.Records.{instance_fields}
use Rattle.segment_text.proofs.HeaderLaws.{no_lines_put, records_put, take-all}
use Rattle.segment_text.proofs.writing.header.push_instances.Goals as goal

pub loop-block-init : goal.loop-block-init
loop-block-init c = no_lines_put _

pub loop-block-preserved : goal.loop-block-preserved
loop-block-preserved c =
    records_put instance_fields c.args.start.now.instances c.loop-block.block _ _ _ c.loop-block.invariant c.in_ok-push_instance_at.ensures

pub returns : goal.returns
unfolding instance_records
returns c = rw (take-all c.args.start.now.instances c.loop-block.block (omega arith)) at c.loop-block.invariant
