-- One more has its bits.
use Rattle.std.proofs.Common.{arith}
use Rattle.fb_outputs.specs.InstanceState.{InstanceState}
use Rattle.segment_text.specs.Held.{IsProgress}
use Rattle.segment_text.proofs.BitLaws.{all_places, one_more}
use Rattle.segment_text.proofs.bits.instances_have_bits.Goals as goal

pub loop-block-preserved : goal.loop-block-preserved
loop-block-preserved c = one_more (λ (i : InstanceState). IsProgress i.progress) (c.args.start.now.instances) c.loop-block.block c.loop-block.invariant c.instance_at_has_bits.ensures

pub returns : goal.returns
returns c = all_places (λ (i : InstanceState). IsProgress i.progress) (c.args.start.now.instances) (λ n l. c.loop-block.invariant n (omega arith))
