-- One more has its bits.
use Rattle.std.proofs.Common.{arith}
use Rattle.segment_text.specs.Held.{HasAxisBits}
use Rattle.segment_text.proofs.BitLaws.{all_places, one_more}
use Rattle.segment_text.proofs.bits.axes_have_bits.Goals as goal

pub loop-axis-preserved : goal.loop-axis-preserved
loop-axis-preserved c = one_more (HasAxisBits) (c.args.start.now.axes) c.loop-axis.axis c.loop-axis.invariant c.axis_at_has_bits.ensures

pub returns : goal.returns
returns c = all_places (HasAxisBits) (c.args.start.now.axes) (λ n l. c.loop-axis.invariant n (omega arith))
