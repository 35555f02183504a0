-- One more has its bits.
use Rattle.std.proofs.Common.{arith}
use Rattle.segment_text.specs.Held.{HasGroupBits}
use Rattle.segment_text.proofs.BitLaws.{all_places, one_more}
use Rattle.segment_text.proofs.bits.groups_have_bits.Goals as goal

pub loop-group-preserved : goal.loop-group-preserved
loop-group-preserved c = one_more (HasGroupBits) (c.args.start.now.groups) c.loop-group.group c.loop-group.invariant c.group_at_has_bits.ensures

pub returns : goal.returns
returns c = all_places (HasGroupBits) (c.args.start.now.groups) (λ n l. c.loop-group.invariant n (omega arith))
