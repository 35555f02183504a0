-- One more list has its bits.
use Rattle.std.proofs.Common.{arith}
use Rattle.command_pool.specs.Waiting.{queue_of}
use Rattle.segment_text.specs.Held.{AreWaiting}
use Rattle.segment_text.proofs.BitLaws.{all_lists, one_list_more}
use Rattle.segment_text.proofs.bits.lists_have_bits.Goals as goal

pub loop-list-preserved : goal.loop-list-preserved
loop-list-preserved c = one_list_more c.args.start.now.queues c.loop-list.list c.loop-list.invariant c.list_has_bits.ensures

pub returns : goal.returns
returns c = all_lists c.args.start.now.queues (λ n l. c.loop-list.invariant n (omega arith))
