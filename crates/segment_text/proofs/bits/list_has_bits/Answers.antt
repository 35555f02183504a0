-- One more has its bits.
use Rattle.std.proofs.Common.{arith}
use Rattle.command_pool.specs.Waiting.{queue_of}
use Rattle.segment_text.specs.Held.{IsWanted}
use Rattle.segment_text.proofs.BitLaws.{all_places, one_more}
use Rattle.segment_text.proofs.bits.list_has_bits.Goals as goal

pub loop-place-preserved : goal.loop-place-preserved
loop-place-preserved c = one_more (IsWanted) (queue_of c.args.start.now.queues c.args.list) c.loop-place.place c.loop-place.invariant c.waiting_at_has_bits.ensures

pub returns : goal.returns
returns c =
    let count = c.waiting_count-place-end.ensures.count in
    let few = c.waiting_count-place-end.ensures.few in
    record {
      few = omega (arith, count, few);
      each = all_places IsWanted (queue_of c.args.start.now.queues c.args.list) (λ n l. c.loop-place.invariant n (omega (arith, count)));
    }
