-- One more record is linked to the place after it.
use Rattle.std.proofs.Common.{refl, arith}
use Rattle.command_pool.specs.Layout.{links_of, rising}
use Rattle.command_pool.proofs.Records.{links_of-push}
use Rattle.command_pool.proofs.Opened.{rising-pushed}
use Rattle.command_pool.proofs.linking.free_records.Goals as goal

pub loop-place-init : goal.loop-place-init
unfolding links_of rising
loop-place-init c = record {
  links = rw c.in_ok-records.ensures.items refl;
  len = c.in_ok-records.ensures.len;
  room = c.in_ok-records.ensures.capacity;
}

pub loop-place-preserved : goal.loop-place-preserved
loop-place-preserved c = record {
  links = rw (c.push_reserved.ensures.items, links_of-push, c.loop-place.invariant.links) (rising-pushed c.loop-place.place);
  len = omega (arith, c.push_reserved.ensures.len, c.loop-place.invariant.len);
  room = omega (arith, c.push_reserved.ensures.capacity, c.loop-place.invariant.room);
}
