-- The steps begin at a power of two above the root.
use Rattle.std.proofs.Common.{◌^◌, ◌*◌, ◌%◌, ◌/◌, ◌+◌, ◌<◌, arith}
use Rattle.ramp_root.proofs.RootLemmas.{exponent-below, first-start, IsStart}
use Rattle.ramp_root.proofs.roots.root.Goals as goal
use Rattle.ramp_root.proofs.roots.root.Goals.{After-ilog2}

start : (c : After-ilog2) → IsStart c.args.n (1 * 2 ^ (c.ilog2.result / 2 + 1) % 2 ^ 64)
start c = first-start c.args.n c.ilog2.result c.ilog2.ensures.power_le c.ilog2.ensures.next_power_gt c.requires

pub overflow_shl-root : goal.overflow_shl-root
overflow_shl-root c =
    let below : c.ilog2.result < 120 = exponent-below c.args.n c.ilog2.result c.ilog2.ensures.power_le c.requires in omega arith

pub nearer-next-requires-clause-some : goal.nearer-next-requires-clause-some
nearer-next-requires-clause-some c = (start c).some

pub nearer-next-requires-clause-size : goal.nearer-next-requires-clause-size
nearer-next-requires-clause-size c = (start c).size

pub nearer-next-requires-clause-not_below : goal.nearer-next-requires-clause-not_below
nearer-next-requires-clause-not_below c = (start c).not_below

pub loop-next-init : goal.loop-next-init
loop-next-init c =
    let first : IsStart c.args.n (1 * 2 ^ (c.ilog2.result / 2 + 1) % 2 ^ 64) =
    first-start c.args.n c.ilog2.result c.ilog2.ensures.power_le c.ilog2.ensures.next_power_gt c.requires in
    record {
      some = first.some;
      size = first.size;
      not_below = first.not_below;
      mean = c.nearer-next.ensures.value;
      next_not_below = c.nearer-next.ensures.not_below;
    }
