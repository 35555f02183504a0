-- Each size is that of its difference.
use Rattle.std.proofs.Common.{arith}
use Rattle.std.proofs.lemmas.Int.{ints}
use Rattle.jerk_core.proofs.taking.upward.Goals as goal

pub returns : goal.returns
returns c = record {
  is = record {
    last = omega (arith, ints, c.size_between-3.ensures.value);
    speed = omega (arith, ints, c.size_between-4.ensures.value);
    ahead = omega (arith, ints, c.size_between.ensures.value);
    behind = omega (arith, ints, c.size_between-2.ensures.value);
  };
}
