-- The speed falls by the least of its three bounds.
use Rattle.std.proofs.Common.{arith}
use Rattle.jerk_core.proofs.Brakes.{reach_within, braked_rising, braked_falling}
use Rattle.jerk_core.proofs.braking.braked.Goals as goal

pub overflow_sub-result-else-bend-speed : goal.overflow_sub-result-else-bend-speed
overflow_sub-result-else-bend-speed c = omega (arith, c.greatest_fall.ensures.value, reach_within c.args.speed c.args.j (omega (arith, c.requires.j_least)))

pub returns-then-bend-speed : goal.returns-then-bend-speed
returns-then-bend-speed c = record {
  value = braked_rising c.args.d c.args.j c.args.last c.args.speed (omega (arith, c.requires.j_least)) (omega arith);
}

pub returns-else-bend-speed : goal.returns-else-bend-speed
returns-else-bend-speed c = record {
  value = braked_falling c.args.d c.args.j c.args.last c.args.speed c.greatest_fall.result (omega (arith, c.requires.j_least)) (omega arith)
      (omega (arith, c.greatest_fall.ensures.value, c.min.ensures));
}
