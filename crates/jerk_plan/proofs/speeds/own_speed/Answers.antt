-- A motion that is kept, and its greatest safe speed; what is kept is small.
use Rattle.std.proofs.Common.{arith}
use Rattle.jerk_plan.proofs.speeds.own_speed.Goals as goal

pub returns-then-last-clause-none : goal.returns-then-last-clause-none
returns-then-last-clause-none g c = λ is kept. omega (arith, kept.loses, kept.speed, c.requires.rates.v_most, c.requires.rates.d_most)

pub returns-clause-found : goal.returns-clause-found
returns-clause-found g c = λ x is. record {
  kept = c.safe_speed.ensures.kept x is;
  speed = record { safe = c.safe_speed.ensures.safe x is; greatest = λ y safe. c.safe_speed.ensures.greatest x y is safe };
}
