-- What was asserted of the pair, and what the call answered.
use Rattle.std.proofs.Common.{◌↔◌, IsTrue, FitsSigned, w64, to_z-of_z, arith}
use Rattle.std.proofs.lemmas.Int.{ints}
use Rattle.kin_core.specs.Admissible.{IsStoppable}
use Rattle.plan_tests.proofs.tests.can_stop.Goals as goal

pub returns : goal.returns
returns g c = λ yes.
    let before_fits : FitsSigned w64 c.args.before = c.ranges.before in
    let now_fits : FitsSigned w64 c.args.now = c.ranges.now in
    let value : IsTrue c.stoppable.result ↔ IsStoppable c.args.limits.now c.args.before c.args.now =
    simp to_z-of_z at c.stoppable.ensures.value in
    record {
      above = omega (arith, ints);
      below = omega (arith, ints);
      speed = omega (arith, ints);
      stoppable = value.0 yes;
    }
