-- The speed 1 brakes to none at once.
use Rattle.std.proofs.Common.{arith}
use Rattle.jerk_core.proofs.KeptMotions.{start_safe}
use Rattle.jerk_core.proofs.laws.rest_can_be_left.Goals as goal

pub returns : goal.returns
returns c = λ rates room ok some.
    start_safe rates.v rates.a rates.d rates.j room (omega (arith, ok.v_least)) (omega (arith, ok.a_least)) (omega (arith, ok.d_least)) (omega (arith, ok.j_least)) some
