-- What lesser rates keep the limits keep.
use Rattle.std.proofs.Common.{arith}
use Rattle.jerk_core.proofs.KeptMotions.{safe_by_more}
use Rattle.jerk_plan.proofs.laws.move_steps_are_safe.Goals as goal

pub returns : goal.returns
returns c = λ own rates way room w v x ok within less move.
    safe_by_more own.v own.a own.d own.j way rates.v rates.a rates.d rates.j room w v x (omega (arith, ok.d_least)) (omega (arith, ok.j_least))
    within.v within.a within.d within.j less move.safe
